use Rattle.std.proofs.Common.{◌≡◌, ◌++◌, length, map, true}
use Rattle.std.specs.List.{list_all}
use Rattle.fs_seq.specs.Rows.{row_of, is_plain}
use Rattle.fs_seq_nodes.specs.code.Nodes.{graph}
use Rattle.fs_seq_nodes.specs.code.Slots.{keys_from, nodes_at}
use Rattle.fs_seq.specs.code.Walks.{pending}
use Rattle.fs_seq.proofs.Walked.{Leads}
use Rattle.fs_seq.proofs.rows.rows.Given as goal

-- the rows so far, and what is to come, are what the walk comes to
abbrev pub invariant-loop-at : goal.invariant-loop-at
invariant-loop-at l = record {
  leads : Leads (graph l.nodes) l.ahead.items;
  plain : list_all is_plain l.rows.items ≡ true;
  rows : map row_of l.rows.items ++ nodes_at (graph l.nodes) (pending (graph l.nodes) l.ahead.items) ≡ nodes_at (graph l.nodes) (keys_from (length (graph l.nodes)) (graph l.nodes) 0);
}

-- each round comes to one more
abbrev pub decreases-loop-at : goal.decreases-loop-at
decreases-loop-at l = length (pending (graph l.nodes) l.ahead.items)
