use Rattle.std.proofs.Common.{◌≡◌, ◌≤◌, ◌-◌, ◌*◌, Some, take, drop, map}
use Rattle.fs_seq_nodes.specs.code.Nodes.{place}
use Rattle.fs_seq_nodes.specs.code.Slots.{links_of}
use Rattle.fs_names.specs.declared.name_list.TheConstants.{NAME_TEXT}
use Rattle.fs_seq.proofs.queries.names_of.Given as goal

-- the names so far, and there is room for all others
abbrev pub invariant-loop-at : goal.invariant-loop-at
invariant-loop-at l = record {
  names : l.names.names ≡ take (l.at - l.from) (drop l.from (map (λ k. k.0) (links_of (Some (place l.node)))));
  from : l.from ≤ l.at;
  within : l.at ≤ l.end;
  room : (l.end - l.at) * NAME_TEXT ≤ l.names.room;
}

-- each round has one more at least
abbrev pub decreases-loop-at : goal.decreases-loop-at
decreases-loop-at l = l.end - l.at
