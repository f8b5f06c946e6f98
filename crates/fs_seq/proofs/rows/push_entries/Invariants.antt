use Rattle.std.proofs.Common.{◌≡◌, ◌≤◌, ◌++◌, Some, drop, length, reverse}
use Rattle.fs_seq_nodes.specs.code.Nodes.{place}
use Rattle.fs_seq_nodes.specs.code.Slots.{links_of}
use Rattle.fs_seq.specs.code.Walks.{entries_below}
use Rattle.fs_seq.proofs.rows.push_entries.Given as goal

-- the entries from a place on are ahead, the last one first
abbrev pub invariant-loop-left : goal.invariant-loop-left
invariant-loop-left l = record {
  ahead : l.ahead.items ≡ l.fn.ahead.items ++ reverse (entries_below l.key (drop l.left (links_of (Some (place l.node)))));
  within : l.left ≤ length (links_of (Some (place l.node)));
}

-- each round comes to one more at least
abbrev pub decreases-loop-left : goal.decreases-loop-left
decreases-loop-left l = l.left
