use Rattle.std.proofs.Common.{◌≡◌, ◌≤◌, ◌+◌, ◌++◌, length, reverse}
use Rattle.std.specs.Prelude.{vec_capacity}
use Rattle.fs_seq_nodes.proofs.piece.move_end.Given as goal

-- the entries that are left, and those that were moved, the last one first
abbrev pub invariant-loop-to : goal.invariant-loop-to
invariant-loop-to l = record {
  parts : l.from.items ++ reverse l.to.items ≡ l.fn.from.items;
  within : l.at ≤ length l.from.items;
  fits : length l.from.items + length l.to.items ≤ vec_capacity l.to;
  room : vec_capacity l.from ≡ vec_capacity l.fn.from;
  to_room : vec_capacity l.to ≡ vec_capacity l.fn.to;
}

-- each round takes one
abbrev pub decreases-loop-to : goal.decreases-loop-to
decreases-loop-to l = length l.from.items
