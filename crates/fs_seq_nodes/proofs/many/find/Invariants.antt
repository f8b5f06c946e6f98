use Rattle.std.proofs.Common.{◌≡◌, ◌+◌}
use Rattle.fs_seq_nodes.specs.code.Lists.{before}
use Rattle.fs_seq_nodes.proofs.many.find.Given as goal

-- the place, counted from the list
abbrev pub invariant-loop-i : goal.invariant-loop-i
invariant-loop-i l = l.place ≡ before l.lists l.i + l.left
