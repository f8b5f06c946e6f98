use Rattle.std.proofs.Common.{◌≡◌, ◌+◌}
use Rattle.fs_seq_nodes.specs.code.Lists.{before}
use Rattle.fs_seq_nodes.proofs.many.place_of.Given as goal

-- the entries so far
abbrev pub invariant-loop-j : goal.invariant-loop-j
invariant-loop-j l = l.place ≡ before l.lists l.j + l.at
