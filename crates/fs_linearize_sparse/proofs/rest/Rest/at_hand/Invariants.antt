use Rattle.std.proofs.Common.{◌≡◌, length}
use Rattle.fs_linearize_sparse.specs.code.Extents.{bytes_left}
use Rattle.fs_linearize_sparse.proofs.rest.Rest.at_hand.Given as goal

abbrev pub invariant-loop-rest : goal.invariant-loop-rest
invariant-loop-rest l = bytes_left l.rest ≡ bytes_left l.self

-- each round leaves one extent less
abbrev pub decreases-loop-rest : goal.decreases-loop-rest
decreases-loop-rest l = length l.rest.extents.now
