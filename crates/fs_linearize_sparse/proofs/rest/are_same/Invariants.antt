use Rattle.std.proofs.Common.{◌≡◌, ◌↔◌, length}
use Rattle.fs_linearize_sparse.specs.code.Extents.{bytes_left}
use Rattle.fs_linearize_sparse.proofs.rest.are_same.Given as goal

-- what is left of both is the same exactly where they are
abbrev pub invariant-loop-left : goal.invariant-loop-left
invariant-loop-left l = record { one : length (bytes_left l.x) ≡ l.left; other : length (bytes_left l.y) ≡ l.left; same : (bytes_left l.x ≡ bytes_left l.y) ↔ (bytes_left l.one ≡ bytes_left l.other) }

-- proposed from the loop's first test
abbrev pub decreases-loop-left : goal.decreases-loop-left
decreases-loop-left l = l.left
