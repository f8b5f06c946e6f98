use Rattle.std.proofs.Common.{◌≤◌, length}
use Rattle.fs_share.proofs.told.return_place.Given as goal

abbrev pub invariant-loop-left : goal.invariant-loop-left
invariant-loop-left l = l.left ≤ length l.entries

-- the places that are left to look at
abbrev pub decreases-loop-left : goal.decreases-loop-left
decreases-loop-left l = l.left
