use Rattle.std.proofs.Common.{◌≡◌, ℕ, Some, ◌<◌, get_or}
use Rattle.fs_core_seats.specs.code.Searches.{position_on}
use Rattle.fs_core_seats.proofs.helping.other_at.Given as goal

-- no seat so far
abbrev pub invariant-loop-i : goal.invariant-loop-i
invariant-loop-i l = (k : ℕ) → k < l.i → (l.seat ≡ get_or l.listed k 0 → ⊥) → position_on l.seats (get_or l.listed k 0) ≡ Some l.node → ⊥
