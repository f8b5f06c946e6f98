use Rattle.std.proofs.Common.{◌≡◌, ℕ, Some, ◌<◌, get_or}
use Rattle.std.specs.Prelude.{slice_get}
use Rattle.fs_core_seats.specs.declared.helping.Way.{Way}
use Rattle.fs_core_seats.proofs.helping.is_met.Given as goal

-- no way so far
abbrev pub invariant-loop-i : goal.invariant-loop-i
invariant-loop-i l = (k : ℕ) (way : Way) → k < l.i → slice_get l.ways (get_or l.listed k 0) ≡ Some way → way.above ≡ Some l.seat → ⊥
