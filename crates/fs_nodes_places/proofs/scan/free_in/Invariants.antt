use Rattle.std.proofs.Common.{ℕ, ◌<◌}
use Rattle.std.specs.Prelude.{slice_get}
use Rattle.fs_nodes_places.specs.code.PlainEdits.{IsTaken}
use Rattle.fs_nodes_places.proofs.scan.free_in.Given as goal

abbrev pub invariant-loop-i : goal.invariant-loop-i
invariant-loop-i l = (k : ℕ) → k < l.i → IsTaken (slice_get l.places k)
