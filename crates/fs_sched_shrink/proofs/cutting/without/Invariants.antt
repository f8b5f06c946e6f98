use Rattle.std.proofs.Common.{◌≡◌, ℕ, ◌<◌, true, false, get_or, length}
use Rattle.fs_sched_shrink.specs.Moves.{is_named}
use Rattle.fs_sched_shrink.proofs.cutting.without.Given as goal

abbrev pub invariant-loop-at : goal.invariant-loop-at
invariant-loop-at l = (length l.left.items ≡ l.at) × ((k : ℕ) → k < l.at → is_named l.script l.what k ≡ true → get_or l.kept k false ≡ true → get_or l.left.items k false ≡ true)
