use Rattle.std.proofs.Common.{◌≡◌, ◌≤◌}
use Rattle.fs_sched_shrink.specs.Moves.{kept_count}
use Rattle.fs_sched_shrink.proofs.moving.count_kept.Given as goal

abbrev pub invariant-loop-at : goal.invariant-loop-at
invariant-loop-at l = (l.count ≡ kept_count l.at l.kept) × (l.count ≤ l.at)
