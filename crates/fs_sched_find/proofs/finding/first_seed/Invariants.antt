use Rattle.std.proofs.Common.{ℕ, ◌+◌, ◌≤◌, ◌<◌, not}
use Rattle.fs_sched_find.specs.Finds.{DrawnHas}
use Rattle.fs_sched_find.proofs.finding.first_seed.Given as goal

abbrev pub invariant-loop-run : goal.invariant-loop-run
invariant-loop-run g l = (k : ℕ) → l.seed ≤ k → k < l.seed + l.run → DrawnHas l.campaign k l.script l.what (not l.wanted)
