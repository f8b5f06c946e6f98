use Rattle.std.proofs.Common.{◌-◌, ◌≤◌}
use Rattle.fs_sched_shrink.specs.Shrinks.{IsShrunkOn}
use Rattle.fs_sched_shrink.specs.declared.limits.TheConstants.{TRIAL_LIMIT}
use Rattle.fs_sched_shrink.proofs.cutting.cut_ones.Given as goal

abbrev pub invariant-passes : goal.invariant-passes
invariant-passes l = IsShrunkOn l.from l.script l.what l.kept.items × (l.runs ≤ TRIAL_LIMIT)

abbrev pub decreases-passes : goal.decreases-passes
decreases-passes l = TRIAL_LIMIT - l.runs
