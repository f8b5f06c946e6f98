use Rattle.std.proofs.Common.{◌≤◌}
use Rattle.fs_sched_shrink.specs.Shrinks.{IsShrunkOn}
use Rattle.fs_sched_shrink.specs.declared.limits.TheConstants.{TRIAL_LIMIT}
use Rattle.fs_sched_shrink.proofs.cutting.cut_by_halves.Given as goal

abbrev pub invariant-halves : goal.invariant-halves
invariant-halves l = IsShrunkOn l.from l.script l.what l.kept.items × (l.runs ≤ TRIAL_LIMIT)

abbrev pub decreases-halves : goal.decreases-halves
decreases-halves l = l.size
