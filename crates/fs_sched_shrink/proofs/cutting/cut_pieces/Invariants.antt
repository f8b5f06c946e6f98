use Rattle.std.proofs.Common.{◌-◌, ◌≤◌}
use Rattle.fs_sched_shrink.specs.Shrinks.{IsShrunkOn}
use Rattle.fs_sched_shrink.specs.declared.limits.TheConstants.{TRIAL_LIMIT}
use Rattle.fs_sched_shrink.proofs.cutting.cut_pieces.Given as goal

abbrev pub invariant-pieces : goal.invariant-pieces
invariant-pieces l = IsShrunkOn l.from l.script l.what l.kept.items × (l.runs ≤ TRIAL_LIMIT)

abbrev pub decreases-pieces : goal.decreases-pieces
decreases-pieces l = l.count - l.first
