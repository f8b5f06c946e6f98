use Rattle.fs_sched_shrink.specs.code.Passes.{IsTrying}
use Rattle.fs_sched_shrink.proofs.cutting.cut_each.Given as goal

abbrev pub invariant-loop-at : goal.invariant-loop-at
invariant-loop-at l = IsTrying l.from l.script l.what l.fn.kept.items l.kept.items l.at l.fn.runs l.runs l.pass
