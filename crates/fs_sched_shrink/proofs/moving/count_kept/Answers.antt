use Rattle.fs_sched_shrink.proofs.Counting.{counted}
use Rattle.fs_sched_shrink.proofs.moving.count_kept.Goals as goal

pub loop-at-preserved : goal.loop-at-preserved
loop-at-preserved c = counted c.args.kept.now c.flags_behind.result.now c.loop-at.at c.loop-at.count c.one_if-count.result c.first_flag.result c.loop-at.invariant.0 c.loop-at.invariant.1 c.flags_behind.ensures c.first_flag.ensures c.one_if-count.ensures
