use Rattle.std.proofs.Common.{◌+◌, ◌<◌, ◌^◌, ap, length, arith}
use Rattle.fs_sched_shrink.proofs.Counting.{add_fits, calls_more}
use Rattle.fs_sched_shrink.proofs.moving.calls_before.Goals as goal

pub overflow_add-count : goal.overflow_add-count
overflow_add-count c =
    let fits : c.loop-at.count + length c.of.result.now < 2 ^ 64 = add_fits c.args.lists.now c.loop-at.at c.loop-at.count (length c.of.result.now) c.loop-at.invariant (ap length c.of.ensures) c.requires in
    omega (arith, fits)

pub loop-at-preserved : goal.loop-at-preserved
loop-at-preserved c = calls_more c.args.lists.now c.of.result.now c.loop-at.at c.loop-at.count c.loop-at.invariant c.of.ensures
