use Rattle.std.proofs.Common.{◌∙◌, ap, arith}
use Rattle.fs_sched.specs.Schedules.{events_of_all}
use Rattle.fs_sched.proofs.Turning.{most_more}
use Rattle.fs_sched.proofs.turns.most_events.Goals as goal

pub loop-calls-preserved : goal.loop-calls-preserved
loop-calls-preserved c = record {
  most = c.max-most.ensures ∙ most_more (λ v. v.items) c.args.lists.now c.loop-calls.calls-index c.loop-calls.most c.events_of_all.result c.calls-item.result c.loop-calls-test.true c.calls-item.is c.loop-calls.invariant.most (c.events_of_all.ensures.events ∙ ap events_of_all c.deref.ensures.value);
  some = omega (arith, c.max-most.ensures, c.loop-calls.invariant.some);
  few = omega (arith, c.max-most.ensures, c.loop-calls.invariant.few, c.events_of_all.ensures.few);
}
