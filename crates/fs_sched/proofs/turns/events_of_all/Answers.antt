use Rattle.std.proofs.Common.{◌∙◌}
use Rattle.fs_sched.proofs.Turning.{events_more}
use Rattle.fs_sched.proofs.turns.events_of_all.Goals as goal

pub loop-call-preserved : goal.loop-call-preserved
loop-call-preserved c = c.min-events.ensures ∙ events_more c.args.calls.now c.loop-call.call-index c.loop-call.events c.events_of.result c.call-item.result c.loop-call-test.true c.call-item.is c.loop-call.invariant c.events_of.ensures.events
