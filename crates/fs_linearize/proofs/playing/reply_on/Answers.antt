use Rattle.fs_linearize.proofs.PlayingLemmas.{plays_step_at, played_due}
use Rattle.fs_linearize.proofs.playing.reply_on.Goals as goal

pub loop-step-preserved : goal.loop-step-preserved
loop-step-preserved c = plays_step_at c.args.start.now c.args.history.now c.args.steps.now c.args.number c.loop-step.step-index _ c.loop-step.played c.in_ok-played.played c.loop-step-test.true c.in_ok-played.ensures c.loop-step.invariant

pub returns : goal.returns
returns c = played_due c.args.start.now c.args.history.now c.args.steps.now c.args.number c.loop-step.step-index c.loop-step.played c.loop-step-test.false c.loop-step.invariant
