use Rattle.fs_linearize.proofs.PlayingLemmas.{PlaysAlong}
use Rattle.fs_linearize.proofs.playing.reply_on.Given as goal

abbrev pub invariant-loop-step : goal.invariant-loop-step
invariant-loop-step l = PlaysAlong l.start l.history l.steps l.number l.step-index l.played
