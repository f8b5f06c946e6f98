use Rattle.fs_linearize.proofs.TellingLemmas.{TellsAlong}
use Rattle.fs_linearize.proofs.telling.tell.Given as goal

abbrev pub invariant-loop-step : goal.invariant-loop-step
invariant-loop-step l = TellsAlong l.start l.fn.history.items l.steps l.step-index l.telling
