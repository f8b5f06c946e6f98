use Rattle.fs_linearize.proofs.TellingLemmas.{tells_none}
use Rattle.fs_linearize.proofs.telling.tell.Goals as goal

pub loop-step-init : goal.loop-step-init
loop-step-init c = tells_none c.args.start.now c.args.history.items c.args.steps.now (record { journal = c.new.result; tree = c.in_ok-copy.field-0; kept = c.new-2.result; begins = c.new-3.result; rest = c.reverse.new.self }) c.new.ensures.items c.reverse.ensures.items c.in_ok-copy.ensures c.new-2.ensures.items
