use Rattle.std.proofs.Common.{sym}
use Rattle.fs_sched_reach.proofs.Adding.{word_stays, word_stuck}
use Rattle.fs_sched_reach.proofs.writing.push_word.Goals as goal

pub returns-in_default : goal.returns-in_default
returns-in_default c = word_stays c.args.from.now c.args.limits c.args.text.now.items c.push_part.new.text.items c.args.word.now (sym c.in_default.ensures) c.in_ok-push_part.ensures

pub returns-in-None : goal.returns-in-None
returns-in-None c = word_stuck c.args.from.now c.args.limits c.args.text.now.items c.deref.result.now c.args.word.now _ c.in_ok-count.field-0 c.in-Some.ensures c.in-None.is c.deref.ensures.value c.in_ok-count.ensures
