use Rattle.fs_linearize.proofs.TellingLemmas.{some_due}
use Rattle.fs_linearize.proofs.telling.reply_of.Goals as goal

pub returns : goal.returns
returns c = record {
  reply = λ due_each. c.in_ok-due_reply-in-AnyError.ensures c.args.pattern (some_due c.args.start.now c.args.journal.now c.args.kept.now.items c.take-one.result c.take-one.ensures.some due_each);
  rest = c.take-one.ensures.rest;
}
