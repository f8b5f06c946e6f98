use Rattle.std.proofs.Common.{List, subst}
use Rattle.std.specs.Prelude.{IfOk, IfErr}
use Rattle.fs_timeline.specs.declared.entry.Entry.{Entry}
use Rattle.fs_trace_replay.specs.Replays.{IsAnswerTo}
use Rattle.fs_trace_replay.specs.code.Tellings.{IsUnanswered}
use Rattle.fs_trace_replay.proofs.answering.answer_to.Goals as goal

pub returns-in-Ok-clause-answer : goal.returns-in-Ok-clause-answer
returns-in-Ok-clause-answer c = subst (λ (es : List Entry). IfOk c.answer_of.result (λ made. IsAnswerTo c.args.told.names c.args.told.start es c.args.question.now made.end made.text.items)) c.deref-in-Ok.ensures.value c.answer_of.ensures.answer

pub returns-in-Ok-clause-fault : goal.returns-in-Ok-clause-fault
returns-in-Ok-clause-fault c = subst (λ (es : List Entry). IfErr c.answer_of.result (IsUnanswered c.args.told.names es c.args.question.now)) c.deref-in-Ok.ensures.value c.answer_of.ensures.fault
