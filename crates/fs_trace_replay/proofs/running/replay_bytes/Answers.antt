use Rattle.std.proofs.Common.{sym, ◌∙◌}
use Rattle.std.proofs.lemmas.Bool.{and_parts}
use Rattle.fs_trace_replay.specs.code.Tellings.{value_of}
use Rattle.fs_trace_replay.proofs.AnswerLemmas.{unanswered}
use Rattle.fs_trace_replay.proofs.running.replay_bytes.Goals as goal

pub returns-in-Err-answer_to : goal.returns-in-Err-answer_to
returns-in-Err-answer_to c = record {
  replay = record {
    answer = tt;
    quiet = tt;
    fault = unanswered c.args.schedule c.args.text.now (value_of c.in-Ok.told) c.args.question.now c.in-Err-answer_to.fault c.in-Ok.ensures.told c.in-Err-answer_to.ensures.fault;
  };
}

pub returns-in-Ok-reason_for : goal.returns-in-Ok-reason_for
returns-in-Ok-reason_for c = record {
  replay = record {
    answer = (value_of c.in-Ok.told, c.in-Ok.ensures.told, c.in-Ok-answer_to.answer.end, c.in-Ok-answer_to.ensures.answer, c.both-well.ensures);
    quiet = λ e. c.in-Ok-reason_for.ensures.quiet ((and_parts _ _ (sym c.both-well.ensures ∙ e)).0);
    fault = tt;
  };
}
