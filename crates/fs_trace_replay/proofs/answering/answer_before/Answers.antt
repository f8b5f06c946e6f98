use Rattle.std.proofs.Common.{◌≡◌, true, take}
use Rattle.std.proofs.lemmas.Result.{IfOk-weaker}
use Rattle.fs_calls.specs.Outcomes.{play}
use Rattle.fs_script.specs.TreeText.{tree_text}
use Rattle.fs_trace_replay.specs.code.Seen.{calls_in}
use Rattle.fs_trace_replay.specs.code.Tellings.{IsTreeBefore}
use Rattle.fs_trace_replay.proofs.AnswerLemmas.{before_answer}
use Rattle.fs_trace_replay.proofs.answering.answer_before.Goals as goal

pub returns-in-Ok-clause-answer : goal.returns-in-Ok-clause-answer
returns-in-Ok-clause-answer c = IfOk-weaker c.answer_behind.result (λ made. (made.end ≡ true) × (made.text.items ≡ tree_text (play c.args.start (calls_in (take c.in-Ok.place c.args.calls.now)))))
    (λ made. IsTreeBefore c.args.names.now c.args.start c.args.entries.now c.args.thread.now c.args.turn made.end made.text.items)
    (λ made h. before_answer c.args.names.now c.args.start c.args.calls.now c.args.entries.now c.args.thread.now c.args.turn c.in-Ok.place made.end made.text.items c.requires c.in-Ok.ensures.place h) c.answer_behind.ensures.answer
