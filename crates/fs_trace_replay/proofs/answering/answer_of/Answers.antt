use Rattle.std.proofs.Common.{◌≡◌, ◌≤◌, ℕ, List, true, take, length, sym, subst}
use Rattle.std.specs.Prelude.{IfOk}
use Rattle.std.proofs.lemmas.Result.{IfOk-weaker}
use Rattle.fs_calls.specs.Outcomes.{play}
use Rattle.fs_script.specs.TreeText.{tree_text}
use Rattle.fs_trace_replay.specs.Replays.{IsAnswerTo}
use Rattle.fs_trace_replay.specs.code.Seen.{calls_in}
use Rattle.fs_trace_replay.specs.code.Tellings.{IsTreeBefore}
use Rattle.fs_trace_replay.specs.declared.asking.Question.{Question}
use Rattle.fs_trace_replay.specs.declared.asking.Question.TheVariants.{At}
use Rattle.fs_trace_replay.proofs.AnswerLemmas.{at_answer}
use Rattle.fs_trace_replay.proofs.answering.answer_of.Goals as goal

pub returns-in-At-clause-answer : goal.returns-in-At-clause-answer
returns-in-At-clause-answer c = subst (λ (q : Question). IfOk c.answer_at.result (λ made. IsAnswerTo c.args.names.now c.args.start c.args.entries.now q made.end made.text.items)) (sym c.in-At.is)
    (IfOk-weaker c.answer_at.result (λ made. (c.in-At.count ≤ length c.args.calls.now) × (made.end ≡ true) × (made.text.items ≡ tree_text (play c.args.start (calls_in (take c.in-At.count c.args.calls.now)))))
    (λ made. IsAnswerTo c.args.names.now c.args.start c.args.entries.now (At c.in-At.count) made.end made.text.items)
    (λ made h. at_answer c.args.start c.args.calls.now c.args.entries.now c.in-At.count made.end made.text.items c.requires.commits h) c.answer_at.ensures.answer)

pub returns-in-Before-clause-answer : goal.returns-in-Before-clause-answer
returns-in-Before-clause-answer c = subst (λ (q : Question). IfOk c.answer_before.result (λ made. IsAnswerTo c.args.names.now c.args.start c.args.entries.now q made.end made.text.items)) (sym c.in-Before.is)
    (subst (λ (xs : List ℕ). IfOk c.answer_before.result (λ made. IsTreeBefore c.args.names.now c.args.start c.args.entries.now xs c.in-Before.turn made.end made.text.items)) c.deref.ensures.value c.answer_before.ensures.answer)
