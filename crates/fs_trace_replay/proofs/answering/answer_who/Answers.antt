use Rattle.std.proofs.Common.{ℕ, Option, Some, true, length, refl, subst}
use Rattle.fs_trace_replay.specs.Changes.{IsLastChange}
use Rattle.fs_trace_replay.specs.code.Seen.{calls_in}
use Rattle.fs_trace_replay.proofs.AnswerLemmas.{change_told}
use Rattle.fs_trace_replay.proofs.answering.answer_who.Goals as goal

pub returns-in_ok-commit_line-in-Some : goal.returns-in_ok-commit_line-in-Some
returns-in_ok-commit_line-in-Some c =
    change_told c.args.names.now c.args.entries.now c.args.start c.args.calls.now c.args.path.now (Some c.in-Some.place) true c.in_ok-commit_line-in-Some.field-0.items
    (subst (λ (o : Option ℕ). IsLastChange c.args.start (calls_in c.args.calls.now) c.args.path.now (length c.args.calls.now) o) c.in-Some.is c.in_ok-last_change.ensures) (refl, c.in_ok-commit_line-in-Some.ensures)
