use Rattle.std.proofs.Common.{◌≡◌, ℕ, List, Some, subst, ◌∙◌}
use Rattle.std.specs.Prelude.{slice_get}
use Rattle.fs_trace_replay.proofs.AnswerLemmas.{place_within}
use Rattle.fs_trace_replay.proofs.answering.place_in.Goals as goal

pub returns-in-Some-clause-few : goal.returns-in-Some-clause-few
returns-in-Some-clause-few c = place_within c.args.entries.now c.args.number c.in-Some.place (subst (λ (xs : List ℕ). slice_get xs c.in-Some.place ≡ Some c.args.number) (c.deref.ensures.value ∙ c.in-Ok.ensures) c.in-Some.ensures)

pub returns-in-Some-clause-place : goal.returns-in-Some-clause-place
returns-in-Some-clause-place c = subst (λ (xs : List ℕ). slice_get xs c.in-Some.place ≡ Some c.args.number) (c.deref.ensures.value ∙ c.in-Ok.ensures) c.in-Some.ensures
