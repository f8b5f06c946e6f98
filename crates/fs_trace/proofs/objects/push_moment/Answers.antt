use Rattle.std.proofs.Common.{◌≡◌, List, ◌++◌, refl, ap, ◌∙◌}
use Rattle.std.proofs.lemmas.Result.{on_ok_weaker}
use Rattle.fs_words.specs.JsonObjects.{Member, object_text}
use Rattle.fs_trace_story.specs.Shown.{deed_shown}
use Rattle.fs_trace.specs.Objects.{told_members}
use Rattle.fs_trace.proofs.objects.push_moment.Goals as goal

pub returns-clause-ok : goal.returns-clause-ok
returns-clause-ok c =
    let facts = c.in_ok-facts.facts.items in
    let first = told_members c.args.names.now (deed_shown c.args.line.now) in
    let is : c.in_ok-members.members.items ≡ first ++ facts = c.in_ok-members.ensures ∙ ap (λ (l : List Member). l ++ facts) c.in_ok-first.ensures in
    on_ok_weaker c.push_object.result (λ e. (object_text (first ++ facts), (facts, refl), e ∙ ap (λ (l : List Member). c.args.text.now.added ++ object_text l) (c.as_slice.ensures.value ∙ is))) c.push_object.ensures.ok
