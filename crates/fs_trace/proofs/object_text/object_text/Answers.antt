use Rattle.std.proofs.Common.{List, ℕ, ◌++◌, ap, ◌∙◌}
use Rattle.fs_core.specs.CoreValues.{state_of}
use Rattle.fs_trace.proofs.Objecting.{objects_are}
use Rattle.fs_trace.proofs.object_text.object_text.Goals as goal

pub returns : goal.returns
returns c every start moments starts has =
    let shown = c.in_ok-story.ensures every start moments has in
    objects_are every c.args.script.now.names moments (state_of c.args.core.now) start c.in_ok-story.story.page c.push_all_left.new.text.added c.push_end.new.text.added c.kept.result.items starts shown c.in_ok-push_all_left.ensures.ok c.in_ok-push_end.ensures.ok (c.kept.ensures ∙ ap (λ (l : List ℕ). l ++ c.push_end.new.text.added) (c.in_ok-push_end.ensures.before ∙ c.in_ok-push_all_left.ensures.before))
