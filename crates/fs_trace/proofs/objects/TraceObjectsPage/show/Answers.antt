use Rattle.std.proofs.Common.{◌∙◌, List, ℕ, subst}
use Rattle.std.proofs.lemmas.Result.{on_ok_weaker}
use Rattle.fs_trace_story.specs.Shown.{deed_shown}
use Rattle.fs_trace.specs.Objects.{told_members}
use Rattle.fs_trace.specs.code.ObjectTexts.{AddsObject}
use Rattle.fs_trace.proofs.Objecting.{objects_more}
use Rattle.fs_trace.proofs.objects.TraceObjectsPage.show.Goals as goal

pub returns : goal.returns
returns c =
    let said = deed_shown c.args.line in
    let old = c.args.self.now.text.added in
    let new = c.push_moment.new.text.added in record {
      shown = on_ok_weaker c.push_moment.result
          (λ adds start told has.
          (has.0, c.push_moment.ensures.before ∙ has.1, objects_more start.names.now told said start.text.added old new has.2 (subst (λ (names : List (List ℕ)). AddsObject (told_members names said) old new) has.0 adds)))
          c.push_moment.ensures.ok;
    }
