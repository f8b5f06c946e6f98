use Rattle.std.proofs.Common.{List, ℕ, ◌++◌, ap, sym, subst, ◌∙◌}
use Rattle.std.specs.List.{flat_map}
use Rattle.fs_words.specs.JsonObjects.{object_text}
use Rattle.fs_trace_entries.specs.Objects.{AreObjects, end_object}
use Rattle.fs_trace_entries.proofs.Objecting.{in_order}
use Rattle.fs_trace_entries.proofs.running.objects_in.Goals as goal

pub returns : goal.returns
returns c =
    let left = c.in_ok-left.ensures in
    let end = end_object c.args.tree.now c.args.entries.now in
    let before = c.in_ok-push_end.ensures.before ∙ c.in_ok-push-2.ensures.before ∙ c.in_ok-push.ensures.before ∙ c.new-text.ensures.before ∙ c.new.ensures.items in (
      c.deref.result.now,
      left.0,
      subst (λ (t : List ℕ). AreObjects 1 c.args.entries.now t) (sym c.deref.ensures.value) c.in_ok-lines.ensures,
      in_order c.deref.result.now c.deref-2.result.now (flat_map object_text left.0) end c.new-text.result.added c.push.new.self.added c.push-2.new.self.added c.push_end.new.text.added c.kept.result.items c.new-text.ensures.added c.in_ok-push.ensures.ok c.in_ok-push-2.ensures.ok
          (c.in_ok-push_end.ensures.ok c.args.entries.now c.counts_of.ensures.exact) (c.deref-2.ensures.value ∙ left.1) (c.kept.ensures ∙ ap (λ (b : List ℕ). b ++ c.push_end.new.text.added) before),
    )
