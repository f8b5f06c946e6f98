use Rattle.std.proofs.Common.{List, ℕ, ◌++◌, refl, ap, ◌∙◌}
use Rattle.std.specs.List.{flat_map}
use Rattle.fs_trace.specs.Objects.{thread_object}
use Rattle.fs_trace.proofs.objects.TraceObjects.new.Goals as goal

pub returns : goal.returns
returns c = (
  refl,
  c.in_ok-push_threads.ensures.before ∙ c.new-text.ensures.before ∙ c.new.ensures.items,
  c.in_ok-push_threads.ensures.ok ∙ ap (λ (l : List ℕ). l ++ flat_map thread_object c.args.names.now) c.new-text.ensures.added,
)
