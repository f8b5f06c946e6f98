use Rattle.std.proofs.Common.{List, ℕ, ◌++◌, ap, ◌∙◌}
use Rattle.std.specs.Prelude.{codes}
use Rattle.std.specs.List.{flat_map}
use Rattle.fs_trace.specs.Traces.{thread_line}
use Rattle.fs_trace.proofs.trace_text.TraceLines.new.Goals as goal

pub returns : goal.returns
returns c = (
  c.in_ok-push_threads.ensures.before ∙ c.in_ok-push.ensures.before ∙ c.new-text.ensures.before ∙ c.new.ensures.items,
  c.in_ok-push_threads.ensures.ok
      ∙ ap (λ (l : List ℕ). l ++ flat_map thread_line c.args.names.now) (c.in_ok-push.ensures.ok ∙ ap (λ (l : List ℕ). l ++ codes "atomfs-trace 2\n") c.new-text.ensures.added),
)
