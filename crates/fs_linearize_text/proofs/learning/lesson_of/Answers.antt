use Rattle.std.proofs.Common.{List, ap, ◌∙◌}
use Rattle.fs_linearize_histories.specs.declared.heard.Heard.{Heard}
use Rattle.fs_linearize_dialects.specs.Learning.{learned}
use Rattle.fs_linearize_text.proofs.learning.lesson_of.Goals as goal

pub returns : goal.returns
returns c =
    c.lesson_with.ensures (c.args.start.now, c.args.entries.items) (c.fault_in.ensures ∙ c.in_ok-found.ensures.fault)
    (c.in_ok-whole.ensures.learned ∙ ap (λ (es : List Heard). learned c.args.start.now 0 es) c.as_slice.ensures.value)
