use Rattle.std.proofs.Common.{map, ap, ◌∙◌}
use Rattle.fs_sched_outcomes.specs.Lines.{added_text}
use Rattle.fs_sched_outcomes.proofs.adding.sum_of.Goals as goal

pub returns : goal.returns
returns c =
    let labels = map (λ label. label.items) c.args.labels.now in
    (c.in_ok-rows.rows.items, c.in_ok-rows.ensures.same, c.in_ok-rows.ensures.order, c.in_ok-text.ensures ∙ ap (added_text c.args.form labels) c.deref.ensures.value)
