use Rattle.std.proofs.Common.{[], ◌++◌, ◌∙◌, ap}
use Rattle.fs_sched_outcomes.specs.Lines.{added_by}
use Rattle.fs_sched_outcomes.proofs.ListLemmas.{adds_more}
use Rattle.fs_sched_outcomes.proofs.lines.added_text.Goals as goal

pub loop-row-preserved : goal.loop-row-preserved
loop-row-preserved c =
    let same = c.deref.ensures.value ∙ c.in_ok-columns.ensures in
    let adds = c.in_ok-push_added_by.ensures.ok ∙ ap (λ columns. c.loop-row.text.added ++ added_by c.args.form columns c.row-item.result) same in
    record {
      before = c.push_added_by.ensures.before ∙ c.loop-row.invariant.before;
      rows = adds_more (added_by c.args.form _) c.args.rows.now c.loop-row.row-index c.row-item.result [] c.loop-row.text.added c.push_added_by.new.text.added c.loop-row-test.true c.row-item.is c.loop-row.invariant.rows adds;
    }
