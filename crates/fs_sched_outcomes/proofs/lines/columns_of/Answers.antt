use Rattle.std.proofs.Common.{◌+◌, ap}
use Rattle.fs_sched_outcomes.specs.Lines.{is_shown}
use Rattle.fs_sched_outcomes.proofs.ListLemmas.{columns_more}
use Rattle.fs_sched_outcomes.proofs.lines.columns_of.Goals as goal

pub loop-label-preserved : goal.loop-label-preserved
loop-label-preserved c = record {
  at = ap (λ n. n + 1) c.loop-label.invariant.at;
  columns = columns_more (is_shown c.args.all c.args.rows.now) (λ v. v.items) c.args.labels.now c.loop-label.label-index c.label-item.result c.loop-label.at c.is_shown.result c.deref.result.now c.loop-label.columns.items c.push_column.new.columns.items c.loop-label-test.true c.label-item.is c.loop-label.invariant.at c.is_shown.ensures c.deref.ensures.value c.loop-label.invariant.columns c.in_ok-push_column.ensures;
}
