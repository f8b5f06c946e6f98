use Rattle.std.proofs.Common.{◌∙◌}
use Rattle.fs_sched_outcomes.specs.Lines.{part_of}
use Rattle.fs_sched_outcomes.proofs.ListLemmas.{adds_more}
use Rattle.fs_sched_outcomes.proofs.lines.push_parts.Goals as goal

pub loop-column-preserved : goal.loop-column-preserved
loop-column-preserved c = record {
  before = c.push_part.ensures.before ∙ c.loop-column.invariant.before;
  parts = adds_more (part_of c.args.row.now) c.args.columns.now c.loop-column.column-index c.column-item.result c.args.text.now.added c.loop-column.text.added c.push_part.new.text.added c.loop-column-test.true c.column-item.is c.loop-column.invariant.parts c.in_ok-push_part.ensures.ok;
}
