use Rattle.std.proofs.Common.{[], map, sym, subst, ap}
use Rattle.std.specs.List.{sum_by}
use Rattle.fs_sched_outcomes.specs.Sums.{times_of}
use Rattle.fs_sched_outcomes.specs.code.Mades.{HasLines}
use Rattle.fs_sched_outcomes.proofs.AddingLemmas.{lines_none, lines_more}
use Rattle.fs_sched_outcomes.proofs.adding.add_lines.Goals as goal

pub loop-line-init : goal.loop-line-init
loop-line-init c = record {
  kept = c.new-rows.ensures.kept;
  total = ap (sum_by times_of) c.new-rows.ensures.rows;
  rows = subst (HasLines (map (λ label. label.items) c.args.labels.now) []) (sym c.new-rows.ensures.rows) (lines_none (map (λ label. label.items) c.args.labels.now));
}

pub loop-line-preserved : goal.loop-line-preserved
loop-line-preserved c = record {
  kept = c.in-Ok.ensures.kept;
  total = c.in-Ok.ensures.total;
  rows = lines_more (map (λ label. label.items) c.args.labels.now) c.args.lines.now c.loop-line.line-index _ c.loop-line.rows.rows.items c.add_line.new.rows.rows.items c.loop-line-test.true c.loop-line.invariant.rows c.in-Ok.ensures.line;
}
