use Rattle.std.proofs.Common.{◌≡◌, map, take}
use Rattle.fs_sched_outcomes.specs.Lines.{columns_from, is_shown}
use Rattle.fs_sched_outcomes.proofs.lines.columns_of.Given as goal

abbrev pub invariant-loop-label : goal.invariant-loop-label
invariant-loop-label l = record {
  at : l.at ≡ l.label-index;
  columns : l.columns.items ≡ columns_from (is_shown l.all l.rows) 0 (take l.label-index (map (λ label. label.items) l.labels));
}
