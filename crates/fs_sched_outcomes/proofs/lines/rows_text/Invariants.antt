use Rattle.std.proofs.Common.{◌≡◌, [], map, take}
use Rattle.std.specs.List.{flat_map}
use Rattle.fs_sched_outcomes.specs.Lines.{columns_of, row_by}
use Rattle.fs_sched_outcomes.proofs.lines.rows_text.Given as goal

abbrev pub invariant-loop-row : goal.invariant-loop-row
invariant-loop-row l = record {
  before : l.text.before ≡ [];
  rows : l.text.added ≡ flat_map (row_by l.form (columns_of l.form.all (map (λ label. label.items) l.labels) l.rows)) (take l.row-index l.rows);
}
