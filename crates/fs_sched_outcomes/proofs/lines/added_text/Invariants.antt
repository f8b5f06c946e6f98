use Rattle.std.proofs.Common.{◌≡◌, [], map, take}
use Rattle.std.specs.List.{flat_map}
use Rattle.fs_sched_outcomes.specs.Lines.{added_by, columns_of}
use Rattle.fs_sched_outcomes.proofs.lines.added_text.Given as goal

abbrev pub invariant-loop-row : goal.invariant-loop-row
invariant-loop-row l = record {
  before : l.text.before ≡ [];
  rows : l.text.added ≡ flat_map (added_by l.form (columns_of l.form.all (map (λ label. label.items) l.labels) l.rows)) (take l.row-index l.rows);
}
