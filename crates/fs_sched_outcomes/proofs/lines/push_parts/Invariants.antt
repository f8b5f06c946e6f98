use Rattle.std.proofs.Common.{◌≡◌, ◌++◌, take}
use Rattle.std.specs.List.{flat_map}
use Rattle.fs_sched_outcomes.specs.Lines.{part_of}
use Rattle.fs_sched_outcomes.proofs.lines.push_parts.Given as goal

abbrev pub invariant-loop-column : goal.invariant-loop-column
invariant-loop-column l = record {
  before : l.text.before ≡ l.fn.text.before;
  parts : l.text.added ≡ l.fn.text.added ++ flat_map (part_of l.row) (take l.column-index l.columns);
}
