use Rattle.std.proofs.Common.{◌≡◌, ◌++◌, take, map}
use Rattle.std.specs.List.{AllByRecursion, flat_map}
use Rattle.fs_names.specs.Limits.{largest}
use Rattle.fs_seq.specs.Rows.{row_of}
use Rattle.fs_script.specs.TreeText.{node_line}
use Rattle.fs_script.specs.Laws.{FitsNode}
use Rattle.fs_script.proofs.opening.push_rows.Given as goal

abbrev pub invariant-loop-row : goal.invariant-loop-row
invariant-loop-row l = record {
  added : l.line.added ≡ l.fn.line.added ++ flat_map node_line (map row_of (take l.row-index l.rows));
  fits : AllByRecursion (λ r. FitsNode largest (row_of r)) (take l.row-index l.rows);
  before : l.line.before ≡ l.fn.line.before;
}
