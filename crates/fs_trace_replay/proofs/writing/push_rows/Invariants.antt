use Rattle.std.proofs.Common.{◌≡◌, ◌++◌, take, map}
use Rattle.std.specs.List.{flat_map}
use Rattle.fs_seq.specs.Rows.{row_of}
use Rattle.fs_script.specs.TreeText.{node_line}
use Rattle.fs_trace_replay.proofs.writing.push_rows.Given as goal

abbrev pub invariant-loop-row : goal.invariant-loop-row
invariant-loop-row l = record {
  added : l.text.added ≡ l.fn.text.added ++ flat_map node_line (map row_of (take l.row-index l.rows));
  before : l.text.before ≡ l.fn.text.before;
}
