use Rattle.std.proofs.Common.{◌≡◌, ◌++◌, take}
use Rattle.fs_linearize_dialects.specs.Tables.{rows_of}
use Rattle.fs_linearize_dialects.proofs.learning.push_rows.Given as goal

abbrev pub invariant-loop-errno : goal.invariant-loop-errno
invariant-loop-errno l = l.rows.items ≡ l.initial.rows.items ++ rows_of l.name l.ours (take l.errno-index l.theirs)
