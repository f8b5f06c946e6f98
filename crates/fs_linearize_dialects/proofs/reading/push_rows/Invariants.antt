use Rattle.std.proofs.Common.{◌≡◌, ◌++◌, take}
use Rattle.fs_linearize_dialects.specs.Tables.{rows_of}
use Rattle.fs_linearize_dialects.proofs.reading.push_rows.Given as goal

abbrev pub invariant-loop-errno : goal.invariant-loop-errno
invariant-loop-errno l = l.dialect ≡ l.initial.dialect ++ rows_of l.name l.ours (take l.errno-index l.theirs)
