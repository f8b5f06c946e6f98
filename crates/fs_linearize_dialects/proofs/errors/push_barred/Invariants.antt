use Rattle.std.proofs.Common.{◌≡◌, ◌++◌, take}
use Rattle.std.specs.List.{flat_map}
use Rattle.fs_linearize_dialects.specs.Errors.{barred}
use Rattle.fs_linearize_dialects.proofs.errors.push_barred.Given as goal

abbrev pub invariant-loop-errno : goal.invariant-loop-errno
invariant-loop-errno l = record { added : l.line.added ≡ l.initial.line.added ++ flat_map barred (take l.errno-index l.errors); before : l.line.before ≡ l.initial.line.before }
