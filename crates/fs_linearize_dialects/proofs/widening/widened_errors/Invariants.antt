use Rattle.std.proofs.Common.{◌≡◌, ◌++◌, drop}
use Rattle.fs_linearize_dialects.specs.Dialects.{widened_errors}
use Rattle.fs_linearize_dialects.proofs.widening.widened_errors.Given as goal

abbrev pub invariant-loop-errno : goal.invariant-loop-errno
invariant-loop-errno l = l.wide ++ widened_errors l.rows l.name (drop l.errno-index l.errors) ≡ widened_errors l.rows l.name l.errors
