use Rattle.std.proofs.Common.{◌≡◌, drop}
use Rattle.fs_linearize_dialects.specs.Errors.{errno_among}
use Rattle.fs_linearize_dialects.proofs.errors.errno_among.Given as goal

abbrev pub invariant-loop-errno : goal.invariant-loop-errno
invariant-loop-errno l = errno_among l.word (drop l.errno-index l.errnos) ≡ errno_among l.word l.errnos
