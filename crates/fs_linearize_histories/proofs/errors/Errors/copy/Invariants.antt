use Rattle.std.proofs.Common.{◌≡◌, take}
use Rattle.fs_linearize_histories.proofs.errors.Errors.copy.Given as goal

abbrev pub invariant-loop-errno : goal.invariant-loop-errno
invariant-loop-errno l = l.errors ≡ take l.errno-index l.self
