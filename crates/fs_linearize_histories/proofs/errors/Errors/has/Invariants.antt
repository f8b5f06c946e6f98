use Rattle.std.proofs.Common.{◌≡◌, drop}
use Rattle.fs_linearize_histories.specs.Heard.{has_error}
use Rattle.fs_linearize_histories.proofs.errors.Errors.has.Given as goal

abbrev pub invariant-loop-other : goal.invariant-loop-other
invariant-loop-other l = has_error l.errno (drop l.other-index l.self) ≡ has_error l.errno l.self
