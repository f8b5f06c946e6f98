use Rattle.std.proofs.Common.{◌≡◌, drop}
use Rattle.fs_linearize_histories.specs.Configurations.{is_in}
use Rattle.fs_linearize_configurations.proofs.numbers.is_in.Given as goal

abbrev pub invariant-loop-other : goal.invariant-loop-other
invariant-loop-other l = is_in l.number (drop l.other-index l.numbers) ≡ is_in l.number l.numbers
