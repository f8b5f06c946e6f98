use Rattle.std.proofs.Common.{◌≡◌, drop}
use Rattle.fs_linearize_configurations.specs.code.Keys.{key_of, key_from}
use Rattle.fs_linearize_configurations.proofs.chains.key_of.Given as goal

abbrev pub invariant-loop-number : goal.invariant-loop-number
invariant-loop-number l = key_from l.key (drop l.number-index l.numbers) ≡ key_of l.numbers
