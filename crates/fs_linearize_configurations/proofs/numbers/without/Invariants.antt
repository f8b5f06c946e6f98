use Rattle.std.proofs.Common.{◌≡◌, ◌++◌, drop}
use Rattle.fs_linearize_histories.specs.Configurations.{without}
use Rattle.fs_linearize_configurations.proofs.numbers.without.Given as goal

abbrev pub invariant-loop-other : goal.invariant-loop-other
invariant-loop-other l = l.rest.items ++ without l.number (drop l.other-index l.numbers) ≡ without l.number l.numbers
