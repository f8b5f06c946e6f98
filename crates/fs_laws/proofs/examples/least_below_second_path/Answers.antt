use Rattle.std.proofs.Common.{refl}
use Rattle.fs_laws.specs.Examples.{least_below_second_path}
use Rattle.fs_laws.proofs.states.ComputedRuns.{ran}
use Rattle.fs_laws.proofs.examples.least_below_second_path.Goals as goal

pub returns : goal.returns
returns c = record { ran = ran least_below_second_path refl refl refl refl; at_a = refl; at_b = refl }
