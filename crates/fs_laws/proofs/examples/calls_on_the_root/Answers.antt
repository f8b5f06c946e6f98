use Rattle.std.proofs.Common.{refl}
use Rattle.fs_laws.specs.Examples.{calls_on_the_root}
use Rattle.fs_laws.proofs.states.ComputedRuns.{ran}
use Rattle.fs_laws.proofs.examples.calls_on_the_root.Goals as goal

pub returns : goal.returns
returns c = record { ran = ran calls_on_the_root refl refl refl refl }
