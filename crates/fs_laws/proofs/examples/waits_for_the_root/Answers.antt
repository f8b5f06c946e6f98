use Rattle.std.proofs.Common.{refl}
use Rattle.fs_laws.specs.Examples.{waits_for_the_root}
use Rattle.fs_laws.proofs.states.ComputedRuns.{ran}
use Rattle.fs_laws.proofs.examples.waits_for_the_root.Goals as goal

pub returns : goal.returns
returns c = record { ran = ran waits_for_the_root refl refl refl refl; at_root = refl }
