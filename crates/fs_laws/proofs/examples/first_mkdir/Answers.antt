use Rattle.std.proofs.Common.{refl}
use Rattle.fs_laws.specs.Examples.{first_mkdir}
use Rattle.fs_laws.proofs.states.ComputedRuns.{ran}
use Rattle.fs_laws.proofs.examples.first_mkdir.Goals as goal

pub returns : goal.returns
returns c = record { ran = ran first_mkdir refl refl refl refl; timeline = refl; at_root = refl; at_a = refl; at_b = refl }
