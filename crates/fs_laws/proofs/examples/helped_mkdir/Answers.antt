use Rattle.std.proofs.Common.{refl}
use Rattle.fs_laws.specs.Examples.{helped_mkdir}
use Rattle.fs_laws.proofs.states.ComputedRuns.{ran}
use Rattle.fs_laws.proofs.examples.helped_mkdir.Goals as goal

pub returns : goal.returns
returns c = record { ran = ran helped_mkdir refl refl refl refl; timeline = refl; at_root = refl; at_b = refl; at_b_d = refl; at_b_d_x = refl; at_a = refl; at_a_d = refl }
