use Rattle.std.proofs.Common.{refl}
use Rattle.fs_laws.specs.Examples.{helped_on_both_sides}
use Rattle.fs_laws.proofs.states.ComputedRuns.{ran}
use Rattle.fs_laws.proofs.examples.helped_on_both_sides.Goals as goal

pub returns : goal.returns
returns c = record { ran = ran helped_on_both_sides refl refl refl refl; timeline = refl; at_root = refl; at_a = refl; at_a_y = refl; at_b = refl; at_b_x = refl }
