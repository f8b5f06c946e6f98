use Rattle.std.proofs.Common.{refl}
use Rattle.fs_laws.specs.Examples.{lowest_first}
use Rattle.fs_laws.proofs.states.ComputedRuns.{ran}
use Rattle.fs_laws.proofs.examples.lowest_first.Goals as goal

pub returns : goal.returns
returns c = record { ran = ran lowest_first refl refl refl refl; at_root = refl; at_b_d_e_x = refl; at_a = refl }
