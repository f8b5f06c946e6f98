use Rattle.std.proofs.Common.{refl}
use Rattle.fs_laws.specs.Examples.{helped_rename}
use Rattle.fs_laws.proofs.states.ComputedRuns.{ran}
use Rattle.fs_laws.proofs.examples.helped_rename.Goals as goal

pub returns : goal.returns
returns c = record { ran = ran helped_rename refl refl refl refl; at_root = refl; at_b = refl; at_b_p = refl; at_b_q_t = refl; at_b_p_s = refl }
