use Rattle.std.proofs.Common.{refl}
use Rattle.fs_laws.specs.Examples.{victim_is_waited_for}
use Rattle.fs_laws.proofs.states.ComputedRuns.{ran}
use Rattle.fs_laws.proofs.examples.victim_is_waited_for.Goals as goal

pub returns : goal.returns
returns c = record { ran = ran victim_is_waited_for refl refl refl refl; timeline = refl; at_root = refl; at_f = refl; used = refl }
