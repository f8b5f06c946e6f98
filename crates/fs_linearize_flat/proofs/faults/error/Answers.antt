use Rattle.fs_linearize_flat.proofs.FaultLemmas.{by_paths}
use Rattle.fs_linearize_flat.proofs.faults.error.Goals as goal

pub returns-in-Some : goal.returns-in-Some
returns-in-Some c = by_paths c.args.limits c.args.cells.now c.args.call.now c.in-Some.errno c.in-Some.ensures
