use Rattle.fs_calls.specs.Sights.{tree_shapes}
use Rattle.fs_linearize_flat.proofs.FaultLemmas.{pair_lost, pair_there}
use Rattle.fs_linearize_flat.proofs.faults.keys_error.Goals as goal

pub returns : goal.returns
returns c =
    pair_there (tree_shapes c.args.cells.now) c.args.limits c.args.call c.args.path.now c.args.other.now c.args.first.now c.args.second.now c.error.result c.pair_sight.result c.requires.first c.requires.second c.in_default.ensures
    c.pair_sight.ensures.first c.pair_sight.ensures.second c.pair_sight.ensures.same c.pair_sight.ensures.room c.error.ensures

pub returns-in-Some : goal.returns-in-Some
returns-in-Some c = pair_lost (tree_shapes c.args.cells.now) c.args.limits c.args.call c.args.path.now c.args.other.now c.args.first.now c.args.second.now c.in-Some.errno c.requires.first c.requires.second c.in-Some.ensures
