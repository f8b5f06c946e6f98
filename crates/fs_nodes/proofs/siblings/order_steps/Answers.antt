use Rattle.std.proofs.Common.{◌≤◌, length, arith}
use Rattle.fs_names.specs.Shapes.{names_of}
use Rattle.fs_names.specs.declared.limits.TheConstants.{NODE_LIMIT}
use Rattle.fs_nodes.specs.code.Linked.{graph_of_places}
use Rattle.fs_nodes.proofs.StepLemmas.{dir_length}
use Rattle.fs_nodes.proofs.BehindLemmas.{places_few}
use Rattle.fs_nodes.proofs.siblings.order_steps.Goals as goal

pub greatest_below-told-requires-clause-most : goal.greatest_below-told-requires-clause-most
greatest_below-told-requires-clause-most c = places_few c.args.places.now c.requires

pub overflow_add-result : goal.overflow_add-result
overflow_add-result c =
    let k : length (names_of ((graph_of_places c.args.places.now).shape c.args.dir)) ≤ NODE_LIMIT = dir_length c.args.places.now c.args.dir c.requires in
    omega (arith, c.walk-looked.ensures.steps, c.greatest_below-told.ensures)
