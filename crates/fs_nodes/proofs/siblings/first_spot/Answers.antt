use Rattle.std.proofs.Common.{◌∙◌}
use Rattle.fs_nodes.proofs.StepLemmas.{first_place, first_past}
use Rattle.fs_nodes.proofs.siblings.first_spot.Goals as goal

pub returns-then-dir-places : goal.returns-then-dir-places
returns-then-dir-places c = first_place c.args.places.now c.args.dir c.index-places-dir.result c.requires c.if-dir-places.true c.index-places-dir.is

pub returns-else-dir-places : goal.returns-else-dir-places
returns-else-dir-places c = c.none.ensures ∙ first_past c.args.places.now c.args.dir c.if-dir-places.false
