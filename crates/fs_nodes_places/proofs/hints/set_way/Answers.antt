use Rattle.std.proofs.Common.{get_or, refl}
use Rattle.fs_nodes_places.proofs.HintLemmas.{bared_set}
use Rattle.fs_nodes_places.proofs.hints.set_way.Goals as goal

pub returns-in-Root : goal.returns-in-Root
returns-in-Root c = bared_set c.args.places.now c.args.at c.index-places-at.result (record (get_or c.args.places.now c.args.at c.index-places-at.result) { root = c.args.to }) refl

pub returns-in-Left : goal.returns-in-Left
returns-in-Left c = bared_set c.args.places.now c.args.at c.index-places-at.result (record (get_or c.args.places.now c.args.at c.index-places-at.result) { left = c.args.to }) refl

pub returns-in-Right : goal.returns-in-Right
returns-in-Right c = bared_set c.args.places.now c.args.at c.index-places-at.result (record (get_or c.args.places.now c.args.at c.index-places-at.result) { right = c.args.to }) refl
