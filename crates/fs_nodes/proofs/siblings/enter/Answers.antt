use Rattle.std.proofs.Common.{sym, ap, get_or}
use Rattle.fs_nodes_places.specs.declared.place.Place.{Place}
use Rattle.fs_nodes.specs.code.Linked.{entered}
use Rattle.fs_nodes_places.proofs.EditLemmas.{set_edited}
use Rattle.fs_nodes.proofs.siblings.enter.Goals as goal

pub returns : goal.returns
returns c =
    let f : Place → Place = entered c.args.dir c.args.name c.args.prev c.args.next in
    set_edited c.args.node f c.args.places.now c.index-places-node.result (f (get_or c.args.places.now c.args.node c.index-places-node.result)) c.index-places-node.is (ap f (sym c.index-places-node.is))
