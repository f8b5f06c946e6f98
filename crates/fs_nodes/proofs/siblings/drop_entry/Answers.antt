use Rattle.std.proofs.Common.{◌-◌, sym, ap, get_or}
use Rattle.fs_nodes_places.specs.declared.place.Place.{Place}
use Rattle.fs_nodes.specs.code.Linked.{with_entries}
use Rattle.fs_nodes_places.proofs.EditLemmas.{set_edited}
use Rattle.fs_nodes.proofs.siblings.drop_entry.Goals as goal

pub returns : goal.returns
returns c =
    let f : Place → Place = λ p. with_entries (p.entries - 1) p in
    set_edited c.args.dir f c.args.places.now c.index-places-dir.result (f (get_or c.args.places.now c.args.dir c.index-places-dir.result)) c.index-places-dir.is (ap f (sym c.index-places-dir.is))
