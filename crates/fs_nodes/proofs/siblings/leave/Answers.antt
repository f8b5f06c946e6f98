use Rattle.std.proofs.Common.{sym, ap, get_or, Option, ℕ, ◌∙◌}
use Rattle.fs_nodes_places.specs.declared.place.Place.{Place}
use Rattle.fs_nodes_places.specs.code.Edits.{edited}
use Rattle.fs_nodes.specs.code.Linked.{entered}
use Rattle.fs_nodes_places.proofs.EditLemmas.{read_place, set_edited}
use Rattle.fs_nodes.proofs.siblings.leave.Goals as goal

pub returns-clause-places : goal.returns-clause-places
returns-clause-places c =
    let f : Option ℕ → Place → Place = λ o p. entered o c.args.blank o o p in
    rw c.replace.ensures.after (set_edited c.args.node (f c.none-none.result) c.args.places.now c.index-places-node.result (f c.none-none.result (get_or c.args.places.now c.args.node c.index-places-node.result)) c.index-places-node.is (ap (f c.none-none.result) (sym c.index-places-node.is))
    ∙ ap (λ (o : Option ℕ). edited c.args.node (f o) c.args.places.now) c.none-none.ensures)

pub returns-clause-label : goal.returns-clause-label
returns-clause-label c = rw (read_place c.args.places.now c.args.node c.index-places-node.result c.requires.node c.index-places-node.is) (c.replace.ensures.value ∙ ap (λ (p : Place). p.name) (sym c.index-places-node.is))
