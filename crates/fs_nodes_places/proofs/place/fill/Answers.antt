use Rattle.std.proofs.Common.{◌≡◌, sym, ap, get_or, Some, IfSome, Option, ℕ, ◌∙◌, subst}
use Rattle.std.specs.Prelude.{slice_get}
use Rattle.fs_nodes_places.specs.declared.place.Place.{Place}
use Rattle.fs_nodes_places.specs.code.Edits.{edited}
use Rattle.fs_nodes_places.proofs.EditLemmas.{set_edited, read_place}
use Rattle.fs_nodes_places.proofs.place.fill.Goals as goal

pub returns-clause-places : goal.returns-clause-places
returns-clause-places c =
    let f : Option ℕ → Place → Place = λ o p. record p { content = Some c.args.content; parent = o; next = o; prev = o } in
    set_edited c.args.node (f c.none-none.result) c.args.places.now c.index-places-node.result (f c.none-none.result (get_or c.args.places.now c.args.node c.index-places-node.result)) c.index-places-node.is (ap (f c.none-none.result) (sym c.index-places-node.is))
    ∙ ap (λ (o : Option ℕ). edited c.args.node (f o) c.args.places.now) c.none-none.ensures

pub returns-clause-next : goal.returns-clause-next
returns-clause-next c =
    let e : slice_get c.args.places.now c.args.node ≡ Some c.index-places-node.result = read_place c.args.places.now c.args.node c.index-places-node.result c.requires.node c.index-places-node.is in
    subst (λ (o : Option Place). IfSome o (λ p. (get_or c.args.places.now c.args.node c.index-places-node.result).next ≡ p.next)) (sym e) (ap (λ (p : Place). p.next) (sym c.index-places-node.is))
