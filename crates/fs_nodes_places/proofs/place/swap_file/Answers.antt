use Rattle.std.proofs.Common.{◌≡◌, ◌∙◌, sym, ap, get_or, Some, IfSome, Option, subst}
use Rattle.std.specs.Prelude.{slice_get}
use Rattle.fs_nodes_places.specs.declared.node.Content.{Content}
use Rattle.fs_nodes_places.specs.declared.place.Place.{Place}
use Rattle.fs_nodes_places.specs.code.Edits.{with_content, content_old}
use Rattle.fs_nodes_places.proofs.EditLemmas.{set_edited, read_place}
use Rattle.fs_nodes_places.proofs.place.swap_file.Goals as goal

pub returns-clause-places : goal.returns-clause-places
returns-clause-places c =
    let r : Place = get_or c.args.places.now c.args.node c.index-places-node.result in
    set_edited c.args.node (with_content c.args.file) c.args.places.now c.index-places-node.result (record r { content = c.swap_in.new.content }) c.index-places-node.is
    (ap (λ (o : Option Content). record r { content = o }) c.swap_in.ensures.new ∙ ap (with_content c.args.file) (sym c.index-places-node.is))

pub returns-clause-old : goal.returns-clause-old
returns-clause-old c =
    let e : slice_get c.args.places.now c.args.node ≡ Some c.index-places-node.result = read_place c.args.places.now c.args.node c.index-places-node.result c.requires.node c.index-places-node.is in
    subst (λ (o : Option Place). IfSome o (λ p. c.swap_in.result ≡ content_old c.args.file p.content)) (sym e) (c.swap_in.ensures.old ∙ ap (λ (p : Place). content_old c.args.file p.content) (sym c.index-places-node.is))
