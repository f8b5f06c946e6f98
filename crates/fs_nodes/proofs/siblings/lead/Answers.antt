use Rattle.std.proofs.Common.{◌∙◌, sym, ap, get_or, Option, ℕ}
use Rattle.fs_nodes.specs.code.Linked.{with_first, with_next, led}
use Rattle.fs_nodes_places.proofs.EditLemmas.{set_edited}
use Rattle.fs_nodes.proofs.siblings.lead.Goals as goal

pub returns-in-Some : goal.returns-in-Some
returns-in-Some c =
    set_edited c.in-Some.k (with_next c.args.to) c.args.places.now c.index-places-k.result (with_next c.args.to (get_or c.args.places.now c.in-Some.k c.index-places-k.result)) c.index-places-k.is (ap (with_next c.args.to) (sym c.index-places-k.is))
    ∙ ap (λ (o : Option ℕ). led c.args.dir o c.args.to c.args.places.now) (sym (sym c.get.ensures ∙ c.in-Some.is))

pub returns-in-None : goal.returns-in-None
returns-in-None c =
    set_edited c.args.dir (with_first c.args.to) c.args.places.now c.index-places-dir.result (with_first c.args.to (get_or c.args.places.now c.args.dir c.index-places-dir.result)) c.index-places-dir.is (ap (with_first c.args.to) (sym c.index-places-dir.is))
    ∙ ap (λ (o : Option ℕ). led c.args.dir o c.args.to c.args.places.now) (sym (sym c.get.ensures ∙ c.in-None.is))
