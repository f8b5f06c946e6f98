use Rattle.std.proofs.Common.{◌∙◌, sym, ap, get_or, Option, ℕ}
use Rattle.fs_nodes.specs.code.Linked.{with_prev, followed}
use Rattle.fs_nodes_places.proofs.EditLemmas.{set_edited}
use Rattle.fs_nodes.proofs.siblings.follow.Goals as goal

pub returns-in-Some : goal.returns-in-Some
returns-in-Some c =
    set_edited c.in-Some.k (with_prev c.args.to) c.args.places.now c.index-places-k.result (with_prev c.args.to (get_or c.args.places.now c.in-Some.k c.index-places-k.result)) c.index-places-k.is (ap (with_prev c.args.to) (sym c.index-places-k.is))
    ∙ ap (λ (o : Option ℕ). followed o c.args.to c.args.places.now) (sym (sym c.get.ensures ∙ c.in-Some.is))
