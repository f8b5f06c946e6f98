use Rattle.std.proofs.Common.{◌≡◌, ℕ, List, slice_get, Some, sym, ap, subst, ◌∙◌}
use Rattle.std.specs.List.{Contains}
use Rattle.std.proofs.lemmas.Option.{slice_get-get_or}
use Rattle.fs_linearize_configurations.specs.code.Keys.{IsLastWith}
use Rattle.fs_linearize_configurations.specs.code.Ways.{configurations}
use Rattle.fs_linearize_configurations.specs.declared.reached.Reached.{Reached}
use Rattle.fs_linearize_configurations.proofs.LayerLemmas.{IsLeft, left_within, left_more, left_none}
use Rattle.fs_linearize_configurations.proofs.layer.Layer.contains.Goals as goal

pub loop-next-preserved : goal.loop-next-preserved
loop-next-preserved c =
    let rs = c.self.inside.reached.items in
    let place = c.in-Some.place in
    let r = c.index.result.now in
    let left = subst (IsLeft rs c.args.x.now) c.in-Some.is c.loop-next.invariant in
    left_more rs c.args.x.now place r c.before-next.result left
    (slice_get-get_or rs place r (left_within rs c.args.x.now place left) ∙ ap (λ (s : Reached). Some s) (sym c.index.ensures))
    (λ same. let yes = c.same.ensures.1 same in let no = c.if-same.false in absurd (cc))
    (subst (λ ks. (key : ℕ) → slice_get ks place ≡ Some key → IsLastWith ks key place c.before-next.result) c.self.invariant.keyed c.before-next.ensures)

pub returns : goal.returns
returns c = (
  λ no. absurd (cc),
  λ there. absurd (left_none c.self.inside.reached.items c.args.x.now (subst (IsLeft c.self.inside.reached.items c.args.x.now) c.in_default.is c.loop-next.invariant)
      (subst (λ (rs : List Reached). Contains (configurations rs) c.args.x.now) (sym c.self.view_is) there)),
)
