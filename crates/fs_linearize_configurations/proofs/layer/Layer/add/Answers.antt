use Rattle.std.proofs.Common.{List, [], ◌∷◌, ◌++◌, sym, ap, subst, ◌∙◌}
use Rattle.std.specs.List.{Contains}
use Rattle.fs_linearize_histories.specs.Apart.{AreApart}
use Rattle.fs_linearize_configurations.specs.code.Layers.{keys}
use Rattle.fs_linearize_configurations.specs.code.Ways.{configurations}
use Rattle.fs_linearize_configurations.specs.declared.reached.Reached.{Reached}
use Rattle.fs_linearize_configurations.proofs.LayerLemmas.{keyed_push, apart_pushed}
use Rattle.fs_linearize_configurations.proofs.layer.Layer.add.Goals as goal

pub invariant_of-self-in_err-push : goal.invariant_of-self-in_err-push
invariant_of-self-in_err-push c = record {
  keyed = c.in_err-push.ensures.err ∙ c.self.invariant.keyed ∙ ap keys (sym c.reserve.ensures.items);
  apart = subst (λ (rs : List Reached). AreApart (configurations rs)) (sym c.reserve.ensures.items) c.self.invariant.apart;
}

pub invariant_of-self-2 : goal.invariant_of-self-2
invariant_of-self-2 c =
    let old = c.self.inside.reached.items in
    let r = c.args.reached in
    let grown = c.in_ok-push-2.ensures.items ∙ ap (λ xs. xs ++ r ∷ []) c.reserve.ensures.items in
    record {
      keyed = c.in_ok-push.ensures.ok ∙ ap (λ ks. ks ++ c.key.result ∷ []) c.self.invariant.keyed ∙ ap (λ k. keys old ++ k ∷ []) c.key.ensures ∙ sym (keyed_push old r) ∙ ap keys (sym grown);
      apart = subst (λ (rs : List Reached). AreApart (configurations rs)) (sym grown)
          (apart_pushed old r c.self.invariant.apart (λ there. let yes = c.contains.ensures.1 (subst (λ (rs : List Reached). Contains (configurations rs) r.configuration) c.self.view_is there) in let no = c.if-contains.false in absurd (cc)));
    }
