use Rattle.std.proofs.Common.{◌≡◌, ◌∙◌, ap, ◌++◌, ◌∷◌, [], length, arith}
use Rattle.fs_linearize_configurations.proofs.ChainLemmas.{chained_push}
use Rattle.fs_linearize_configurations.proofs.chains.Chains.push.Goals as goal

pub invariant_of-self-2 : goal.invariant_of-self-2
invariant_of-self-2 c =
    let old = c.self.inside in
    let place : c.len.result ≡ length old.keys.items = omega (arith, c.len.ensures, old.keys.ok.0) in
    let keys = c.in_ok-push-2.ensures.items ∙ ap (λ xs. xs ++ c.args.key ∷ []) c.reserve-2.ensures.items in
    let before = c.in_ok-push.ensures.items ∙ ap (λ xs. xs ++ c.place_of-before.result ∷ []) c.reserve.ensures.items ∙ ap (λ o. old.before.items ++ o ∷ []) c.place_of-before.ensures in
    let k = chained_push old c.push-2.new.self.items c.push.new.self.items c.insert.new.self c.args.key c.len.result c.self.invariant place keys before c.in_ok-insert.ensures.updates in
    record { long = k.0; last = k.1; before = k.2 }
