use Rattle.std.proofs.Common.{◌≡◌, ◌∙◌, sym, subst, Option, IfSome, List, ◌++◌, ◌∷◌, [], ap}
use mathlib.Core.List.{IsPrefix}
use Rattle.fs_calls.specs.declared.call.Call.{Call}
use Rattle.fs_share_observe.specs.declared.shown.Op.{Op}
use Rattle.fs_share_observe.specs.Lists.{Lists}
use Rattle.fs_share_observe.specs.Pasts.{calls_of}
use Rattle.fs_share_observe.specs.Tied.{IsNext, entered}
use Rattle.fs_share_observe.proofs.Fronts.{prefix_self}
use Rattle.fs_share_observe.proofs.Taking.{held_next, on_err}
use Rattle.fs_share_observe.proofs.publisher.Publisher.take_in.Goals as goal

pub next_op-requires-clause-held : goal.next_op-requires-clause-held
next_op-requires-clause-held g c =
    let s = c.self.inside in
    let next : IsPrefix (calls_of (entered s.front s.held)) (calls_of s.front ++ c.args.call.now ∷ []) = subst (λ (v : Lists). IsPrefix v.entered (v.taken ++ c.args.call.now ∷ [])) (sym c.self.view_is) c.requires in
    subst (λ (h : Option Op). IfSome h (λ o. IsNext g.N.Named.book s.front o × (o.call ≡ c.args.call.now))) (sym c.take.ensures.value)
    (held_next g.N.Named.book s.front s.held c.args.call.now c.self.invariant.0.next next)

pub returns-clause-entered : goal.returns-clause-entered
returns-clause-entered g c =
    let s = c.self.inside in
    let call = c.args.call.now in
    let same : calls_of (entered c.append_op.new.front c.append_op.new.held) ≡ calls_of s.front ++ call ∷ [] = c.append_op.ensures.entered ∙ ap (λ (x : Call). calls_of s.front ++ x ∷ []) c.in_ok-op.ensures.call in
    let all : calls_of (entered c.append_op.new.front c.append_op.new.held) ≡ c.args.self.now.taken ++ call ∷ [] = same ∙ ap (λ (v : Lists). v.taken ++ call ∷ []) c.self.view_is in
    on_err c.append_op.result _ (subst (λ (l : List Call). IsPrefix l (c.args.self.now.taken ++ call ∷ [])) (sym all) (prefix_self (c.args.self.now.taken ++ call ∷ [])))
