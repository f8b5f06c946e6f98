-- A box is given to `into_raw_with_allocator`, and what it owned comes back beside the pointer and the allocator.
use mathlib.Core.Path.{◌≡◌, refl, ap, ◌∙◌}
use mathlib.Core.List.{List, [], ◌∷◌, ◌++◌}
use mir.MapTy.{inst_fn}
use mir.Raw.{raw as bare}
use mir.Val.{Val, vstruct, of_list}
use base.Logic.{SProp, id⊢, never, fst∗}
use base.Fml.{ftrue, fsep, flft}
use contract.BorrowLft.{◌⊑◌}
use contract.Monad.{fact}
use contract.Running.{tables}
use prog.Wp.{WpFn}
use types.Logic.{sem}
use types.Kit.{Item, ‵, raw, ◌⊛◌, some, later, ◌$◌, ◌∵◌, !, qed, move, drop, use1, join, split, split3, pick, rewrite, fsplit, fjoin, fpick, feq_l, suffices, await, done}
use types.Part.{whole, sub, agg}
use types.Run.{stop, fld, no_more, and_then, of_opd, returns, enter}
use types.ByLocal.{alloc_all, pass_all, free_all, look_at, get, get_in, sets, lands_as}
use denote.Exit.{no}
use denote.RattleType.{RattleType}
use denote.RawPtr.{Ptr, RawPtr, block_ptr, null_ptr, ptr_val, in_a_block}
use denote.Signature.{plain}
use denote.Steps.{heard, nothing, only}
use denote.Struct.Tuple.{Tuple}
use denote.Triple.Call.{calls_at}
use denote.Triple.Spec.{triple_of}
use denote.Triple.Walked.{says, Stays, stay_dropped, walk_of, ends_at}
use Rattle.core.proofs.alloc.Calls.{token, handle_tells, Goes-blank}
use Rattle.core.proofs.atomic.Steps.{fm}
use Rattle.std.proofs.raw_atomic.Walks.{proved_at}
use Rattle.std_alloc.proofs.BoxSteps.Form.{Bx, τ, R, P, B, word, box_typed}
use Rattle.std_alloc.proofs.BoxSteps.Steps.{box_out, box_in}
use Rattle.std_alloc.specs.Box.Ownership.{box_owns}
use Rattle.atomfs_c.proofs.Boxes.{parts_of, dropping, at_values}
use Rattle.std_alloc.specs.contracts.boxed.Box.into_raw_with_allocator as callee
use Rattle.std_alloc.proofs.boxed.Box.into_raw_with_allocator.Met.{met}
use Rattle.atomfs_c.specs.contracts.parts.Parts.of as F
use Rattle.atomfs_c.specs.contracts.parts.Parts.of.Key.{name as #self}
use Rattle.atomfs_c.proofs.parts.Parts.of.Statement.{statement}
use Rattle.atomfs_c.proofs.parts.Parts.of.Code as code

pub of_spec : {M : Type 1} → statement M
of_spec 𝓤 𝓛 𝓜 𝓡 wired X Z LX LZ g d dd dx allocator md glue =
    let H = 𝓛.H in let 𝓣 = tables 𝓤 H 𝓜 𝓡 𝓡.env in
    let E : Bx = record { row = X; laws = LX; al = record { row = Z; laws = LZ; g = g; d = d; drops = dd } } in
    let To : RattleType = parts_of E in let En = F.ended X Z g d dd dx in let c = F.clauses X Z g d dd dx 𝓛 𝓜.mem 𝓡.returns in
    let fn = inst_fn (dropping E dx) code.function in let hs : Stays En.signature.params En.kept = (stay_dropped (plain (λ _. B E)) no, tt) in
    let opens = triple_of 𝓛 (callee.signature X Z g d dd dx) (callee.spec X Z g d dd dx 𝓛 𝓜.mem 𝓡.returns) in
    proved_at 𝓛 En hs c 𝓜 𝓡 (Goes-blank 𝓛 2 (plain (λ _. B E)) no (λ κs x f. tt), tt) (#self (dropping E dx)) fn (code.unfolded 𝓤 H 𝓜 𝓡 wired (X, (Z, tt)) d dd dx) (λ z are.
    let κs = z.0.0 in let qs = z.0.1 in let v = z.0.3.0 in let a = v.alloc in let Run : List Val → SProp 𝓤 = λ ws. WpFn 𝓤 H 𝓣.C 𝓣.Λ fn ws ((walk_of 𝓛 En hs c).post z) in
    let lives : Item 𝓤 = ‵ (flft κs.0 qs.0) ⊛ ‵ (flft κs.1.0 qs.1.0) ⊛ ‵ ftrue in let within_them : Item 𝓤 = raw (fact 𝓤 (κs.0 ⊑ X.lives)) ⊛ raw (fact 𝓤 (κs.1.0 ⊑ Z.lives)) ⊛ ‵ ftrue in
    let owned : Ptr → Item 𝓤 = λ p. ‵ (box_owns (token E.al a) (R E) p v.value) in
    qed 𝓛 ((lives ⊛ ‵ (fsep ((B E).own_val v z.0.4.0) ftrue)) ∷ within_them ∷ []) ∵ split ! $ move ! (1 ∷ []) $ fsplit ! $
    -- the box as one machine value, which the call takes
    box_out E ! v z.0.4.0 (λ b o h e told fits. box_in E ! v b o v.value e refl $
    let w : Val = word E h b o in let typed = box_typed E h b o fits in let y : opens.Ghost = ((κs, qs, tt, (v, tt), (w ∷ [], tt)), tt) in
    fjoin ! $ move ! (1 ∷ 0 ∷ []) $ join ! $ join ! $ use1 𝓛 (raw (opens.pre y)) (id⊢ 𝓤 (opens.pre y)) $
    suffices ! (Run (w ∷ [])) (at_values 𝓤 Run z.0.4.0 w told) $ enter ! 𝓣.C 𝓣.Λ fn (w ∷ []) _ $ alloc_all ! (λ ls. pass_all ! refl (typed, tt) $ sets ! (of_opd ! (get ! refl)) refl typed $
    calls_at ! (fm 𝓛 𝓜 𝓡) opens (met 𝓤 𝓛 𝓜 𝓡 (code.calls-std_alloc::boxed::Box::into_raw_with_allocator 𝓡.env wired) X Z LX LZ g d dd dx allocator md glue) y (and_then ! (get ! refl) (no_more !)) (λ u.
    use1 𝓛 (later (some (λ (r : Ptr × Z.Denot). (lives ⊛ ‵ ((Tuple (RawPtr ∷ P E ∷ [])).own_val r (u ∷ []))) ⊛ some (λ (_ : (Unit {0} × (Unit {0} × Unit {0})) × Unit {0}). ‵ (fsep (fsep ftrue (fsep ftrue ftrue)) ftrue) ⊛ (raw (fact 𝓤 (r.1 ≡ a)) ⊛ owned r.0))))) (id⊢ 𝓤 (opens.post y u)) $
    await ! tt $ pick ! (λ r. split ! $ move ! (1 ∷ []) $ pick ! (λ _. split3 ! $ drop ! $ heard ! (r.1 ≡ a) (λ same.
    -- the pointer leads to a block, and the pair that came back has it beside the allocator
    in_a_block ! r.0 (λ p. box_owns (token E.al a) (R E) p v.value) (fst∗ 𝓤 (never 𝓤) (sem 𝓛 (token E.al a (bare (τ E)) null_ptr))) (λ b₁ o₁ at.
    move ! (1 ∷ []) $ split ! $ move ! (1 ∷ []) $ fpick ! (λ vss. fsplit ! $ feq_l ! (λ whole_is. fsplit ! $ feq_l ! (λ first_is. fsplit ! $
    rewrite ! 0 (λ (s : Z.Denot). ‵ (Z.own_val s vss.1.0)) same refl $ handle_tells E.al ! a vss.1.0 (λ h₁ second_is fits₁.
    let w₁ : Val = word E h₁ b₁ o₁ in let typed₁ = box_typed E h₁ b₁ o₁ fits₁ in
    let pair : u ∷ [] ≡ w₁ ∷ [] = whole_is ∙ (λ j. vstruct (of_list ((first_is ∙ ap (λ (p : Ptr). ptr_val p ∷ []) at) j ++ (second_is j ++ []))) ∷ []) in
    let made : To.Denot = record { ptr = block_ptr b₁ o₁; alloc = a; value = v.value } in
    lands_as ! (ap only pair) refl typed₁ $ sets ! (of_opd ! (get_in ! (fld ! refl (stop !)) (sub ! 0 refl (whole !)))) refl (tt, tt) $ sets ! (of_opd ! (get_in ! (fld ! refl (stop !)) (sub ! 1 refl (whole !)))) refl fits₁ $ sets ! (of_opd ! (get ! refl)) refl fits₁ $
    sets ! (agg ! (and_then ! (get ! refl) (and_then ! (get ! refl) (no_more !)))) refl typed₁ $ returns ! (look_at ! 0 refl) $ free_all ! refl $
    move ! (3 ∷ []) $ fsplit ! $ box_in E ! (record { ptr = block_ptr b₁ o₁; alloc = a; value = v.value }) b₁ o₁ v.value refl refl $ use1 𝓛 (‵ (To.own_val made (w₁ ∷ []))) (id⊢ 𝓤 (sem 𝓛 (To.own_val made (w₁ ∷ [])))) $ move ! (1 ∷ []) $ drop ! $
    suffices ! _ (ends_at 𝓛 En hs c z w₁ made ((tt, (tt, tt)), tt) (tt, tt)) $ says ! refl $ nothing ! $ nothing ! $ fjoin ! $ join ! $ move ! (1 ∷ 0 ∷ []) $ join ! $ done !))))))))))))
