-- A null pointer and an allocator own nothing more.
use mathlib.Core.Path.{refl}
use mathlib.Core.List.{List, [], ◌∷◌}
use lib.Dec.{T, lit<}
use mir.Val.{Val, vstruct, vcons, vnil, has_ty, WT}
use base.Logic.{SProp, ent, id⊢, never, fst∗}
use base.Fml.{ftrue, fsep}
use contract.Running.{tables}
use prog.Wp.{WpFn}
use types.Logic.{sem}
use types.Kit.{‵, raw, ◌⊛◌, ◌$◌, ◌∵◌, !, qed, move, drop, use1, join, split, fsplit, fjoin, fpack, feq_i, suffices, done}
use types.Part.{agg}
use types.Run.{lit, no_more, and_then, returns, enter}
use types.ByLocal.{alloc_all, pass_all, free_all, look_at, get, sets}
use denote.Exit.{yes}
use denote.RattleType.{Valss}
use denote.RawPtr.{RawPtr, null_ptr, ptr_val}
use denote.Signature.{type_at}
use denote.Steps.{nothing}
use denote.Struct.Struct.{within}
use denote.Struct.Owning.{shape}
use denote.Triple.Walked.{says, Stays, stay_dropped, walk_of, ends_at, Goes-dropped}
use Rattle.core.proofs.alloc.Calls.{α, handle_tells, Fits}
use Rattle.std.proofs.raw_atomic.Walks.{proved_at}
use Rattle.std.specs.Prelude.{None}
use Rattle.std_alloc.proofs.BoxSteps.Form.{P, owning, box_ty}
use Rattle.std_alloc.proofs.ResultValues.{and_tt}
use Rattle.atomfs_c.proofs.Boxes.{core_box as E, takes_alloc as From, at_values}
use Rattle.std_heap.specs.contracts.Global as Heap
use Rattle.atomfs_c.specs.contracts.held.Held.closed as F
use Rattle.atomfs_c.specs.contracts.held.Held.closed.Key.{name as #self}
use Rattle.atomfs_c.proofs.held.Held.closed.Statement.{statement}
use Rattle.atomfs_c.proofs.held.Held.closed.Code as code

null_typed : (h : Val) → Fits E.al h → T (has_ty (box_ty E) (vstruct (vcons (ptr_val null_ptr) (vcons h vnil)))) × WT (vstruct (vcons (ptr_val null_ptr) (vcons h vnil)))
null_typed h fits = (and_tt (has_ty (α E.al) h) fits.0, (record { fits = lit< tt }, (fits.1, tt)))

pub closed_spec : {M : Type 1} → statement M
closed_spec 𝓤 𝓛 𝓜 𝓡 wired =
    let H = 𝓛.H in let 𝓣 = tables 𝓤 H 𝓜 𝓡 𝓡.env in let To = type_at (F.signature).result tt in let c = F.clauses 𝓛 𝓜.mem 𝓡.returns in
    let hs : Stays (F.ended).signature.params (F.ended).kept = (stay_dropped From yes, tt) in
    proved_at 𝓛 F.ended hs c 𝓜 𝓡 (Goes-dropped 𝓛 0 From yes (λ κs x f. refl), tt) #self code.function (code.unfolded 𝓤 H 𝓜 𝓡 wired) (λ z are.
    let Run : List Val → SProp 𝓤 = λ ws. WpFn 𝓤 H 𝓣.C 𝓣.Λ code.function ws ((walk_of 𝓛 F.ended hs c).post z) in let a = z.0.3.0 in
    let made : To.Denot = record { at = null_ptr; alloc = a; core = None } in
    qed 𝓛 ((‵ ftrue ⊛ ‵ (fsep (Heap.the_row.own_val a z.0.4.0) ftrue)) ∷ raw (base.Logic.emp 𝓤) ∷ []) ∵ split ! $ drop ! $ fsplit ! $ move ! (1 ∷ 2 ∷ []) $ drop ! $ drop ! $
    handle_tells E.al ! a z.0.4.0 (λ h told fits.
    let w : Val = vstruct (vcons (ptr_val null_ptr) (vcons h vnil)) in
    suffices ! (Run (h ∷ [])) (at_values 𝓤 Run z.0.4.0 h told) $ enter ! 𝓣.C 𝓣.Λ code.function (h ∷ []) _ $ alloc_all ! (λ ls. pass_all ! refl (fits, tt) $
    sets ! (agg ! (and_then ! (lit ! tt) (and_then ! (get ! refl) (no_more !)))) refl (null_typed h fits) $ returns ! (look_at ! 0 refl) $ free_all ! refl $
    -- the null pointer, the handle, and nothing, as a handle's own
    nothing ! $ nothing ! $ move ! (2 ∷ 0 ∷ []) $ fjoin ! $ feq_i ! (List Val) (ptr_val null_ptr ∷ []) (ptr_val null_ptr ∷ []) refl $ fjoin ! $ feq_i ! (List Val) (w ∷ []) (w ∷ []) refl $ fjoin ! $
    fpack ! (Valss (RawPtr ∷ P E ∷ [])) (within (shape (owning E)) (null_ptr, (a, tt)) (w ∷ [])) (ptr_val null_ptr ∷ [], (h ∷ [], tt)) $ fjoin ! $ use1 𝓛 (‵ (To.own_val made (w ∷ []))) (id⊢ 𝓤 (sem 𝓛 (To.own_val made (w ∷ [])))) $
    suffices ! _ (ends_at 𝓛 F.ended hs c z w made (tt, tt) (tt, tt)) $ says ! refl $ nothing ! $ nothing ! $ fjoin ! $ join ! $ nothing ! $ join ! $ done !)))
