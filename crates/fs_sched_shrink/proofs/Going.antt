-- What goes, one after the other.
use Rattle.std.proofs.Common.{◌≡◌, ◌≢◌, ℕ, ◌+◌, ◌<◌, ◌≤◌, Bool, true, false, cond, ltb, List, length, get_or, set, refl, sym, ap, subst, ◌∙◌, arith}
use Rattle.std.proofs.lemmas.Bool.{ltb-true, ltb-false}
use Rattle.std.proofs.lemmas.List.{length-set, get_or-set_other, set-set, set-get_or, get_or_past}
use Rattle.fs_script.specs.declared.script.Script.{Script}
use Rattle.fs_sched.specs.declared.origin.Origin.{Origin}
use Rattle.fs_sched_find.specs.declared.what.Clause.{Clause}
use Rattle.fs_sched_shrink.specs.Moves.{is_named}
use Rattle.fs_sched_shrink.specs.Shrinks.{IsKeptOn, IsShrunkOn, IsSmallestOn}
use Rattle.fs_sched_shrink.specs.code.Passes.{KeepsNamed, NoneGoes, IsPassTo, IsTrying, IsPass}
use Rattle.fs_sched_shrink.specs.declared.limits.TheConstants.{TRIAL_LIMIT}
use Rattle.fs_sched_shrink.specs.declared.cutting.Pass.{Pass}
use Rattle.fs_sched_shrink.specs.declared.cutting.Pass.TheVariants as pass

differ : (b : Bool) → b ≡ true → b ≡ false → ⊥
differ true e f = let z : ◌≡◌ {A = Bool} true false = f in cc
differ false e f = let z : ◌≡◌ {A = Bool} false true = e in cc

-- flags of fewer
pub range_shrunk : (from : Origin) (script : Script) (what : List (List Clause)) (kept left : List Bool) → IsShrunkOn from script what kept → length left ≡ length kept → KeepsNamed script what kept left → IsKeptOn from script what left true → IsShrunkOn from script what left
range_shrunk from script what kept left s same named has =
    record { sized = same ∙ s.sized; named = λ at less is. named at is (s.named at (omega (arith, less, same)) is); has = has }

-- one flag fewer
pub one_shrunk : (from : Origin) (script : Script) (what : List (List Clause)) (kept : List Bool) (at : ℕ) → IsShrunkOn from script what kept → is_named script what at ≡ false → IsKeptOn from script what (set kept at false) true → IsShrunkOn from script what (set kept at false)
one_shrunk from script what kept at s unnamed has =
    let same : length (set kept at false) ≡ length kept = length-set kept at false in
    record {
      sized = same ∙ s.sized;
      named = λ k less is.
          let other : k ≢ at = λ e. differ (is_named script what at) (ap (is_named script what) (sym e) ∙ is) unnamed in
          get_or-set_other kept at k false false other ∙ s.named k (omega (arith, less, same)) is;
      has = has;
    }

-- a flag that is set back
pub set_back : (kept : List Bool) (at : ℕ) → get_or kept at false ≡ true → set (set kept at false) at true ≡ kept
set_back kept at stays = set-set kept at false true ∙ ap (set kept at) (sym stays) ∙ set-get_or kept at false

-- none can go before the next one
pub none_more : (from : Origin) (script : Script) (what : List (List Clause)) (kept : List Bool) (end : ℕ) → NoneGoes from script what kept end → (get_or kept end false ≡ true → is_named script what end ≡ false → IsKeptOn from script what (set kept end false) false) → NoneGoes from script what kept (end + 1)
none_more from script what kept end none here at less stays unnamed = go (ltb at end) refl
  where
    go : (b : Bool) → ltb at end ≡ b → IsKeptOn from script what (set kept at false) false
    go true t = none at (ltb-true _ _ t) stays unnamed
    go false f =
        let same : end ≡ at = omega (arith, less, ltb-false _ _ f) in
        subst (λ (n : ℕ). IsKeptOn from script what (set kept n false) false) same (here (ap (λ n. get_or kept n false) same ∙ stays) (ap (is_named script what) same ∙ unnamed))

-- a flag that is true is there
there : (kept : List Bool) (at : ℕ) → get_or kept at false ≡ true → at < length kept
there kept at stays = go (ltb at (length kept)) refl
  where
    go : (b : Bool) → ltb at (length kept) ≡ b → at < length kept
    go true t = ltb-true _ _ t
    go false f = absurd (differ (get_or kept at false) stays (get_or_past kept at false (ltb-false _ _ f)))

-- behind all of them
pub none_goes : (from : Origin) (script : Script) (what : List (List Clause)) (kept : List Bool) (end : ℕ) → length kept ≤ end → NoneGoes from script what kept end → IsSmallestOn from script what kept
none_goes from script what kept end all none at stays unnamed = let less : at < length kept = there kept at stays in none at (omega (arith, less, all)) stays unnamed

-- ---- one after the other

passed_over : (from : Origin) (script : Script) (what : List (List Clause)) (kept : List Bool) (end first last : ℕ) (p : Pass) → IsPassTo from script what kept end first last p → (get_or kept end false ≡ true → is_named script what end ≡ true) → IsPassTo from script what kept (end + 1) first last p
passed_over from script what kept end first last pass.Cut h named = h
passed_over from script what kept end first last pass.Smallest h named = none_more from script what kept end h (λ stays unnamed. absurd (differ (is_named script what end) (named stays) unnamed))
passed_over from script what kept end first last pass.Stopped h named = absurd h

-- one that may not go is passed over
pub trying_next : (from : Origin) (script : Script) (what : List (List Clause)) (old kept : List Bool) (end first last : ℕ) (p : Pass) → IsTrying from script what old kept end first last p → (get_or kept end false ≡ true → is_named script what end ≡ true) → IsTrying from script what old kept (end + 1) first last p
trying_next from script what old kept end first last p t named =
    record { shrunk = t.shrunk; sized = t.sized; low = t.low; high = t.high; pass = passed_over from script what kept end first last p t.pass named }

stayed : (from : Origin) (script : Script) (what : List (List Clause)) (kept : List Bool) (end first last : ℕ) (p : Pass) → IsPassTo from script what kept end first last p → IsKeptOn from script what (set kept end false) false → IsPassTo from script what kept (end + 1) first (last + 1) p
stayed from script what kept end first last pass.Cut h cannot = omega (arith, h)
stayed from script what kept end first last pass.Smallest h cannot = none_more from script what kept end h (λ stays unnamed. cannot)
stayed from script what kept end first last pass.Stopped h cannot = absurd h

-- one was tried, and went or stayed
pub trying_tried : (from : Origin) (script : Script) (what : List (List Clause)) (old kept now : List Bool) (end first last : ℕ) (p : Pass) (went : Bool) → IsTrying from script what old kept end first last p → last < TRIAL_LIMIT → IsShrunkOn from script what now → length now ≡ length kept
    → (went ≡ false → (now ≡ kept) × IsKeptOn from script what (set kept end false) false) → IsTrying from script what old now (end + 1) first (last + 1) (cond went pass.Cut p)
trying_tried from script what old kept now end first last p true t less shrunk same cannot =
    record { shrunk = shrunk; sized = same ∙ t.sized; low = omega (arith, t.low); high = omega (arith, less); pass = (let l : first ≤ last = t.low in omega (arith, l)) }
trying_tried from script what old kept now end first last p false t less shrunk same cannot =
    let c = cannot refl in
    record {
      shrunk = shrunk;
      sized = same ∙ t.sized;
      low = omega (arith, t.low);
      high = omega (arith, less);
      pass = subst (λ (flags : List Bool). IsPassTo from script what flags (end + 1) first (last + 1) p) (sym c.0) (stayed from script what kept end first last p t.pass c.1);
    }

-- all were tried
pub all_tried : (from : Origin) (script : Script) (what : List (List Clause)) (old kept : List Bool) (end first last : ℕ) (p : Pass) → length old ≤ end → IsTrying from script what old kept end first last p → IsPass from script what kept first last p
all_tried from script what old kept end first last pass.Cut all t = (t.pass, t.high)
all_tried from script what old kept end first last pass.Smallest all t = let same : length kept ≡ length old = t.sized in none_goes from script what kept end (omega (arith, all, same)) t.pass
all_tried from script what old kept end first last pass.Stopped all t = absurd t.pass

-- before the first one
pub trying_none : (from : Origin) (script : Script) (what : List (List Clause)) (kept : List Bool) (runs : ℕ) → IsShrunkOn from script what kept → runs ≤ TRIAL_LIMIT → IsTrying from script what kept kept 0 runs runs pass.Smallest
trying_none from script what kept runs shrunk few = record { shrunk = shrunk; sized = refl; low = omega arith; high = few; pass = λ at less. absurd (omega (arith, less)) }
