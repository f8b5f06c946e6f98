-- Threads that are marked as over.
use Rattle.std.proofs.Common.{◌≡◌, ℕ, zero, suc, eqb, Bool, true, false, List, [], ◌∷◌, length, get_or, replicate, slice_set, refl, sym, ap, ◌∙◌, subst}
use Rattle.std.proofs.lemmas.Bool.{eqb-true, eqb-false}
use Rattle.fs_calls.specs.declared.call.Call.{Call}
use Rattle.fs_sched.specs.Runs.{Stage, has_more, Event, Spent}
use Rattle.fs_sched.specs.code.Stages.{stage_of, IsSeated, IsMarked}
use Rattle.fs_sched.specs.declared.play.Play.{Play}
use Rattle.fs_core.specs.CoreValues.{IsAtRest, state_of}
use Rattle.fs_machine.specs.States.{begun_again}
use Rattle.fs_sched.proofs.OverLemmas.{event_over, none_left}
use Rattle.fs_sched.proofs.Rounds.{event_length}
use Rattle.fs_sched.proofs.Staging.{nothing_more}

length_same : (n : ℕ) → length (replicate n false) ≡ n
length_same zero = refl
length_same (suc n) = ap suc (length_same n)

none_marked : (n k : ℕ) → get_or (replicate n false) k false ≡ false
none_marked zero k = refl
none_marked (suc n) zero = refl
none_marked (suc n) (suc k) = none_marked n k

-- before the first event no thread is marked
pub unmarked : (lists : List (List Call)) (play : Play) (threads : ℕ) → IsSeated play threads → play.over.items ≡ replicate threads false → length lists ≡ threads → IsMarked lists play
unmarked lists play threads seated none same = record {
  seated = subst (IsSeated play) (sym same) seated;
  marks = ap length none ∙ length_same threads ∙ sym same;
  over = λ seat mark. absurd (let z : ◌≡◌ {A = Bool} true false = sym mark ∙ ap (λ (marks : List Bool). get_or marks seat false) none ∙ none_marked threads seat in cc);
}

-- threads that are marked are over after each event
pub still_marked : (lists : List (List Call)) (old new : Play) (seat : ℕ) → IsMarked lists old → Event lists (stage_of old) seat (stage_of new) → length new.core.seats ≡ length old.core.seats → new.over.items ≡ old.over.items → IsMarked lists new
still_marked lists old new seat marked event seats same = record {
  seated = record { seats = seats ∙ marked.seated.seats; begun = event_length lists (stage_of old) (stage_of new) seat event ∙ marked.seated.begun };
  marks = ap length same ∙ marked.marks;
  over = λ k mark. event_over lists (stage_of old) (stage_of new) seat k event (marked.over k (subst (λ (marks : List Bool). get_or marks k false ≡ true) same mark));
}

-- or where nothing changed
pub marked_same : (lists : List (List Call)) (old new : Play) → IsMarked lists old → stage_of new ≡ stage_of old → length new.core.seats ≡ length old.core.seats → new.over.items ≡ old.over.items → IsMarked lists new
marked_same lists old new marked stays seats same = record {
  seated = record { seats = seats ∙ marked.seated.seats; begun = ap (λ (s : Stage). length s.begun) stays ∙ marked.seated.begun };
  marks = ap length same ∙ marked.marks;
  over = λ k mark. subst (λ (s : Stage). has_more lists s k ≡ false) (sym stays) (marked.over k (subst (λ (marks : List Bool). get_or marks k false ≡ true) same mark));
}

length_set : (xs : List Bool) (i : ℕ) → length (slice_set xs i true) ≡ length xs
length_set [] i = refl
length_set (x ∷ xs) zero = refl
length_set (x ∷ xs) (suc i) = ap suc (length_set xs i)

set_other : (xs : List Bool) (i k : ℕ) → (k ≡ i → ⊥) → get_or (slice_set xs i true) k false ≡ get_or xs k false
set_other [] i k ne = refl
set_other (x ∷ xs) zero zero ne = absurd (ne refl)
set_other (x ∷ xs) zero (suc k) ne = refl
set_other (x ∷ xs) (suc i) zero ne = refl
set_other (x ∷ xs) (suc i) (suc k) ne = set_other xs i k (λ e. ne (ap suc e))

-- a thread that is marked has no event
pub marked_spent : (lists : List (List Call)) (play : Play) (seat : ℕ) → IsMarked lists play → get_or play.over.items seat false ≡ true → Event lists (stage_of play) seat (stage_of play)
marked_spent lists play seat marked mark = let none = nothing_more _ _ (marked.over seat mark) in Spent none.0 none.1 refl

-- and so is one that is marked since it has nothing to do
pub one_more : (lists : List (List Call)) (old new : Play) (seat : ℕ) → IsMarked lists old → IsSeated new (length lists) → stage_of new ≡ stage_of old → new.over.items ≡ slice_set old.over.items seat true → has_more lists (stage_of old) seat ≡ false → IsMarked lists new
one_more lists old new seat marked seated stays set none = record {
  seated = seated;
  marks = ap length set ∙ length_set old.over.items seat ∙ marked.marks;
  over = λ k mark. subst (λ (s : Stage). has_more lists s k ≡ false) (sym stays) (by k (subst (λ (marks : List Bool). get_or marks k false ≡ true) set mark) (eqb k seat) refl);
}
  where
    by : (k : ℕ) → get_or (slice_set old.over.items seat true) k false ≡ true → (b : Bool) → eqb k seat ≡ b → has_more lists (stage_of old) k ≡ false
    by k mark true e = subst (λ (j : ℕ). has_more lists (stage_of old) j ≡ false) (sym (eqb-true k seat e)) none
    by k mark false e = marked.over k (sym (set_other old.over.items seat k (eqb-false k seat e)) ∙ mark)

-- threads that are over are so where the timeline begins again
pub again_marked : (lists : List (List Call)) (old new : Play) → IsMarked lists old → IsAtRest old.core → stage_of new ≡ record { state = begun_again (state_of old.core); begun = old.begun.items } → new.core.seats ≡ old.core.seats → new.over.items ≡ old.over.items → IsMarked lists new
again_marked lists old new marked rest again seats same = record {
  seated = record { seats = ap length seats ∙ marked.seated.seats; begun = ap (λ (s : Stage). length s.begun) again ∙ marked.seated.begun };
  marks = ap length same ∙ marked.marks;
  over = λ k mark.
      let none = nothing_more _ _ (marked.over k (subst (λ (marks : List Bool). get_or marks k false ≡ true) same mark)) in
      subst (λ (s : Stage). has_more lists s k ≡ false) (sym again) (none_left lists (record { state = begun_again (state_of old.core); begun = old.begun.items }) k refl none.1);
}
