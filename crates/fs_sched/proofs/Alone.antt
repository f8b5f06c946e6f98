-- Rounds of which only the last thread has anything to do.
use Rattle.std.proofs.Common.{◌≡◌, ℕ, ◌+◌, ◌-◌, ◌≤◌, ◌||◌, ⊎_elim, inl, Bool, true, false, List, [], ◌∷◌, length, is_some, Option, refl, sym, ap, ap₂, ◌∙◌, subst, arith}
use Rattle.std.proofs.Math.Nat.{eq-or-lt_of_le}
use Rattle.std.specs.List.{range_with_len}
use Rattle.fs_calls.specs.declared.call.Call.{Call}
use Rattle.fs_sched.specs.Runs.{Stage, next_call, has_more, Event, Goes, Starts, Spent, Events, Round, IsOver, IsUnfinished, IsRefused, Stops}
use Rattle.fs_sched.specs.code.Stages.{AreOver}
use Rattle.fs_sched.proofs.OverLemmas.{lead_from, stop_from}

only_last : (lists : List (List Call)) (last : ℕ) → length lists ≡ last + 1 → range_with_len last (length lists - last) ≡ last ∷ []
only_last lists last e = let one : length lists - last ≡ 1 = omega (arith, e) in ap (range_with_len last) one

-- an event of the last thread is a round
pub last_round : (lists : List (List Call)) (old new : Stage) (last : ℕ) → length lists ≡ last + 1 → AreOver lists old last → Event lists old last new → Round lists old new
last_round lists old new last e over event =
    lead_from lists old last (length lists) (omega (arith, e)) over new (subst (λ (r : List ℕ). Events lists old r new) (sym (only_last lists last e)) (new, event, refl))

-- and where it is refused, the round is
pub last_stops : (lists : List (List Call)) (s : Stage) (last : ℕ) → length lists ≡ last + 1 → AreOver lists s last → IsRefused lists s last → Stops lists s (range_with_len 0 (length lists))
last_stops lists s last e over refused =
    stop_from lists s last (length lists) (omega (arith, e)) over (subst (λ (r : List ℕ). Stops lists s r) (sym (only_last lists last e)) (inl refused))

pub last_unfinished : (lists : List (List Call)) (s : Stage) (last : ℕ) → length lists ≡ last + 1 → has_more lists s last ≡ true → IsUnfinished lists s
last_unfinished lists s last e more = (last, omega (arith, e), more)

-- a thread of which a begin is refused has a call left
pub refused_more : (lists : List (List Call)) (s : Stage) (seat : ℕ) → IsRefused lists s seat → has_more lists s seat ≡ true
refused_more lists s seat (call, is, begins) = ap₂ (λ (a : Option ℕ) (b : Option Call). is_some a || is_some b) begins.0 is

pub last_over : (lists : List (List Call)) (s : Stage) (last : ℕ) → length lists ≡ last + 1 → AreOver lists s last → has_more lists s last ≡ false → IsOver lists s
last_over lists s last e over none seat less = ⊎_elim (λ same. subst (λ (k : ℕ). has_more lists s k ≡ false) (sym same) none) (λ before. over seat before) (eq-or-lt_of_le (let h : seat ≤ last = omega (arith, e, less) in h))

-- an event of a thread with nothing to do leaves all as it was
pub spent_same : (lists : List (List Call)) (old new : Stage) (seat : ℕ) → Event lists old seat new → has_more lists old seat ≡ false → new ≡ old
spent_same lists old new seat (Goes c answer on step kept) none = absurd (let z : ◌≡◌ {A = Bool} true false = sym (ap (λ (o : Option ℕ). is_some o || is_some (next_call lists old seat)) on) ∙ none in cc)
spent_same lists old new seat (Starts c call off is begins set) none = absurd (let z : ◌≡◌ {A = Bool} true false = sym (ap₂ (λ (a : Option ℕ) (b : Option Call). is_some a || is_some b) off is) ∙ none in cc)
spent_same lists old new seat (Spent off is e) none = e
