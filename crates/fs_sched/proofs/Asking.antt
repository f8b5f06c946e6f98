-- What the answer of a step says of its seat.
use Rattle.std.proofs.Common.{◌≡◌, ℕ, zero, suc, ◌||◌, true, List, replicate, is_some, Option, Some, None, refl, sym, ap, subst}
use Rattle.fs_calls.specs.declared.call.Call.{Call}
use Rattle.fs_machine.specs.States.{State, Step}
use Rattle.fs_machine.specs.declared.answers.Stepped.{Stepped}
use Rattle.fs_machine.specs.declared.answers.Stepped.TheVariants.{Idle, Took, Busy, LetGo, Helped, Committed, CarriedOut, Returned}
use Rattle.fs_sched.specs.Runs.{Stage, next_call, has_more, Event, Goes, Events}

-- a step that does not answer Idle is one of a call on the seat
pub asked : (s : State) (seat : ℕ) (answer : Stepped) (new : State) → Step s seat answer new → (answer ≡ Idle → ⊥) → (c : ℕ) × (s.on_seat seat ≡ Some c)
asked s seat Idle new st other = absurd (other refl)
asked s seat (Busy n d) new (c, op, m, held, e) other = (c, m.0)
asked s seat (Took n) new (c, op, m, free, e) other = (c, m.0)
asked s seat (LetGo n) new (c, op, m, e) other = (c, m.0)
asked s seat (Helped d) new (c, op, t, m, w, pick, q, is, e) other = (c, m.0)
asked s seat Committed new (c, op, o, m, w, below, e) other = (c, m.0)
asked s seat CarriedOut new (c, op, o, i, m, placed, e) other = (c, m.0)
asked s seat (Returned r) new (c, op, m, ph, e) other = (c, m.0)

-- it is the event of the thread, and the thread had something to do
pub went : (lists : List (List Call)) (old new : Stage) (on seat : ℕ) (answer : Stepped) → Step old.state on answer new.state → on ≡ seat → new.begun ≡ old.begun → (answer ≡ Idle → ⊥) → Event lists old seat new
went lists old new on seat answer step e kept other =
    let st = subst (λ (s : ℕ). Step old.state s answer new.state) e step in
    let c = asked old.state seat answer new.state st other in
    Goes c.0 answer c.1 st kept

pub was_there : (lists : List (List Call)) (old : Stage) (new : State) (on seat : ℕ) (answer : Stepped) → Step old.state on answer new → on ≡ seat → (answer ≡ Idle → ⊥) → true ≡ has_more lists old seat
was_there lists old new on seat answer step e other =
    let c = asked old.state seat answer new (subst (λ (s : ℕ). Step old.state s answer new) e step) other in
    sym (ap (λ (o : Option ℕ). is_some o || is_some (next_call lists old seat)) c.1)

-- one that answers Idle finds no call on the seat, and leaves all as it was
pub idle : (old new : State) (on seat : ℕ) (answer : Stepped) → Step old on answer new → on ≡ seat → answer ≡ Idle → (old.on_seat seat ≡ None) × (new ≡ old)
idle old new on seat answer step e is =
    let st = subst (λ (a : Stepped). Step old on a new) is step in
    (subst (λ (s : ℕ). old.on_seat s ≡ None) e st.0, st.1)

-- what holds of two values holds of two that are the same
pub of_both : {A B : Type 0} (P : A → B → Type 0) (a x : A) (b y : B) → a ≡ x → b ≡ y → P x y → P a b
of_both {A = A} {B = B} P a x b y e f h = subst (λ (z : A). P z b) (sym e) (subst (λ (z : B). P x z) (sym f) h)

-- events that each leave all as it is
pub spent_times : (lists : List (List Call)) (s : Stage) (seat times : ℕ) → Event lists s seat s → Events lists s (replicate times seat) s
spent_times lists s seat zero event = refl
spent_times lists s seat (suc n) event = (s, event, spent_times lists s seat n event)
