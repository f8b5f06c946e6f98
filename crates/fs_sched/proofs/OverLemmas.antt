-- Threads that are over stay so.
use Rattle.std.proofs.Common.{◌≡◌, ℕ, zero, suc, ◌+◌, ◌-◌, ◌<◌, ◌≤◌, eqb, cond, Bool, true, false, ◌||◌, List, [], ◌∷◌, ◌++◌, length, get_or, slice_get, slice_set, is_some, Option, Some, None, Ok, refl, sym, ap, ap₂, ◌∙◌, subst, arith}
use Rattle.std.specs.List.{range_with_len}
use Rattle.std.proofs.lemmas.Bool.{cond-false, eqb-true}
use Rattle.fs_calls.specs.declared.call.Call.{Call}
use Rattle.fs_calls.specs.Forms.{reserved_by}
use Rattle.fs_names.specs.Shapes.{Shape}
use Rattle.fs_nodes.specs.Graphs.{set_at}
use Rattle.fs_machine.specs.States.{State, Begins, Reserves, Step}
use Rattle.fs_machine.specs.declared.answers.Stepped.{Stepped}
use Rattle.fs_machine.specs.declared.answers.Stepped.TheVariants.{Idle, Took, Busy, LetGo, Helped, Committed, CarriedOut, Returned}
use Rattle.fs_sched.specs.Runs.{Stage, next_call, has_more, Event, Goes, Starts, Spent, Events, Stops, IsUnfinished}
use Rattle.fs_sched.specs.code.Stages.{AreOver}
use Rattle.fs_sched.proofs.Staging.{Leads, lead_many, nothing_more}
use Rattle.fs_sched.proofs.Stopping.{LeadsToStop, stop_after}

-- a function that is set at another place
set_other : {A : Type 0} (i k : ℕ) (x : A) (f : ℕ → A) → (k ≡ i → ⊥) → set_at i x f k ≡ f k
set_other i k x f ne = go (eqb k i) refl
  where
    go : (b : Bool) → eqb k i ≡ b → set_at i x f k ≡ f k
    go true e = absurd (ne (eqb-true k i e))
    go false e = cond-false _ _ _ e

-- and one that is set to nothing
set_none : {A : Type 0} (i k : ℕ) (f : ℕ → Option A) → f k ≡ None → set_at i None f k ≡ None
set_none i k f h = go (eqb k i)
  where
    go : (b : Bool) → cond b None (f k) ≡ None
    go true = refl
    go false = h

-- a step puts no call on a seat
step_off : (old new : State) (seat k : ℕ) (answer : Stepped) → Step old seat answer new → old.on_seat k ≡ None → new.on_seat k ≡ None
step_off old new seat k Idle (off, e) h = ap (λ (s : State). s.on_seat k) e ∙ h
step_off old new seat k (Took n) (c, op, m, free, e) h = ap (λ (s : State). s.on_seat k) e ∙ h
step_off old new seat k (Busy n d) (c, op, m, held, e) h = ap (λ (s : State). s.on_seat k) e ∙ h
step_off old new seat k (LetGo n) (c, op, m, e) h = ap (λ (s : State). s.on_seat k) e ∙ h
step_off old new seat k (Helped d) (c, op, t, m, w, pick, q, is, e) h = ap (λ (s : State). s.on_seat k) e ∙ h
step_off old new seat k Committed (c, op, o, m, w, below, e) h = ap (λ (s : State). s.on_seat k) e ∙ h
step_off old new seat k CarriedOut (c, op, o, i, m, placed, e) h = ap (λ (s : State). s.on_seat k) e ∙ h
step_off old new seat k (Returned r) (c, op, m, ph, e) h = ap (λ (s : State). s.on_seat k) e ∙ set_none op.seat k old.on_seat h

-- a begin puts one on its own seat alone
begins_off : (old new : State) (seat k c : ℕ) (call : Call) → Begins old seat call (Ok c) new → (k ≡ seat → ⊥) → old.on_seat k ≡ None → new.on_seat k ≡ None
begins_off old new seat k c call begins ne h = go (reserved_by call) begins.2
  where
    go : (o : Option Shape) → Reserves old seat call c o new → new.on_seat k ≡ None
    go None e = ap (λ (s : State). s.on_seat k) e ∙ set_other seat k (Some c) old.on_seat ne ∙ h
    go (Some shape) (n, less, free, e) = ap (λ (s : State). s.on_seat k) e ∙ set_other seat k (Some c) old.on_seat ne ∙ h

get_set_other : (xs : List ℕ) (i k v : ℕ) → (k ≡ i → ⊥) → get_or (slice_set xs i v) k 0 ≡ get_or xs k 0
get_set_other [] i k v ne = refl
get_set_other (x ∷ xs) zero zero v ne = absurd (ne refl)
get_set_other (x ∷ xs) zero (suc k) v ne = refl
get_set_other (x ∷ xs) (suc i) zero v ne = refl
get_set_other (x ∷ xs) (suc i) (suc k) v ne = get_set_other xs i k v (λ e. ne (ap suc e))

-- nothing is left of a thread without calls
pub none_left : (lists : List (List Call)) (s : Stage) (k : ℕ) → s.state.on_seat k ≡ None → next_call lists s k ≡ None → has_more lists s k ≡ false
none_left lists s k off none = ap₂ (λ (a : Option ℕ) (b : Option Call). is_some a || is_some b) off none

pub event_over : (lists : List (List Call)) (old new : Stage) (seat k : ℕ) → Event lists old seat new → has_more lists old k ≡ false → has_more lists new k ≡ false
event_over lists old new seat k (Goes c answer on step kept) h =
    let n = nothing_more (old.state.on_seat k) (next_call lists old k) h in
    none_left lists new k (step_off old.state new.state seat k answer step n.0) (ap (λ (b : List ℕ). slice_get (get_or lists k []) (get_or b k 0)) kept ∙ n.1)
event_over lists old new seat k (Starts c call off is begins set) h =
    let n = nothing_more (old.state.on_seat k) (next_call lists old k) h in
    let ne : k ≡ seat → ⊥ = λ e. (let z : ◌≡◌ {A = Option Call} None (Some call) = sym n.1 ∙ ap (next_call lists old) e ∙ is in absurd (cc)) in
    none_left lists new k (begins_off old.state new.state seat k c call begins ne n.0)
    (ap (λ (b : List ℕ). slice_get (get_or lists k []) (get_or b k 0)) set ∙ ap (slice_get (get_or lists k [])) (get_set_other old.begun seat k _ ne) ∙ n.1)
event_over lists old new seat k (Spent off none e) h = subst (λ (s : Stage). has_more lists s k ≡ false) (sym e) h

pub events_over : (lists : List (List Call)) (seats : List ℕ) (old new : Stage) (k : ℕ) → Events lists old seats new → has_more lists old k ≡ false → has_more lists new k ≡ false
events_over lists [] old new k e h = subst (λ (s : Stage). has_more lists s k ≡ false) (sym e) h
events_over lists (seat ∷ seats) old new k (middle, event, rest) h = events_over lists seats middle new k rest (event_over lists old middle seat k event h)

-- the events of threads that are over are spent
spent_in : (lists : List (List Call)) (s : Stage) (a n from : ℕ) → a + n ≤ from → AreOver lists s from → Events lists s (range_with_len a n) s
spent_in lists s a zero from h over = refl
spent_in lists s a (suc n) from h over =
    let none = nothing_more (s.state.on_seat a) (next_call lists s a) (over a (omega arith)) in
    (s, Spent none.0 none.1 refl, spent_in lists s (a + 1) n from (omega arith) over)

range_append : (a m n : ℕ) → range_with_len a (m + n) ≡ range_with_len a m ++ range_with_len (a + m) n
range_append a zero n =
    let e : a ≡ a + 0 = omega arith in
    let z : 0 + n ≡ n = omega arith in
    ap (range_with_len a) z ∙ ap (λ (b : ℕ). range_with_len b n) e
range_append a (suc m) n =
    let e : (a + 1) + m ≡ a + suc m = omega arith in
    let z : suc m + n ≡ suc (m + n) = omega arith in
    ap (range_with_len a) z ∙ ap (λ (xs : List ℕ). a ∷ xs) (range_append (a + 1) m n ∙ ap (λ (b : ℕ). range_with_len (a + 1) m ++ range_with_len b n) e)

pub range_from : (from n : ℕ) → from ≤ n → range_with_len 0 n ≡ range_with_len 0 from ++ range_with_len from (n - from)
range_from from n h =
    let e : n ≡ from + (n - from) = omega (arith, h) in
    let z : 0 + from ≡ from = omega arith in
    ap (range_with_len 0) e ∙ range_append 0 from (n - from) ∙ ap (λ (b : ℕ). range_with_len 0 from ++ range_with_len b (n - from)) z

-- what is left of a round is the events of the others
pub lead_from : (lists : List (List Call)) (s : Stage) (from n : ℕ) → from ≤ n → AreOver lists s from → Leads lists s (range_with_len 0 n) s (range_with_len from (n - from))
lead_from lists s from n h over = lead_many lists s s s (range_with_len 0 n) (range_with_len 0 n) (range_with_len from (n - from)) (range_with_len 0 from) (range_from from n h) (λ last events. events) (spent_in lists s 0 from from (omega arith) over)

pub stop_from : (lists : List (List Call)) (s : Stage) (from n : ℕ) → from ≤ n → AreOver lists s from → LeadsToStop lists s (range_with_len 0 n) s (range_with_len from (n - from))
stop_from lists s from n h over stops = subst (λ (r : List ℕ). Stops lists s r) (sym (range_from from n h)) (stop_after lists s s (range_with_len 0 from) (range_with_len from (n - from)) (spent_in lists s 0 from from (omega arith) over) stops)

-- the first thread that has more shows that some has
pub there : (lists : List (List Call)) (s : Stage) (first len : ℕ) → len ≡ length lists → first < len → (first < length lists → has_more lists s first ≡ true) → IsUnfinished lists s
there lists s first len e less left = let h : first < length lists = omega (arith, e, less) in (first, h, left h)
