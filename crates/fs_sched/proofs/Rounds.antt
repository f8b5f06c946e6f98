-- Rounds to the end come to an end: each leaves less to do.
use Rattle.std.proofs.Common.{◌≡◌, ℕ, zero, suc, ◌+◌, ◌<◌, ◌≤◌, ◌||◌, Bool, true, false, List, [], ◌∷◌, length, drop, get_or, slice_get, slice_set, is_some, Option, Some, None, refl, sym, ap, ap₂, ◌∙◌, subst, arith, Ok}
use Rattle.std.specs.List.{range_with_len}
use Rattle.fs_names.specs.declared.limits.Limits.{Limits}
use Rattle.fs_names.specs.declared.limits.Limits.TheVariants.{V1}
use Rattle.fs_calls.specs.Forms.{form}
use Rattle.fs_calls.specs.declared.call.Call.{Call}
use Rattle.fs_calls.specs.declared.call.Call.TheVariants as calls
use Rattle.fs_machine.specs.Records.{Record}
use Rattle.fs_laws.specs.Progress.{GoesOn, SomebodyGoesOn}
use Rattle.fs_machine.specs.States.{State, Run, Beginning, Stepping, Begins, Step}
use Rattle.fs_machine.specs.declared.answers.Stepped.{Stepped}
use Rattle.fs_machine.specs.declared.answers.Stepped.TheVariants.{Idle, Took, Busy, LetGo, Helped, Committed, CarriedOut, Returned}
use Rattle.fs_laws.specs.StepsLeft.{steps_left, first_steps}
use Rattle.fs_machine.proofs.StepsAreDetermined.{one_step}
use Rattle.fs_laws.proofs.states.Headline.{run_keeps}
use Rattle.fs_laws.proofs.states.Waiters.{never_stuck}
use Rattle.fs_laws.proofs.states.StepsTakeWork.{takes_work, adds_work}
use Rattle.fs_sched.specs.Runs.{Stage, next_call, has_more, Event, Goes, Starts, Spent, Events, Round, IsUnfinished}

-- ---- how much is left to do

-- what calls cost together
abbrev pub cost_of : (Call → ℕ) → List Call → ℕ
cost_of cost [] = 0
cost_of cost (call ∷ calls) = cost call + cost_of cost calls

-- the same of the calls of each thread that are left
abbrev pub owed : (Call → ℕ) → List (List Call) → List ℕ → ℕ
owed cost [] begun = 0
owed cost (calls ∷ lists) [] = 0
owed cost (calls ∷ lists) (n ∷ begun) = cost_of cost (drop n calls) + owed cost lists begun

-- the steps that a call takes at most, and its begin
abbrev steps_of : Call → ℕ
steps_of call = first_steps (form V1 call) + 1

-- which no limit of files changes
steps_any : (limits : Limits) (call : Call) → first_steps (form limits call) ≡ first_steps (form V1 call)
steps_any limits (calls.Mkdir p) = refl
steps_any limits (calls.Mknod p) = refl
steps_any limits (calls.Unlink p) = refl
steps_any limits (calls.Rmdir p) = refl
steps_any limits (calls.Rename p q) = refl
steps_any limits (calls.Exchange p q) = refl
steps_any limits (calls.Stat p) = refl
steps_any limits (calls.Readdir p) = refl
steps_any limits (calls.ListAfter count p after) = refl
steps_any limits (calls.Read p off count) = refl
steps_any limits (calls.Write p off bytes) = refl
steps_any limits (calls.Truncate p size) = refl

-- the events that are not spent and not busy, at most
abbrev pub left_over : List (List Call) → Stage → ℕ
left_over lists s = steps_left s.state + owed steps_of lists s.begun

one_call_less : (cost : Call → ℕ) (calls : List Call) (n : ℕ) (call : Call) → slice_get calls n ≡ Some call → cost_of cost (drop (suc n) calls) + cost call ≡ cost_of cost (drop n calls)
one_call_less cost [] n call e = absurd (let z : ◌≡◌ {A = Option Call} None (Some call) = e in cc)
one_call_less cost (c ∷ calls) zero call e = let z : ◌≡◌ {A = Option Call} (Some c) (Some call) = e in let y : c ≡ call = cc in let x : cost c ≡ cost call = ap cost y in omega (arith, x)
one_call_less cost (c ∷ calls) (suc n) call e = one_call_less cost calls n call e

pub owed_less : (cost : Call → ℕ) (lists : List (List Call)) (begun : List ℕ) (seat v : ℕ) (call : Call) → length begun ≡ length lists → v ≡ suc (get_or begun seat 0) → slice_get (get_or lists seat []) (get_or begun seat 0) ≡ Some call
    → owed cost lists (slice_set begun seat v) + cost call ≡ owed cost lists begun
owed_less cost [] begun seat v call same one e = absurd (let z : ◌≡◌ {A = Option Call} None (Some call) = e in cc)
owed_less cost (calls ∷ lists) [] seat v call same one e = absurd (let z : 0 ≡ suc (length lists) = same in omega (arith, z))
owed_less cost (calls ∷ lists) (n ∷ begun) zero v call same one e =
    let h : cost_of cost (drop (suc n) calls) + cost call ≡ cost_of cost (drop n calls) = one_call_less cost calls n call e in
    let g : cost_of cost (drop v calls) ≡ cost_of cost (drop (suc n) calls) = ap (λ (k : ℕ). cost_of cost (drop k calls)) one in
    omega (arith, h, g)
owed_less cost (calls ∷ lists) (n ∷ begun) (suc seat) v call same one e =
    let l : length begun ≡ length lists = (let z : suc (length begun) ≡ suc (length lists) = same in omega (arith, z)) in
    let h : owed cost lists (slice_set begun seat v) + cost call ≡ owed cost lists begun = owed_less cost lists begun seat v call l one e in
    omega (arith, h)

-- ---- one event

pub none_some : (o : Option ℕ) (c : ℕ) → o ≡ None → o ≡ Some c → ⊥
none_some o c a b = let z : ◌≡◌ {A = Option ℕ} None (Some c) = sym a ∙ b in cc

same_stage : (old new : Stage) → new.state ≡ old.state → new.begun ≡ old.begun → new ≡ old
same_stage old new a b = ap₂ (λ (s : State) (n : List ℕ). record { state = s; begun = n }) a b

starts_less : (lists : List (List Call)) (old new : Stage) (seat c : ℕ) (call : Call) → Run old.state → length old.begun ≡ length lists → next_call lists old seat ≡ Some call → Begins old.state seat call (Ok c) new.state
    → new.begun ≡ slice_set old.begun seat (get_or old.begun seat 0 + 1) → left_over lists new + 1 ≤ left_over lists old
starts_less lists old new seat c call run same is begins set =
    let a : steps_left new.state ≡ steps_left old.state + first_steps (form V1 call) = adds_work old.state run seat c call new.state begins ∙ ap (λ (n : ℕ). steps_left old.state + n) (steps_any _ call) in
    let b : owed steps_of lists new.begun ≡ owed steps_of lists (slice_set old.begun seat (get_or old.begun seat 0 + 1)) = ap (owed steps_of lists) set in
    let d : owed steps_of lists (slice_set old.begun seat (get_or old.begun seat 0 + 1)) + (first_steps (form V1 call) + 1) ≡ owed steps_of lists old.begun = owed_less steps_of lists old.begun seat (get_or old.begun seat 0 + 1) call same (omega arith) is in
    omega (arith, a, b, d)

-- it leaves all as it was, or less to do
data Falls (lists : List (List Call)) (old new : Stage) : Type 0 where
  Same : new ≡ old → Falls lists old new
  Less : left_over lists new + 1 ≤ left_over lists old → Falls lists old new

step_falls : (lists : List (List Call)) (old new : Stage) (seat : ℕ) (answer : Stepped) → Run old.state → Step old.state seat answer new.state → new.begun ≡ old.begun → Falls lists old new
step_falls lists old new seat answer run step kept = by answer step
  where
    goes : (a : Stepped) → Step old.state seat a new.state → GoesOn a → Falls lists old new
    goes a st g = let w : steps_left new.state + 1 ≤ steps_left old.state = takes_work old.state run seat a new.state st g in let b : owed steps_of lists new.begun ≡ owed steps_of lists old.begun = ap (owed steps_of lists) kept in Less (omega (arith, w, b))

    by : (a : Stepped) → Step old.state seat a new.state → Falls lists old new
    by Idle (off, e) = Same (same_stage old new e kept)
    by (Busy n d) (c, op, m, held, e) = Same (same_stage old new e kept)
    by (Took n) st = goes (Took n) st tt
    by (LetGo n) st = goes (LetGo n) st tt
    by (Helped d) st = goes (Helped d) st tt
    by Committed st = goes Committed st tt
    by CarriedOut st = goes CarriedOut st tt
    by (Returned r) st = goes (Returned r) st tt

event_falls : (lists : List (List Call)) (old new : Stage) (seat : ℕ) → Run old.state → length old.begun ≡ length lists → Event lists old seat new → Falls lists old new
event_falls lists old new seat run same (Goes c answer on step kept) = step_falls lists old new seat answer run step kept
event_falls lists old new seat run same (Starts c call off is begins set) = Less (starts_less lists old new seat c call run same is begins set)
event_falls lists old new seat run same (Spent off none e) = Same e

pub event_run : (lists : List (List Call)) (old new : Stage) (seat : ℕ) → Run old.state → Event lists old seat new → Run new.state
event_run lists old new seat run (Goes c answer on step kept) = Stepping seat answer new.state run step
event_run lists old new seat run (Starts c call off is begins set) = Beginning seat call (Ok c) new.state run begins
event_run lists old new seat run (Spent off none e) = subst (λ (s : Stage). Run s.state) (sym e) run

length_set : (xs : List ℕ) (i v : ℕ) → length (slice_set xs i v) ≡ length xs
length_set [] i v = refl
length_set (x ∷ xs) zero v = refl
length_set (x ∷ xs) (suc i) v = ap suc (length_set xs i v)

pub event_length : (lists : List (List Call)) (old new : Stage) (seat : ℕ) → Event lists old seat new → length new.begun ≡ length old.begun
event_length lists old new seat (Goes c answer on step kept) = ap length kept
event_length lists old new seat (Starts c call off is begins set) = ap length set ∙ length_set old.begun seat (get_or old.begun seat 0 + 1)
event_length lists old new seat (Spent off none e) = ap (λ (s : Stage). length s.begun) e

-- ---- several events

abbrev Each : (ℕ → Type 0) → List ℕ → Type 0
Each P [] = Unit {0}
Each P (x ∷ xs) = P x × Each P xs

each_in : (P : ℕ → Type 0) (a n k : ℕ) → Each P (range_with_len a n) → k < n → P (a + k)
each_in P a zero k all less = absurd (omega (arith, less))
each_in P a (suc n) zero all less = let e : a ≡ a + 0 = omega arith in subst P e all.0
each_in P a (suc n) (suc k) all less = let e : (a + 1) + k ≡ a + suc k = omega arith in subst P e (each_in P (a + 1) n k all.1 (omega (arith, less)))

each_at : (P : ℕ → Type 0) (n k : ℕ) → Each P (range_with_len 0 n) → k < n → P k
each_at P n k all less = let e : 0 + k ≡ k = omega arith in subst P e (each_in P 0 n k all less)

data AllFall (lists : List (List Call)) (old : Stage) (seats : List ℕ) (new : Stage) : Type 0 where
  Still : new ≡ old → Each (λ seat. Event lists old seat old) seats → AllFall lists old seats new
  Fewer : left_over lists new + 1 ≤ left_over lists old → AllFall lists old seats new

events_fall : (lists : List (List Call)) (seats : List ℕ) (old new : Stage) → Run old.state → length old.begun ≡ length lists → Events lists old seats new → AllFall lists old seats new
events_fall lists [] old new run same e = Still e tt
events_fall lists (seat ∷ seats) old new run same (middle, event, rest) = go (event_falls lists old middle seat run same event) (events_fall lists seats middle new (event_run lists old middle seat run event) (event_length lists old middle seat event ∙ same) rest)
  where
    go : Falls lists old middle → AllFall lists middle seats new → AllFall lists old (seat ∷ seats) new
    go (Same e) (Still f each) = Still (f ∙ e) (subst (λ (m : Stage). Event lists old seat m) e event, subst (λ (m : Stage). Each (λ x. Event lists m x m) seats) e each)
    go (Same e) (Fewer less) = Fewer (subst (λ (m : Stage). left_over lists new + 1 ≤ left_over lists m) e less)
    go (Less less) (Still f each) = Fewer (let a : left_over lists new ≡ left_over lists middle = ap (left_over lists) f in omega (arith, a, less))
    go (Less less) (Fewer more) = Fewer (omega (arith, less, more))

-- ---- a round

-- the seat of a step by which a call goes on has that call
pub on_seat_of : (s : State) (seat : ℕ) (answer : Stepped) (new : State) → Step s seat answer new → GoesOn answer → (c : ℕ) × (s.on_seat seat ≡ Some c)
on_seat_of s seat Idle new st g = absurd g
on_seat_of s seat (Busy n d) new st g = absurd g
on_seat_of s seat (Took n) new (c, op, m, free, e) g = (c, m.0)
on_seat_of s seat (LetGo n) new (c, op, m, e) g = (c, m.0)
on_seat_of s seat (Helped d) new (c, op, t, m, w, pick, q, is, e) g = (c, m.0)
on_seat_of s seat Committed new (c, op, o, m, w, below, e) g = (c, m.0)
on_seat_of s seat CarriedOut new (c, op, o, i, m, placed, e) g = (c, m.0)
on_seat_of s seat (Returned r) new (c, op, m, ph, e) g = (c, m.0)

-- an event that leaves all as it was is no step by which a call goes on
no_more : (lists : List (List Call)) (s : Stage) (run : Run s.state) (seat c : ℕ) (answer : Stepped) (new : State) → s.state.on_seat seat ≡ Some c → Step s.state seat answer new → GoesOn answer → Event lists s seat s → ⊥
no_more lists s run seat c answer new on step g (Spent off none e) = none_some (s.state.on_seat seat) c off on
no_more lists s run seat c answer new on step g (Starts d call off is begins set) = none_some (s.state.on_seat seat) c off on
no_more lists s run seat c answer new on step g (Goes d other on_d step_d kept) =
    let a : steps_left new + 1 ≤ steps_left s.state = takes_work s.state run seat answer new step g in
    let b : steps_left new ≡ steps_left s.state = ap steps_left (one_step s.state seat answer other new s.state step step_d).1 in
    omega (arith, a, b)

-- seats of calls under way are those of threads
abbrev pub AreSeats : List (List Call) → Stage → Type 0
AreSeats lists s = (seat c : ℕ) → s.state.on_seat seat ≡ Some c → seat < length lists

nobody : (lists : List (List Call)) (s : Stage) → Run s.state → length s.begun ≡ length lists → AreSeats lists s → Each (λ seat. Event lists s seat s) (range_with_len 0 (length lists)) → (seat : ℕ) → has_more lists s seat ≡ true → Event lists s seat s → ⊥
nobody lists s run same seats each seat more (Spent off none e) = let z : has_more lists s seat ≡ false = ap₂ (λ (a : Option ℕ) (b : Option Call). is_some a || is_some b) off none in let y : ◌≡◌ {A = Bool} true false = sym more ∙ z in cc
nobody lists s run same seats each seat more (Starts c call off is begins set) = let a : left_over lists s + 1 ≤ left_over lists s = starts_less lists s s seat c call run same is begins set in omega (arith, a)
nobody lists s run same seats each seat more (Goes c answer on step kept) = go ((run_keeps s.state run).seated seat c on)
  where
    by : SomebodyGoesOn s.state → ⊥
    by w =
        let on_w : (d : ℕ) × (s.state.on_seat w.seat ≡ Some d) = on_seat_of s.state w.seat w.answer w.new w.step w.goes_on in
        no_more lists s run w.seat on_w.0 w.answer w.new on_w.1 w.step w.goes_on (each_at (λ x. Event lists s x s) (length lists) w.seat each (seats w.seat on_w.0 on_w.1))

    go : (op : Record) × (s.state.ops c ≡ Some op) × (op.seat ≡ seat) → ⊥
    go (op, is, e) = by (never_stuck s.state run c op is)

pub round_falls : (lists : List (List Call)) (old new : Stage) → Run old.state → length old.begun ≡ length lists → AreSeats lists old → IsUnfinished lists old → Round lists old new → left_over lists new + 1 ≤ left_over lists old
round_falls lists old new run same seats (seat, less, more) events = go (events_fall lists (range_with_len 0 (length lists)) old new run same events)
  where
    go : AllFall lists old (range_with_len 0 (length lists)) new → left_over lists new + 1 ≤ left_over lists old
    go (Fewer h) = h
    go (Still e each) = absurd (nobody lists old run same seats each seat more (each_at (λ x. Event lists old x old) (length lists) seat each less))

pub round_smaller : (lists : List (List Call)) (old new : Stage) → Run old.state → length old.begun ≡ length lists → AreSeats lists old → IsUnfinished lists old → Round lists old new → left_over lists new < left_over lists old
round_smaller lists old new run same seats more round = let h : left_over lists new + 1 ≤ left_over lists old = round_falls lists old new run same seats more round in omega (arith, h)
