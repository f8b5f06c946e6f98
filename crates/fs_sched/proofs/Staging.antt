-- Events one after the other, as loops do them.
use Rattle.std.proofs.Common.{◌≡◌, ℕ, zero, suc, ◌+◌, ◌-◌, ◌<◌, ◌≤◌, ltb, ◌||◌, Bool, true, false, List, [], ◌∷◌, ◌++◌, length, get_or, replicate, slice_get, is_some, Option, Some, None, refl, sym, ap, ap₂, ◌∙◌, subst, arith}
use Rattle.std.specs.List.{range_with_len}
use Rattle.std.proofs.lemmas.Option.{slice_get_past, slice_get-get_or}
use Rattle.std.proofs.lemmas.Bool.{ltb-true, ltb-false}
use Rattle.std.specs.Option.{option_flatten}
use Rattle.fs_calls.specs.declared.call.Call.{Call}
use Rattle.fs_core_seats.specs.declared.seat.Running.{Running}
use Rattle.fs_core.specs.CoreValues.{number_of, number_on}
use Rattle.fs_sched.specs.Runs.{Stage, next_call, Event, Spent, Events, IsOver, IsUnfinished, ToEnd, More, Round}
use Rattle.fs_sched.specs.code.Stages.{stage_of, IsSeated}
use Rattle.fs_sched.specs.declared.play.Play.{Play}
use Rattle.fs_sched.proofs.Rounds.{AreSeats}

-- what is done and what is left is all
abbrev pub Leads : List (List Call) → Stage → List ℕ → Stage → List ℕ → Type 0
Leads lists old all now rest = (last : Stage) → Events lists now rest last → Events lists old all last

pub lead_more : (lists : List (List Call)) (old now new : Stage) (all rest more : List ℕ) (seat : ℕ) → rest ≡ seat ∷ more → Leads lists old all now rest → Event lists now seat new → Leads lists old all new more
lead_more lists old now new all rest more seat e lead event last events = lead last (subst (λ (r : List ℕ). Events lists now r last) (sym e) (new, event, events))

events_append : (lists : List (List Call)) (old now new : Stage) (xs ys : List ℕ) → Events lists old xs now → Events lists now ys new → Events lists old (xs ++ ys) new
events_append lists old now new [] ys a b = subst (λ (s : Stage). Events lists s ys new) a b
events_append lists old now new (x ∷ xs) ys (middle, event, rest) b = (middle, event, events_append lists middle now new xs ys rest b)

pub lead_many : (lists : List (List Call)) (old now new : Stage) (all rest more seats : List ℕ) → rest ≡ seats ++ more → Leads lists old all now rest → Events lists now seats new → Leads lists old all new more
lead_many lists old now new all rest more seats e lead events last after = lead last (subst (λ (r : List ℕ). Events lists now r last) (sym e) (events_append lists now new last seats more events after))

pub lead_end : (lists : List (List Call)) (old now : Stage) (all rest : List ℕ) → rest ≡ [] → Leads lists old all now rest → Events lists old all now
lead_end lists old now all rest e lead = lead now (subst (λ (r : List ℕ). Events lists now r now) (sym e) refl)

pub one_less : (n i : ℕ) → i < n → n - i ≡ suc (n - (i + 1))
one_less n i h = omega (arith, h)

pub times_more : (times i seat : ℕ) → i < times → replicate (times - i) seat ≡ seat ∷ replicate (times - (i + 1)) seat
times_more times i seat h = ap (λ (n : ℕ). replicate n seat) (one_less times i h)

pub times_end : (times i seat : ℕ) → times ≤ i → replicate (times - i) seat ≡ []
times_end times i seat h = let e : times - i ≡ 0 = omega (arith, h) in ap (λ (n : ℕ). replicate n seat) e

pub range_more : (n i : ℕ) → i < n → range_with_len i (n - i) ≡ i ∷ range_with_len (i + 1) (n - (i + 1))
range_more n i h = ap (range_with_len i) (one_less n i h)

pub range_end : (n i : ℕ) → n ≤ i → range_with_len i (n - i) ≡ []
range_end n i h = let e : n - i ≡ 0 = omega (arith, h) in ap (range_with_len i) e

-- ---- threads with nothing to do

pub nothing_more : (a : Option ℕ) (b : Option Call) → (is_some a || is_some b) ≡ false → (a ≡ None) × (b ≡ None)
nothing_more None None h = (refl, refl)
nothing_more None (Some call) h = absurd (let z : ◌≡◌ {A = Bool} true false = h in cc)
nothing_more (Some c) b h = absurd (let z : ◌≡◌ {A = Bool} true false = h in cc)

pub seat_past : (seats : List (Option Running)) (seat : ℕ) → length seats ≤ seat → number_on seats seat ≡ None
seat_past seats seat h = ap (λ (o : Option (Option Running)). number_of (option_flatten o)) (slice_get_past seats seat h)

get_past : (lists : List (List Call)) (seat : ℕ) → length lists ≤ seat → get_or lists seat [] ≡ []
get_past [] seat h = refl
get_past (calls ∷ lists) zero h = absurd (let z : suc (length lists) ≤ 0 = h in omega (arith, z))
get_past (calls ∷ lists) (suc seat) h = get_past lists seat (let z : suc (length lists) ≤ suc seat = h in omega (arith, z))

pub call_past : (lists : List (List Call)) (s : Stage) (seat : ℕ) → length lists ≤ seat → next_call lists s seat ≡ None
call_past lists s seat h = ap (λ (calls : List Call). slice_get calls (get_or s.begun seat 0)) (get_past lists seat h)

-- a thread that is not there has nothing to do
pub spent_past : (lists : List (List Call)) (play : Play) (seat : ℕ) → IsSeated play (length lists) → length lists ≤ seat → Event lists (stage_of play) seat (stage_of play)
spent_past lists play seat seated h = Spent (seat_past play.core.seats seat (let e : length play.core.seats ≡ length lists = seated.seats in omega (arith, e, h))) (call_past lists (stage_of play) seat h) refl

-- calls of the seats that are there
pub seats_there : (lists : List (List Call)) (play : Play) → IsSeated play (length lists) → AreSeats lists (stage_of play)
seats_there lists play seated seat c on = go (ltb seat (length lists)) refl
  where
    go : (b : Bool) → ltb seat (length lists) ≡ b → seat < length lists
    go true t = ltb-true _ _ t
    go false f =
        let e : length play.core.seats ≡ length lists = seated.seats in
        let past : number_on play.core.seats seat ≡ None = seat_past play.core.seats seat (let g : length lists ≤ seat = omega (arith, ltb-false _ _ f) in omega (arith, e, g)) in
        let z : ◌≡◌ {A = Option ℕ} None (Some c) = sym past ∙ on in
        absurd (cc)

-- where no thread has anything to do, every event is spent
pub over_stays : (lists : List (List Call)) (play : Play) → IsSeated play (length lists) → IsOver lists (stage_of play) → (seats : List ℕ) → Events lists (stage_of play) seats (stage_of play)
over_stays lists play seated over [] = refl
over_stays lists play seated over (seat ∷ seats) = (stage_of play, go (ltb seat (length lists)) refl, over_stays lists play seated over seats)
  where
    go : (b : Bool) → ltb seat (length lists) ≡ b → Event lists (stage_of play) seat (stage_of play)
    go true t = let n : ((stage_of play).state.on_seat seat ≡ None) × (next_call lists (stage_of play) seat ≡ None) = nothing_more _ _ (over seat (ltb-true _ _ t)) in Spent n.0 n.1 refl
    go false f = spent_past lists play seat seated (omega (arith, ltb-false _ _ f))

-- ---- the next call of a thread

pub call_there : (lists : List (List Call)) (calls : List Call) (s : Stage) (seat at : ℕ) (call : Call) → calls ≡ get_or lists seat [] → at ≡ get_or s.begun seat 0 → at < length calls → call ≡ get_or calls at call → next_call lists s seat ≡ Some call
call_there lists calls s seat at call a b less is = ap₂ (λ (cs : List Call) (i : ℕ). slice_get cs i) (sym a) (sym b) ∙ slice_get-get_or calls at call less ∙ ap Some (sym is)

pub call_not_there : (lists : List (List Call)) (calls : List Call) (s : Stage) (seat at : ℕ) → calls ≡ get_or lists seat [] → at ≡ get_or s.begun seat 0 → length calls ≤ at → next_call lists s seat ≡ None
call_not_there lists calls s seat at a b more = ap₂ (λ (cs : List Call) (i : ℕ). slice_get cs i) (sym a) (sym b) ∙ slice_get_past calls at more

pub default_same : (xs : List ℕ) (i d e : ℕ) → i < length xs → get_or xs i d ≡ get_or xs i e
default_same [] i d e h = absurd (let z : i < 0 = h in omega (arith, z))
default_same (x ∷ xs) zero d e h = refl
default_same (x ∷ xs) (suc i) d e h = default_same xs i d e (let z : suc i < suc (length xs) = h in omega (arith, z))

-- rounds to the end
abbrev pub LeadsToEnd : List (List Call) → Stage → Stage → Type 0
LeadsToEnd lists old now = (last : Stage) → ToEnd lists now last → ToEnd lists old last

pub round_more : (lists : List (List Call)) (old now new : Stage) → LeadsToEnd lists old now → IsUnfinished lists now → Round lists now new → LeadsToEnd lists old new
round_more lists old now new lead more round last after = lead last (More more round after)
