-- That some seat's step lets a call go on, as long as one is under way.
use Rattle.std.proofs.Common.{◌≡◌, ◌∙◌, ℕ, zero, suc, ◌+◌, ◌<◌, List, Option, Some, None, length, slice_get, ap, ap₂, sym, subst, refl}
use Rattle.std.specs.Option.{option_flatten}
use Rattle.std.proofs.lemmas.Option.{slice_get_within}
use Rattle.fs_timeline.specs.Timeline.{begins}
use Rattle.fs_laws.specs.Progress.{GoesOn, SomebodyGoesOn, IsNeverStuck}
use Rattle.fs_laws.specs.StepsLeft.{total, steps_left_of, steps_left}
use Rattle.fs_machine.specs.Laws.{IsDetermined}
use Rattle.fs_machine.specs.Records.{Record}
use Rattle.fs_machine.specs.States.{State, Step}
use Rattle.fs_machine.specs.declared.answers.Stepped.{Stepped}
use Rattle.fs_machine.specs.declared.answers.Stepped.TheVariants.{Idle, Took, Busy, LetGo, Helped, Committed, CarriedOut, Returned}
use Rattle.fs_core.specs.CoreValues.{CoreValue, state_of, number_on, number_of, IsAtRest}
use Rattle.fs_core_seats.specs.declared.seat.Running.{Running}
use Rattle.fs_embed.specs.Calls.{GoesOnAs, StandsStill}

-- an answer that is neither idle nor busy is one by which a call went on
pub went : (answer : Stepped) → (answer ≡ Idle → ⊥) → ((n d : ℕ) → answer ≡ Busy n d → ⊥) → GoesOn answer
went Idle idle busy = absurd (idle refl)
went (Took n) idle busy = tt
went (Busy n d) idle busy = absurd (busy n d refl)
went (LetGo n) idle busy = tt
went (Helped d) idle busy = tt
went Committed idle busy = tt
went CarriedOut idle busy = tt
went (Returned r) idle busy = tt

-- a call that goes on is under way on the seat
pub under_way : (s : State) (seat : ℕ) (answer : Stepped) (new : State) → GoesOn answer → Step s seat answer new → (c : ℕ) × (s.on_seat seat ≡ Some c)
under_way s seat Idle new goes step = absurd goes
under_way s seat (Took n) new goes step = (step.0, step.2.0)
under_way s seat (Busy n d) new goes step = absurd goes
under_way s seat (LetGo n) new goes step = (step.0, step.2.0)
under_way s seat (Helped d) new goes step = (step.0, step.3.0)
under_way s seat Committed new goes step = (step.0, step.3.0)
under_way s seat CarriedOut new goes step = (step.0, step.4.0)
under_way s seat (Returned r) new goes step = (step.0, step.2.0)

-- a seat with a call under way is one of the seats
pub seat_within : (seats : List (Option Running)) (seat c : ℕ) → number_on seats seat ≡ Some c → seat < length seats
seat_within seats seat c is = cases (slice_get seats seat) refl
  where
    cases : (o : Option (Option Running)) → slice_get seats seat ≡ o → seat < length seats
    cases None none = absurd (let e : number_of (option_flatten (slice_get seats seat)) ≡ None = ap (λ v. number_of (option_flatten v)) none in let z : None ≡ Some c = sym e ∙ is in cc)
    cases (Some v) some = slice_get_within seats seat v some

-- where no step of a seat lets a call go on, nobody goes on
is_stuck : (m : CoreValue) → IsDetermined (state_of m) → ((k : ℕ) → k < length m.seats → StandsStill (state_of m) k) → SomebodyGoesOn (state_of m) → ⊥
is_stuck m determined still goes =
    let on = under_way (state_of m) goes.seat goes.answer goes.new goes.goes_on goes.step in
    let here = still goes.seat (seat_within m.seats goes.seat on.0 on.1) in
    let same = determined goes.seat goes.answer here.0 goes.new here.1 goes.step here.2 in
    here.3 (subst (λ (a : Stepped). GoesOn a) same.0 goes.goes_on)

-- where no step of a seat lets a call go on, no call is under way
pub at_rest : (m : CoreValue) → IsNeverStuck (state_of m) → IsDetermined (state_of m)
    → ((seat c : ℕ) → (state_of m).on_seat seat ≡ Some c → (op : Record) × ((state_of m).ops c ≡ Some op) × (op.seat ≡ seat))
    → ((k : ℕ) → k < length m.seats → StandsStill (state_of m) k) → IsAtRest m
at_rest m never determined agree still seat = cases (number_on m.seats seat) refl
  where
    cases : (o : Option ℕ) → number_on m.seats seat ≡ o → number_on m.seats seat ≡ None
    cases None none = none
    cases (Some c) some = let found = agree seat c some in absurd (is_stuck m determined still (never c found.0 found.1))

-- where no step of a seat lets a call go on, no steps are left
pub nothing_left : (m : CoreValue) → IsNeverStuck (state_of m) → IsDetermined (state_of m) → ((k : ℕ) → k < length m.seats → StandsStill (state_of m) k) → steps_left (state_of m) ≡ 0
nothing_left m never determined still = none_in (begins (state_of m).timeline)
  where
    none_of : (c : ℕ) (o : Option Record) → (state_of m).ops c ≡ o → steps_left_of o ≡ 0
    none_of c None is = refl
    none_of c (Some op) is = absurd (is_stuck m determined still (never c op is))

    none_in : (n : ℕ) → total (λ c. steps_left_of ((state_of m).ops c)) n ≡ 0
    none_in zero = none_of 0 ((state_of m).ops 0) refl
    none_in (suc n) = ap₂ (λ a b. a + b) (none_in n) (none_of (suc n) ((state_of m).ops (suc n)) refl)

-- a step that goes on from a state goes on from the same state
pub goes_from : (a b : CoreValue) (seat code about : ℕ) (new : CoreValue) → state_of a ≡ state_of b → GoesOnAs a seat code about new → GoesOnAs b seat code about new
goes_from a b seat code about new same goes = (goes.0, goes.1, goes.2, goes.3, subst (λ (s : State). Step s seat goes.0 (state_of new)) same goes.4)

-- a seat whose step lets no call go on stands still in the same state
pub still_from : (a b : State) (seat number : ℕ) → a ≡ b → seat ≡ number → StandsStill a seat → StandsStill b number
still_from a b seat number same is still = subst (λ (s : State). StandsStill s number) same (subst (λ (k : ℕ). StandsStill a k) is still)
