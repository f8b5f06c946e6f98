-- Runs of events, and what is made ready for a call that begins.
use Rattle.std.specs.Prelude.{ℕ, ◌≡◌, ◌<◌, List, [], ◌∷◌, Option, Some, None, length, take, slice_get, Ok, Err}
use Rattle.fs_locks.specs.Holding.{Holding, room}
use Rattle.fs_machine.specs.States.{State, Begins, Step}
use Rattle.fs_machine.specs.declared.answers.Stepped.{Stepped}
use Rattle.fs_core.specs.declared.outcome.Event.{Event}
use Rattle.fs_core.specs.declared.outcome.Event.TheVariants as events
use Rattle.fs_machine.specs.declared.answers.Refusal.{Refusal}

-- the seat of an event is there
abbrev pub IsSeated : ℕ → Event → Type 0
IsSeated seats (events.Begin seat call) = seat < seats
IsSeated seats (events.Step seat) = seat < seats

-- an event that is done: a begin that succeeds, or a step
abbrev pub Happens : State → Event → State → Type 0
Happens old (events.Begin seat call) new = (c : ℕ) × Begins old seat call (Ok c) new
Happens old (events.Step seat) new = (answer : Stepped) × Step old seat answer new

-- events in order
abbrev pub AllHappen : State → List Event → State → Type 0
AllHappen old [] new = new ≡ old
AllHappen old (event ∷ events) new = (middle : State) × Happens old event middle × AllHappen middle events new

-- a begin that is refused
abbrev pub IsRefused : State → Event → Refusal → State → Type 0
IsRefused old (events.Begin seat call) refusal new = Begins old seat call (Err refusal) new
IsRefused old (events.Step seat) refusal new = ⊥

-- a begin that is refused at a place of a list
abbrev pub IsRefusedAt : State → Option Event → Refusal → State → Type 0
IsRefusedAt old None refusal new = ⊥
IsRefusedAt old (Some event) refusal new = IsRefused old event refusal new

-- a run of events: all were done, or those before the first begin that was refused
abbrev pub IsRun : State → List Event → ℕ → Option Refusal → State → Type 0
IsRun old events done None new = (done ≡ length events) × AllHappen old events new
IsRun old events done (Some refusal) new = (middle : State) × AllHappen old (take done events) middle × IsRefusedAt middle (slice_get events done) refusal new

-- there is room for the holder of a number
abbrev pub HasRoom : Option ℕ → Holding → Type 0
HasRoom number holding = (n : ℕ) → number ≡ Some n → n < room holding
