-- What calls from their begins to their returns do to a core.
use Rattle.std.specs.Prelude.{◌≡◌, ℕ, ◌≤◌, Ok, Err, length}
use Rattle.fs_calls.specs.declared.call.Call.{Call}
use Rattle.fs_calls.specs.declared.reply.Reply.{Reply}
use Rattle.fs_laws.specs.OneCall.{IsNoReturn, StepsTo}
use Rattle.fs_machine.specs.States.{State, Begins, Step}
use Rattle.fs_machine.specs.declared.answers.Stepped.{Stepped}
use Rattle.fs_machine.specs.declared.answers.Stepped.TheVariants.{Busy}
use Rattle.fs_core.specs.CoreValues.{CoreValue, state_of}
use Rattle.fs_core.specs.declared.calling.NotDone.{NotDone}
use Rattle.fs_core.specs.declared.calling.NotDone.TheVariants as not_done

-- steps of a seat, none or more, of which none returns
pub data Steps (seat : ℕ) : State → State → Type 0 where
  Still : {state : State} → Steps seat state state
  Then : {old middle new : State} (answer : Stepped) → IsNoReturn answer → Steps seat old middle → Step middle seat answer new → Steps seat old new

-- the next step of a seat finds a node held by this call, and changes nothing
abbrev pub IsWaiting : State → ℕ → ℕ → Type 0
IsWaiting state seat holder = (node : ℕ) × Step state seat (Busy node holder) state

-- a call begins on a seat under a number, and steps of the seat follow, up to the one that returns with this reply
abbrev pub Runs : State → ℕ → Call → ℕ → Reply → State → Type 0
Runs old seat call number reply new = (first : State) × Begins old seat call (Ok number) first × StepsTo seat reply new first

-- a call begins on a seat under a number, and steps of the seat follow, up to one that finds a node held by this call
abbrev pub Waits : State → ℕ → Call → ℕ → ℕ → State → Type 0
Waits old seat call number holder new = (first : State) × Begins old seat call (Ok number) first × Steps seat first new × IsWaiting new seat holder

-- why a call did not return: there is no such seat, and nothing changed; it did not begin; or it is under way and waits
abbrev pub IsNotDone : CoreValue → ℕ → Call → NotDone → CoreValue → Type 0
IsNotDone old seat call not_done.NoSeat new = (length old.seats ≤ seat) × (new ≡ old)
IsNotDone old seat call (not_done.Refused refusal) new = Begins (state_of old) seat call (Err refusal) (state_of new)
IsNotDone old seat call (not_done.Waits number holder) new = Waits (state_of old) seat call number holder (state_of new)
