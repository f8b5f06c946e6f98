-- The events of a run, each with its answer.
use Rattle.std.specs.Prelude.{ℕ, ◌≡◌, List, [], ◌∷◌, ◌++◌}
use Rattle.fs_names.specs.declared.limits.Limits.TheVariants.{V1}
use Rattle.fs_calls.specs.Starts.{root_start}
use Rattle.fs_calls.specs.declared.call.Call.{Call}
use Rattle.fs_machine.specs.States.{State, Begun, Run, Starting, Beginning, Stepping}
use Rattle.fs_machine.specs.declared.answers.Stepped.{Stepped}

-- a call is to begin on a seat, or a seat is stepped; with the answer
pub data Event : Type 0 where
  Begins : ℕ → Call → Begun → Event
  Steps : ℕ → Stepped → Event

-- all events of a run, in order
abbrev pub events_of : (s : State) → Run s → List Event
events_of s (Starting limit tree graph h) = []
events_of s (Beginning {old} seat call answer new run b) = events_of old run ++ Begins seat call answer ∷ []
events_of s (Stepping {old} seat answer new run st) = events_of old run ++ Steps seat answer ∷ []

-- a run with these events and answers, from the root alone by the first limits, with as many numbers as there may be
pub record Ran (es : List Event) : Type 0 where
  pub state : State
  pub run : Run state
  pub events : events_of state run ≡ es
  pub limit : state.limit ≡ 1048576
  pub start : state.start ≡ root_start V1
