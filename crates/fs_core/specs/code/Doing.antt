-- What a step did, before it is told.
use Rattle.std.specs.Prelude.{ℕ, ◌≡◌}
use Rattle.fs_machine.specs.declared.moves.Move.TheVariants.{Return}
use Rattle.fs_machine.specs.declared.answers.Stepped.TheVariants as tells
use Rattle.fs_machine.specs.States.{Step}
use Rattle.fs_core.specs.declared.done.Done.{Done}
use Rattle.fs_core.specs.declared.done.Done.TheVariants.{Idle, Took, Busy, LetGo, Helped, Committed, CarriedOut, Ends}
use Rattle.fs_core.specs.CoreValues.{CoreValue, state_of}
use Rattle.fs_core.specs.code.Seats.{MovesOn}

-- the step that was done; a call that ends has done nothing yet
abbrev pub Does : CoreValue → ℕ → Done → CoreValue → Type 0
Does old seat Idle new = Step (state_of old) seat tells.Idle (state_of new)
Does old seat (Took n) new = Step (state_of old) seat (tells.Took n) (state_of new)
Does old seat (Busy n) new = (d : ℕ) × Step (state_of old) seat (tells.Busy n d) (state_of new)
Does old seat (LetGo n) new = Step (state_of old) seat (tells.LetGo n) (state_of new)
Does old seat (Helped d) new = Step (state_of old) seat (tells.Helped d) (state_of new)
Does old seat Committed new = Step (state_of old) seat tells.Committed (state_of new)
Does old seat CarriedOut new = Step (state_of old) seat tells.CarriedOut (state_of new)
Does old seat (Ends c) new = (new ≡ old) × MovesOn new seat c Return
