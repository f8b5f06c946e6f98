-- The call that a walking call helps before it may finish.
use Rattle.std.specs.Prelude.{ℕ, ◌≡◌, Some, None, slice_get}
use Rattle.fs_machine.specs.States.{IsChosen}
use Rattle.fs_machine.specs.declared.moves.Moved.{Moved}
use Rattle.fs_core_seats.specs.declared.seat.Running.{Running}
use Rattle.fs_core.specs.CoreValues.{CoreValue, state_of}

-- the walking call on a seat is the one to help
pub record Helps (machine : CoreValue) (moved : Moved) (seat : ℕ) : Type 0 where
  pub running : Running
  pub on : slice_get machine.seats seat ≡ Some (Some running)
  pub unplaced : running.place ≡ None
  pub unanswered : running.op.reply ≡ None
  pub chosen : IsChosen (state_of machine) moved running.call
