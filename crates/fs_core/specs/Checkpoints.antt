-- What a checkpoint asks, and why there is none.
use Rattle.std.specs.Prelude.{ℕ, ◌≡◌, ◌≤◌, Option, Some}
use Rattle.fs_core.specs.CoreValues.{CoreValue, IsAtRest}
use Rattle.fs_core_seats.specs.Seats.{number_on}
use Rattle.fs_core.specs.declared.checkpoint.NoCheckpoint.{NoCheckpoint}
use Rattle.fs_core.specs.declared.checkpoint.NoCheckpoint.TheVariants.{UnderWay, OutOfMemory}

-- of the calls on seats one has this number, and none a lesser one
pub record IsLeastUnderWay (on_seat : ℕ → Option ℕ) (c : ℕ) : Type 0 where
  pub seat : ℕ
  pub under_way : on_seat seat ≡ Some c
  pub least : (other d : ℕ) → on_seat other ≡ Some d → c ≤ d

-- a call is under way, the one of the least number; or none is, and memory is refused
abbrev pub IsWhyNot : CoreValue → NoCheckpoint → Type 0
IsWhyNot machine (UnderWay c) = IsLeastUnderWay (number_on machine.seats) c
IsWhyNot machine OutOfMemory = IsAtRest machine
