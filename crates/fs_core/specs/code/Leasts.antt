-- The least number of the calls under way, as a search over the seats has it.
use Rattle.std.specs.Prelude.{ℕ, ◌≡◌, ◌<◌, ◌≤◌, nat_lt, if◌then◌else◌, List, Option, Some, None, slice_index}
use Rattle.fs_core_seats.specs.declared.seat.Running.{Running}
use Rattle.fs_core.specs.CoreValues.{CoreValue, IsAtRest}
use Rattle.fs_core_seats.specs.Seats.{number_on}
use Rattle.fs_core.specs.Checkpoints.{IsLeastUnderWay}

-- the lesser of two numbers, or the one that is there
abbrev pub lesser : Option ℕ → Option ℕ → Option ℕ
lesser (Some c) (Some d) = if nat_lt d c then Some d else Some c
lesser (Some c) None = Some c
lesser None other = other

-- of the calls on the first so many seats of a list, the least number; none where there is no call
abbrev pub IsLeastOf : List (Option Running) → List ℕ → ℕ → Option ℕ → Type 0
IsLeastOf seats listed i None = (k : ℕ) → k < i → number_on seats (slice_index listed k) ≡ None
IsLeastOf seats listed i (Some c) = ((j : ℕ) × (number_on seats j ≡ Some c)) × ((k d : ℕ) → k < i → number_on seats (slice_index listed k) ≡ Some d → c ≤ d)

-- of all calls under way, the least number; none where no call is under way
abbrev pub IsLeast : CoreValue → Option ℕ → Type 0
IsLeast machine None = IsAtRest machine
IsLeast machine (Some c) = IsLeastUnderWay (number_on machine.seats) c
