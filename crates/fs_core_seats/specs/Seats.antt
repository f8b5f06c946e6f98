-- The calls under way on the seats, by their seats and by their numbers.
use Rattle.std.specs.Prelude.{ℕ, ◌+◌, eqb, if◌then◌else◌, List, [], ◌∷◌, Option, Some, None, slice_get}
use Rattle.std.specs.Option.{option_flatten}
use Rattle.fs_machine.specs.Records.{Record, Records}
use Rattle.fs_machine.specs.OpValues.{record_of}
use Rattle.fs_core_seats.specs.declared.seat.Running.{Running}

-- the call under way on a seat
abbrev pub running_on : List (Option Running) → ℕ → Option Running
running_on seats seat = option_flatten (slice_get seats seat)

-- its number
abbrev pub number_of : Option Running → Option ℕ
number_of None = None
number_of (Some running) = Some running.call

-- the number of the call under way on a seat
abbrev pub number_on : List (Option Running) → ℕ → Option ℕ
number_on seats seat = number_of (running_on seats seat)

-- the record of the call of a number, among those on the seats from one on
abbrev pub record_from : ℕ → List (Option Running) → ℕ → Option Record
record_from seat [] c = None
record_from seat (None ∷ seats) c = record_from (seat + 1) seats c
record_from seat (Some running ∷ seats) c = if eqb c running.call then Some (record_of seat running.place running.op) else record_from (seat + 1) seats c

-- the calls under way by their numbers
abbrev pub records : List (Option Running) → Records
records seats c = record_from 0 seats c
