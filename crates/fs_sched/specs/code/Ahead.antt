-- The seats that are drawn next, the first of them ahead of its event.
use Rattle.std.specs.Prelude.{ℕ, zero, suc, List, [], ◌∷◌}
use Rattle.fs_sched.specs.Schedules.{seats_from}
use Rattle.fs_sched.specs.declared.seats.SeatsAhead.{SeatsAhead}

-- the seats of the next k events
abbrev pub upcoming : ℕ → SeatsAhead → List ℕ
upcoming zero seats = []
upcoming (suc k) seats = seats.ahead ∷ seats_from seats.threads k seats.draws
