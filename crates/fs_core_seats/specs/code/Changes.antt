-- Changes of what is on one seat.
use Rattle.std.specs.Prelude.{ℕ, ◌≡◌, Option, Some, None}
use Rattle.fs_machine.specs.OpValues.{OpValue}
use Rattle.fs_core_seats.specs.declared.seat.Running.{Running}

-- what may happen to the call on a seat: its value is another one, by the same limits
abbrev pub Goes : (OpValue → OpValue → Type 0) → Option Running → Option Running → Type 0
Goes R None new = new ≡ None
Goes R (Some old) new = (work : OpValue) × R old.op work × (work.limits ≡ old.op.limits) × (new ≡ Some (record old { op = work }))

-- it gets a place
abbrev pub placed : Option Running → ℕ → Option Running
placed None place = None
placed (Some running) place = Some (record running { place = Some place })
