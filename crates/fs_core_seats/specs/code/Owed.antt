-- Which calls walk, and how many entries the calls under way still append.
use Rattle.std.specs.Prelude.{ℕ, ◌+◌, Bool, ◌&&◌, is_none, if◌then◌else◌, List, [], ◌∷◌, Option, Some, None}
use Rattle.fs_core_seats.specs.declared.seat.Running.{Running}

-- a call without a place in the timeline
abbrev pub is_walking : Running → Bool
is_walking running = is_none running.place && is_none running.op.reply

-- one where the call of a seat is walking
abbrev pub walking_at : Option Running → ℕ
walking_at None = 0
walking_at (Some running) = if is_walking running then 1 else 0

-- how many calls are walking
abbrev pub walking : List (Option Running) → ℕ
walking [] = 0
walking (slot ∷ seats) = walking_at slot + walking seats

-- how many entries a call under way still appends: a commit where it is walking, and a return
abbrev pub owed_at : Option Running → ℕ
owed_at None = 0
owed_at (Some running) = if is_walking running then 2 else 1

-- the same of all seats
abbrev pub owed : List (Option Running) → ℕ
owed [] = 0
owed (slot ∷ seats) = owed_at slot + owed seats
