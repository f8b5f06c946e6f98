-- Which call holds which node.
use Rattle.std.specs.Prelude.{ℕ, List, length, Option, slice_get}
use Rattle.std.specs.Option.{option_flatten}

-- for each node's number with room, its holder
abbrev pub Holding : Type 0
Holding = List (Option ℕ)

-- the call that holds a node
abbrev pub holder : Holding → ℕ → Option ℕ
holder holding n = option_flatten (slice_get holding n)

-- the numbers below it can be taken
abbrev pub room : Holding → ℕ
room holding = length holding
