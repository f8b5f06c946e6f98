-- The names that a path shares with its copies.
use Rattle.std.specs.Prelude.{List, [], Option, Some, None}
use Rattle.std.specs.Global.{Vec}

-- the names in a vector that is shared; the root shares none
abbrev pub shared_names : {X : Type 0} → Option (Vec X) → List X
shared_names None = []
shared_names (Some names) = names.items
