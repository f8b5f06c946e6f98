-- What is kept ready for changes.
use Rattle.std.specs.Prelude.{ℕ, ◌≡◌, ◌≤◌, [], vec_capacity}
use Rattle.std.specs.Global.{Vec}

-- an empty vector with room for so many items
abbrev pub IsRoom : {X : Type 0} → ℕ → Vec X → Type 0
IsRoom size v = (v.items ≡ []) × (size ≤ vec_capacity v)
