-- Parts with a byte after each, as the code puts them together.
use Rattle.std.specs.Prelude.{ℕ, List, [], ◌∷◌, ◌++◌}
use Rattle.std.specs.List.{flat_map}

-- parts, each with this byte after it
abbrev pub closed : ℕ → List (List ℕ) → List ℕ
closed byte parts = flat_map (λ part. part ++ byte ∷ []) parts
