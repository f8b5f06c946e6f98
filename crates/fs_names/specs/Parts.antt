-- Parts of keys.
use Rattle.std.specs.Prelude.{if◌then◌else◌, [], ◌∷◌, Option, Some, None}
use Rattle.fs_names.specs.Names.{same_name}
use Rattle.fs_names.specs.Keys.{Key, after_prefix}

-- a key that is not the root
abbrev pub HasNames : Key → Type 0
HasNames [] = ⊥
HasNames (x ∷ key) = Unit {0}

-- the longest common prefix
abbrev pub common : Key → Key → Key
common [] q = []
common (x ∷ p) [] = []
common (x ∷ p) (y ∷ q) = if same_name x y then x ∷ common p q else []

-- what follows a prefix; nothing where it is no prefix
abbrev pub left_by : Option Key → Key
left_by None = []
left_by (Some rest) = rest

-- the names of a key behind those that are walked
abbrev pub left : Key → Key → Key
left walked whole = left_by (after_prefix walked whole)
