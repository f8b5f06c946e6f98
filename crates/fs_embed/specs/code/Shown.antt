-- The names that are told behind one, name by name.
use Rattle.std.specs.Prelude.{ℕ, ◌+◌, ◌-◌, List, [], ◌∷◌, length, nat_le, if◌then◌else◌}
use Rattle.std.specs.Ordering.{is_lt}
use Rattle.fs_names.specs.Names.{Name, name_cmp}

-- the names from the first one on that comes behind a name
abbrev pub behind : Name → List Name → List Name
behind after [] = []
behind after (x ∷ xs) = if is_lt (name_cmp after x) then x ∷ xs else behind after xs

-- as many of the first names as there is room for, with a byte behind each
abbrev pub fitting : ℕ → List Name → List Name
fitting room [] = []
fitting room (x ∷ xs) = if nat_le room (length x) then [] else x ∷ fitting (room - (length x + 1)) xs

-- the same, and the first in any case
abbrev pub shown : ℕ → List Name → List Name
shown room [] = []
shown room (x ∷ xs) = x ∷ fitting (room - (length x + 1)) xs
