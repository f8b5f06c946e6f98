-- What is seen of a node.
use Rattle.std.specs.Prelude.{ℕ, Bool, true, false, List, [], ◌∷◌, nat_le, nat_lt, length, Option, Some, None}
use Rattle.fs_names.specs.Names.{Name}
use Rattle.fs_names.specs.declared.limits.TheConstants.{LIST_LIMIT}

-- a directory with its names in byte order, or a file with its bytes
pub data Shape : Type 0 where
  Dir : List Name → Shape
  File : List ℕ → Shape

-- something is there
abbrev pub is_there : Option Shape → Bool
is_there None = false
is_there (Some shape) = true

-- nothing is there
abbrev pub is_missing : Option Shape → Bool
is_missing None = true
is_missing (Some shape) = false

-- a directory is there
abbrev pub is_dir : Option Shape → Bool
is_dir None = false
is_dir (Some (Dir names)) = true
is_dir (Some (File bytes)) = false

-- a file is there
abbrev pub is_file : Option Shape → Bool
is_file None = false
is_file (Some (Dir names)) = false
is_file (Some (File bytes)) = true

-- the names of a directory; of all else none
abbrev pub names_of : Option Shape → List Name
names_of None = []
names_of (Some (Dir names)) = names
names_of (Some (File bytes)) = []

-- the bytes of a file; of all else none
abbrev pub bytes_of : Option Shape → List ℕ
bytes_of None = []
bytes_of (Some (Dir names)) = []
bytes_of (Some (File bytes)) = bytes

-- a list is not empty
abbrev pub has_any : {A : Type 0} → List A → Bool
has_any [] = false
has_any (x ∷ xs) = true

-- a directory is there, and has a name
abbrev pub has_entries : Option Shape → Bool
has_entries there = has_any (names_of there)

-- as many entries as a directory can have, where it can have so many
abbrev pub is_full : ℕ → Option Shape → Bool
is_full most there = nat_le most (length (names_of there))

-- more entries than a call answers
abbrev pub is_crowded : Option Shape → Bool
is_crowded there = nat_lt LIST_LIMIT (length (names_of there))
