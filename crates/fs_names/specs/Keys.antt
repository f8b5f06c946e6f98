-- What keys are: lists of names, of which a path is one that is not too long.
use Rattle.std.specs.Prelude.{ℕ, Bool, true, false, List, [], ◌∷◌, ◌+◌, ◌++◌, ◌≤◌, if◌then◌else◌, length, Option, Some, None}
use Rattle.std.specs.List.{AllByRecursion}
use Rattle.std.specs.Ordering.{eq_by_cmp}
use Rattle.std.specs.declared.cmp.Ordering.{Ordering}
use Rattle.std.specs.Cmp.Lexicographic.{slice_cmp}
use Rattle.fs_names.specs.Names.{Name, IsName, name_cmp, same_name}
use Rattle.fs_names.specs.declared.limits.TheConstants.{PATH_LIMIT}

-- the names from the root down
abbrev pub Key : Type 0
Key = List Name

-- no more names than the limit, each of which may be one
pub record IsPath (key : Key) : Type 0 where
  pub short : length key ≤ PATH_LIMIT
  pub names : AllByRecursion IsName key

-- keys name by name, so that a directory comes before what is below it
abbrev pub key_cmp : Key → Key → Ordering
key_cmp = slice_cmp name_cmp

-- whether two keys are the same
abbrev pub same_key : Key → Key → Bool
same_key p q = eq_by_cmp key_cmp p q

-- how many leading names are equal
abbrev pub common_len : Key → Key → ℕ
common_len [] q = 0
common_len (x ∷ p) [] = 0
common_len (x ∷ p) (y ∷ q) = if same_name x y then common_len p q + 1 else 0

-- what follows a prefix of a key; None where it is no prefix
abbrev pub after_prefix : Key → Key → Option Key
after_prefix [] k = Some k
after_prefix (x ∷ p) [] = None
after_prefix (x ∷ p) (y ∷ k) = if same_name x y then after_prefix p k else None

-- whether a key is that of the root
abbrev pub is_root : Key → Bool
is_root [] = true
is_root (x ∷ k) = false

-- the parent of a key; that of the root is the root
abbrev pub parent_of : Key → Key
parent_of [] = []
parent_of (x ∷ []) = []
parent_of (x ∷ y ∷ k) = x ∷ parent_of (y ∷ k)

-- the last name of a key; that of the root is no name
abbrev pub last_of : Key → Name
last_of [] = []
last_of (x ∷ []) = x
last_of (x ∷ y ∷ k) = last_of (y ∷ k)

-- whether the prefix is there and is the whole key
abbrev pub is_end : Option Key → Bool
is_end None = false
is_end (Some []) = true
is_end (Some (x ∷ rest)) = false

-- whether a name or more follows a prefix
abbrev pub has_more : Option Key → Bool
has_more None = false
has_more (Some []) = false
has_more (Some (x ∷ k)) = true

-- whether the first key is a prefix of the second, and shorter
abbrev pub is_proper_prefix : Key → Key → Bool
is_proper_prefix p q = has_more (after_prefix p q)

-- each name after a slash
abbrev pub names_text : Key → List ℕ
names_text [] = []
names_text (x ∷ p) = 47 ∷ (x ++ names_text p)

-- how a path is written: a slash alone for the root
abbrev pub path_text : Key → List ℕ
path_text [] = 47 ∷ []
path_text (x ∷ p) = names_text (x ∷ p)
