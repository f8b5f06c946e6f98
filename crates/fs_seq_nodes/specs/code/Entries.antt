-- The entries of a directory, and what is found among them.
use Rattle.std.specs.Prelude.{◌≡◌, ℕ, ◌<◌, ◌≤◌, List, map, length, slice_get, insert, remove, not, Option, Some, None, Result, MatchResult}
use Rattle.std.specs.FinMap.{find, put}
use Rattle.std.specs.FinMap.Entries.{where_key}
use Rattle.fs_names.specs.Names.{Name, name_cmp, same_name}
use Rattle.fs_seq_nodes.specs.declared.nodes.Link.{Link}

-- the name of a link, with its number
abbrev pub pair : Link → Name × ℕ
pair l = (l.name, l.node)

-- the names of links, each with its number
abbrev pub pairs : List Link → List (Name × ℕ)
pairs links = map pair links

-- the number of the link at a place
abbrev pub number_of : Option (Name × ℕ) → Option ℕ
number_of None = None
number_of (Some link) = Some link.1

-- the name of the link at a place
abbrev pub name_of : Option (Name × ℕ) → Option Name
name_of None = None
name_of (Some link) = Some link.0

-- the links without a name
abbrev pub without : Name → List (Name × ℕ) → List (Name × ℕ)
without x links = where_key name_cmp (λ y. not (same_name x y)) links

-- a name stands at this place among links
pub record IsNameAt (links : List (Name × ℕ)) (x : Name) (i : ℕ) : Type 0 where
  pub within : i < length links
  pub named : name_of (slice_get links i) ≡ Some x
  pub found : find name_cmp x links ≡ number_of (slice_get links i)
  pub others : remove links i ≡ without x links

-- a name is not among links, and belongs at this place
pub record BelongsAt (links : List (Name × ℕ)) (x : Name) (i : ℕ) : Type 0 where
  pub within : i ≤ length links
  pub absent : find name_cmp x links ≡ None
  pub placed : (n : ℕ) → put name_cmp x n links ≡ insert links i (x, n)

-- where a name stands among links, or where it belongs
abbrev pub Searches : List (Name × ℕ) → Name → Result ℕ ℕ → Type 0
Searches links x r = MatchResult r (IsNameAt links x) (BelongsAt links x)
