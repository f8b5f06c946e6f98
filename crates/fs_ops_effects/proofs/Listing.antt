-- How the names of a directory above one are told one after another.
use Rattle.std.specs.Prelude.{ℕ, ◌≡◌, ◌≤◌, ◌+◌, ◌*◌, ◌++◌, List, [], ◌∷◌, Option, Some, option_map, length}
use Rattle.fs_names.specs.Names.{Name}
use Rattle.fs_names.specs.Rooms.{RoomForNames}
use Rattle.fs_names.specs.Shapes.{names_of}
use Rattle.fs_nodes.specs.Graphs.{Graph}
use Rattle.fs_nodes.specs.Stores.{names_above, next_entry, IsNextName}
use Rattle.fs_names.specs.declared.name_list.TheConstants.{NAME_TEXT}

-- the last of some names, or the one that they are above
abbrev pub last_listed : Option Name → List Name → Option Name
last_listed low [] = low
last_listed low (x ∷ told) = last_listed (Some x) told

-- the names told so far, which are no more than the most, and those above the last of them are all above the given one
pub record IsListed (low : Option Name) (most : ℕ) (told names : List Name) : Type 0 where
  pub all : told ++ names_above (last_listed low told) names ≡ names_above low names
  pub within : length told ≤ most

-- the same of a directory, with its next entry, and with room for as many names as may still be told
pub record IsListing (graph : Graph) (dir : ℕ) (low : Option Name) (most : ℕ) (list : RoomForNames) (left : ℕ) (next : Option (Name × ℕ)) : Type 0 where
  pub is_told : IsListed low most list.names (names_of (graph.shape dir))
  pub count : length list.names + left ≡ most
  pub fits : left * NAME_TEXT ≤ list.room
  pub next_is : next ≡ next_entry graph dir (last_listed low list.names)
  pub rest : IsNextName (names_of (graph.shape dir)) (last_listed low list.names) (option_map (λ entry. entry.0) next)
