-- Where the entry of a row is added.
use Rattle.std.specs.Prelude.{◌≡◌, ℕ, true, [], ◌∷◌, ◌++◌, Some}
use Rattle.fs_names.specs.Names.{Name}
use Rattle.fs_names.specs.Keys.{Key}
use Rattle.fs_names.specs.declared.limits.Limits.{Limits}
use Rattle.fs_seq.specs.declared.rows.Row.{Row}
use Rattle.fs_seq.specs.Rows.{key_of, fits}
use Rattle.fs_seq_nodes.specs.code.Slots.{Slots, Dir, place_at, links_at, walk, tree_of}
use Rattle.fs_seq_nodes.specs.code.Nodes.{BelongsAt}

-- a row fits, and this is its directory, the place among the entries there and its name
pub record IsPlaceOf (limits : Limits) (g : Slots) (row : Row) (dir i : ℕ) (x : Name) : Type 0 where
  pub fits : fits limits (tree_of g) row ≡ true
  pub above : Key
  pub split : key_of row ≡ above ++ x ∷ []
  pub parent : walk g above ≡ Some dir
  pub directory : place_at g dir ≡ Some (Dir (links_at g dir))
  pub belongs : BelongsAt (links_at g dir) x i
