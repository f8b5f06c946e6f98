-- Lists of names that are being made.
use Rattle.std.specs.Prelude.{ℕ, List, [], ◌≡◌, ◌≤◌, ◌*◌}
use Rattle.fs_names.specs.Names.{Name}
use Rattle.fs_names.specs.declared.name_list.TheConstants.{NAME_TEXT}

-- the names so far, and for how many bytes of text there is room
pub record RoomForNames : Type 0 where
  pub names : List Name
  pub room : ℕ

-- no names yet, and room for this many of any length
abbrev pub IsRoomFor : ℕ → RoomForNames → Type 0
IsRoomFor n list = (list.names ≡ []) × (n * NAME_TEXT ≤ list.room)
