-- What a call takes when it begins, so that its finish takes no memory.
use Rattle.std.specs.Prelude.{ℕ, Bool, true, false, ◌≡◌, ◌≤◌, ◌<◌, ◌+◌, ◌^◌, length, min, Option, Some, None}
use Rattle.fs_blocks.specs.Spares.{SpareValue, FitsWrite, FitsSize}
use Rattle.fs_names.specs.Names as names
use Rattle.fs_names.specs.Names.{shared_bytes}
use Rattle.fs_names.specs.Rooms.{IsRoomFor}
use Rattle.fs_names.specs.declared.limits.TheConstants.{LIST_LIMIT}
use Rattle.fs_calls.specs.Forms.{NodeCall, Stat, Readdir, ListAfter, Read, Write, Truncate, Form, AtNode, AtEntry, AtPair}
use Rattle.fs_ops_effects.specs.Paths.{new_name}
use Rattle.fs_ops_effects.specs.declared.room.Room.{Room}
use Rattle.fs_ops_effects.specs.declared.room.Room.TheVariants.{Nothing, Content, Blocks, Copies, Lists, Name}

-- a buffer for a file's new bytes, where they are not more than the most
abbrev pub FitsContent : ℕ → ℕ → Room → Type 0
FitsContent most n (Content room) = n ≤ most → n ≤ room
FitsContent most n Nothing = ⊥
FitsContent most n (Blocks spare) = ⊥
FitsContent most n (Copies a b) = ⊥
FitsContent most n (Lists a b) = ⊥
FitsContent most n (Name owner) = ⊥

-- what a change of a file in blocks may use, where its bytes are not more than the most
abbrev pub FitsBlocks : ℕ → ℕ → (SpareValue → Type 0) → Room → Type 0
FitsBlocks most n Fits (Blocks spare) = n ≤ most → (n < 2 ^ 63) × Fits spare.value
FitsBlocks most n Fits Nothing = ⊥
FitsBlocks most n Fits (Content room) = ⊥
FitsBlocks most n Fits (Copies a b) = ⊥
FitsBlocks most n Fits (Lists a b) = ⊥
FitsBlocks most n Fits (Name owner) = ⊥

-- what a change of a file needs, by whether files are in blocks
abbrev pub FitsChange : Bool → ℕ → ℕ → (SpareValue → Type 0) → Room → Type 0
FitsChange true most n Fits room = FitsBlocks most n Fits room
FitsChange false most n Fits room = FitsContent most n room

-- two buffers for this many bytes
abbrev pub FitsCopies : ℕ → Room → Type 0
FitsCopies n (Copies a b) = (n ≤ a) × (n ≤ b)
FitsCopies n Nothing = ⊥
FitsCopies n (Content room) = ⊥
FitsCopies n (Blocks spare) = ⊥
FitsCopies n (Lists a b) = ⊥
FitsCopies n (Name owner) = ⊥

-- two lists for this many names
abbrev pub FitsLists : ℕ → Room → Type 0
FitsLists n (Lists a b) = IsRoomFor n a × IsRoomFor n b
FitsLists n Nothing = ⊥
FitsLists n (Content room) = ⊥
FitsLists n (Blocks spare) = ⊥
FitsLists n (Copies a b) = ⊥
FitsLists n (Name owner) = ⊥

-- what a copy of a name needs: one more owner of the bytes that it shares
abbrev pub FitsName : names.Name → Room → Type 0
FitsName x (Name owner) = owner ≡ shared_bytes x
FitsName x Nothing = ⊥
FitsName x (Content room) = ⊥
FitsName x (Blocks spare) = ⊥
FitsName x (Copies a b) = ⊥
FitsName x (Lists a b) = ⊥

-- the same of a call that may give a name to an entry
abbrev pub FitsNew : Option names.Name → Room → Type 0
FitsNew None room = Unit {0}
FitsNew (Some x) room = FitsName x room

-- what a call on a node needs, by whether files are in blocks
abbrev pub SufficesFor : Bool → NodeCall → Room → Type 0
SufficesFor in_blocks Stat room = Unit {0}
SufficesFor in_blocks Readdir room = FitsLists LIST_LIMIT room
SufficesFor in_blocks (ListAfter after count) room = FitsLists (min count LIST_LIMIT) room
SufficesFor in_blocks (Read most off count) room = FitsCopies (min count most) room
SufficesFor in_blocks (Write most off bytes) room = FitsChange in_blocks most (off + length bytes) (FitsWrite off (length bytes)) room
SufficesFor in_blocks (Truncate most size) room = FitsChange in_blocks most size (FitsSize size) room

-- what a call needs, by the same
abbrev pub Suffices : Bool → Form → Room → Type 0
Suffices in_blocks (AtNode c p) room = SufficesFor in_blocks c room
Suffices in_blocks (AtEntry c p) room = FitsNew (new_name (AtEntry c p)) room
Suffices in_blocks (AtPair c p q) room = FitsNew (new_name (AtPair c p q)) room
