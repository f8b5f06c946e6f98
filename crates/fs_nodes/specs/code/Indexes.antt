-- What the slots beside the lists of siblings keep: they are an index of entries by their keys.
use Rattle.std.specs.Prelude.{ℕ, ◌≡◌, ◌+◌, ◌-◌, ◌*◌, ◌<◌, ◌≤◌, eqb, ◌&&◌, is_some, cond, bit_and, List, Option, Some, None, length, slice_index_or, slice_set}
use Rattle.std.specs.List.{sum_by}
use Rattle.fs_names.specs.declared.limits.TheConstants.{NODE_LIMIT}
use Rattle.fs_nodes_places.specs.declared.key.Key.{Key}
use Rattle.fs_nodes.specs.declared.index.Slot.{Slot}
use Rattle.fs_nodes.specs.declared.index.Found.{Found}
use Rattle.fs_nodes.specs.declared.index.Found.TheVariants as founds
use Rattle.fs_nodes.specs.declared.index.TheConstants.{WINDOW}

-- a free slot, which no entry reaches
abbrev pub free_slot : Slot
free_slot = record { dir = 0; hash = 0; node = None; reach = 0 }

-- the slot at an index
abbrev pub slot_at : List Slot → ℕ → Slot
slot_at slots k = slice_index_or slots k free_slot

-- the key of the entry that names a node, if there is one
abbrev pub key_at : List (Option Key) → ℕ → Option Key
key_at keys n = slice_index_or keys n None

-- the home of a hash, among so many
unfoldable pub home_of : ℕ → ℕ → ℕ
home_of homes hash = bit_and hash (homes - 1)

-- the key of a slot's entry
abbrev pub key_in : Slot → Key
key_in slot = record { dir = slot.dir; hash = slot.hash }

-- a home has another reach
abbrev pub reaching : ℕ → ℕ → List Slot → List Slot
reaching home reach slots = slice_set slots home (record (slot_at slots home) { reach = reach })

-- a slot is that of an entry
abbrev pub holding : ℕ → Key → ℕ → List Slot → List Slot
holding at key n slots = slice_set slots at (record (slot_at slots at) { dir = key.dir; hash = key.hash; node = Some n })

-- a slot is free
abbrev pub freeing : ℕ → List Slot → List Slot
freeing at slots = slice_set slots at (record (slot_at slots at) { node = None })

-- one for a slot with an entry of this home
abbrev pub slot_weight : ℕ → ℕ → Slot → ℕ
slot_weight homes home slot = cond (is_some slot.node && eqb home (home_of homes slot.hash)) 1 0

-- one for an entry of this home
abbrev pub key_weight : ℕ → ℕ → Option Key → ℕ
key_weight homes home None = 0
key_weight homes home (Some key) = cond (eqb home (home_of homes key.hash)) 1 0

-- how many entries of a home have slots
abbrev pub with_slot : ℕ → List Slot → ℕ → ℕ
with_slot homes slots home = sum_by (slot_weight homes home) slots

-- how many entries a home has
abbrev pub at_home : ℕ → List (Option Key) → ℕ → ℕ
at_home homes keys home = sum_by (key_weight homes home) keys

-- slots with so many homes are an index of entries
pub record IsIndexOf (homes : ℕ) (slots : List Slot) (keys : List (Option Key)) : Type 0 where
  pub some : 0 < homes
  pub sized : length slots ≡ homes + WINDOW
  -- a slot with a node has the key of its entry, and no other slot has that node
  pub told : (k n : ℕ) → (slot_at slots k).node ≡ Some n → key_at keys n ≡ Some (key_in (slot_at slots k))
  pub once : (k l n : ℕ) → (slot_at slots k).node ≡ Some n → (slot_at slots l).node ≡ Some n → k ≡ l
  -- it stands in the window of its home, within its reach
  pub after : (k n : ℕ) → (slot_at slots k).node ≡ Some n → home_of homes (slot_at slots k).hash ≤ k
  pub near : (k n : ℕ) → (slot_at slots k).node ≡ Some n → k < home_of homes (slot_at slots k).hash + WINDOW
  pub reached : (k n : ℕ) → (slot_at slots k).node ≡ Some n → k < home_of homes (slot_at slots k).hash + (slot_at slots (home_of homes (slot_at slots k).hash)).reach
  -- where some entries of a home have no slot, its reach is by so many more than the window
  pub counted : (home : ℕ) → with_slot homes slots home + ((slot_at slots home).reach - WINDOW) ≡ at_home homes keys home

-- so many slots that homes and numbers fit
pub record IsTable (slots : List Slot) : Type 0 where
  pub wide : WINDOW < length slots
  pub most : length slots ≤ 4 * NODE_LIMIT + WINDOW

-- slots are an index of entries
pub record IsIndex (slots : List Slot) (keys : List (Option Key)) : Type 0 where
  pub homes : ℕ
  pub most : homes ≤ 4 * NODE_LIMIT
  pub of : IsIndexOf homes slots keys

-- they are one of some entries, of which there are no more than nodes
pub record IsSome (slots : List Slot) : Type 0 where
  pub keys : List (Option Key)
  pub few : length keys ≤ NODE_LIMIT
  pub index : IsIndex slots keys

-- one of which has a key, and names a node
pub record HasEntry (slots : List Slot) (key : Key) (n : ℕ) : Type 0 where
  pub keys : List (Option Key)
  pub few : length keys ≤ NODE_LIMIT
  pub index : IsIndex slots keys
  pub entry : key_at keys n ≡ Some key

-- the slot at an index is free, and in the window of a home
pub record IsFreeIn (slots : List Slot) (home at : ℕ) : Type 0 where
  pub after : home ≤ at
  pub near : at < home + WINDOW
  pub free : (slot_at slots at).node ≡ None

-- the slot at an index is that of a node, and in the window of a home
pub record IsHeldIn (slots : List Slot) (home n at : ℕ) : Type 0 where
  pub after : home ≤ at
  pub near : at < home + WINDOW
  pub held : (slot_at slots at).node ≡ Some n

-- what is found of a key is one of the entries with it, that there is none, or left open
abbrev pub IsFound : List (Option Key) → Key → Found → Type 0
IsFound keys key (founds.Node n) = key_at keys n ≡ Some key
IsFound keys key founds.Nothing = (n : ℕ) → key_at keys n ≡ Some key → ⊥
IsFound keys key founds.Open = Unit {0}
