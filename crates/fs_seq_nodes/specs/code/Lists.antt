-- The entries of a directory in several lists.
use Rattle.std.specs.Prelude.{◌≡◌, ℕ, ◌<◌, ◌≤◌, ◌+◌, Bool, true, false, not, List, [], ◌∷◌, length, take, slice_get, slice_set, slice_index_or, Some, Result, Ok, Err, MatchResult}
use Rattle.std.specs.declared.cmp.Ordering.TheVariants.{Less, Equal, Greater}
use Rattle.std.specs.Ordering.{is_lt}
use Rattle.std.specs.List.{flat_map, All, AllWithin}
use Rattle.fs_names.specs.Names.{Name, name_cmp}
use Rattle.fs_seq_nodes.specs.declared.nodes.Link.{Link}
use Rattle.fs_seq_nodes.specs.code.Entries.{pairs, IsNameAt, BelongsAt, number_of, name_of}

-- the entries of all lists, in their order
abbrev pub flat : List (List Link) → List Link
flat lists = flat_map (λ l. l) lists

-- how many entries come before those of a list
abbrev pub before : List (List Link) → ℕ → ℕ
before lists i = length (flat (take i lists))

-- the list of a number
abbrev pub list_at : List (List Link) → ℕ → List Link
list_at lists i = slice_index_or lists i []

-- no list is empty
abbrev pub AllSome : List (List Link) → Type 0
AllSome lists = All (λ l. 0 < length l) lists

-- the list with the entry at a place, and its place there
pub record IsIn (lists : List (List Link)) (place i at : ℕ) : Type 0 where
  pub list : i < length lists
  pub within : at < length (list_at lists i)
  pub counted : place ≡ before lists i + at

-- the list that an entry joins if it comes to a place, and its place there
pub record IsGap (lists : List (List Link)) (place i at : ℕ) : Type 0 where
  pub list : i < length lists
  pub within : at ≤ length (list_at lists i)
  pub counted : place ≡ before lists i + at

-- a place is after all lower names, and before all higher ones
pub record Parts (x : Name) (links : List Link) (i : ℕ) : Type 0 where
  pub lower : (k : ℕ) (d : Link) → k < i → name_cmp (slice_index_or links k d).name x ≡ Less
  pub higher : (k : ℕ) (d : Link) → i ≤ k → k < length links → name_cmp (slice_index_or links k d).name x ≡ Greater
  pub within : i ≤ length links

-- the entry at a place has the name
pub record HasName (x : Name) (links : List Link) (i : ℕ) : Type 0 where
  pub within : i < length links
  pub same : (d : Link) → name_cmp (slice_index_or links i d).name x ≡ Equal

-- where a name is, or the place after all lower names and before all higher ones
abbrev pub Bisects : Name → List Link → Result ℕ ℕ → Type 0
Bisects x links r = MatchResult r (HasName x links) (Parts x links)

-- whether a link's name is not above one
abbrev pub is_within : Name → Link → Bool
is_within x l = not (is_lt (name_cmp x l.name))

-- the place from which names are above one
pub record IsCut (x : Name) (links : List Link) (i : ℕ) : Type 0 where
  pub first : AllWithin (λ l. is_within x l ≡ true) links 0 i
  pub second : AllWithin (λ l. is_within x l ≡ false) links i (length links)
  pub within : i ≤ length links

-- whether the first name of a list is above one
abbrev pub begins_above : Name → List Link → Bool
begins_above x [] = true
begins_above x (l ∷ links) = is_lt (name_cmp x l.name)

-- the list to which a name belongs: the last one that does not begin above it, or else the first one
pub record IsListOf (x : Name) (lists : List (List Link)) (i : ℕ) : Type 0 where
  pub list : i < length lists
  pub begins : 0 < i → begins_above x (list_at lists i) ≡ false
  pub next : i + 1 < length lists → begins_above x (list_at lists (i + 1)) ≡ true

-- the same place, counted from the first entry of all lists
abbrev pub shifted : ℕ → Result ℕ ℕ → Result ℕ ℕ
shifted n (Ok at) = Ok (n + at)
shifted n (Err at) = Err (n + at)

-- where a name is among links, and its number, or where it belongs
abbrev pub Looks : Name → List Link → Result (ℕ × ℕ) ℕ → Type 0
Looks x links r = MatchResult r (λ at. IsNameAt (pairs links) x at.0 × (number_of (slice_get (pairs links) at.0) ≡ Some at.1)) (BelongsAt (pairs links) x)

-- an entry that leads to another number
abbrev pub led_to : ℕ → Link → Link
led_to n l = record l { node = n }

-- the entry at a place leads to another number under its name
abbrev pub Leads : List Link → List Link → ℕ → ℕ → Type 0
Leads old new i n = (x : Name) → name_of (slice_get (pairs old) i) ≡ Some x → pairs new ≡ slice_set (pairs old) i (x, n)
