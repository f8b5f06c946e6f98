-- The bytes of a file by their places: each place has one, and it is 0 where nothing was written.
use Rattle.std.specs.Prelude.{ℕ, ◌≡◌, ◌+◌, ◌-◌, ◌/◌, ◌%◌, ◌<◌, ◌≤◌, nat_lt, List, [], length, map, slice_index, slice_index_or, if◌then◌else◌}
use Rattle.std.specs.List.{range_with_len}
use Rattle.fs_blocks.specs.declared.sizes.TheConstants.{BLOCK, SPAN}

-- the byte of a block
abbrev pub byte_of_block : List ℕ → ℕ → ℕ
byte_of_block block i = slice_index block i

-- the byte at a place of parts that are all of one size; a part that is missing is this one
abbrev pub byte_of_parts : {X : Type 0} → (X → ℕ → ℕ) → X → ℕ → List X → ℕ → ℕ
byte_of_parts byte_of none size parts i = byte_of (slice_index_or parts (i / size) none) (i % size)

-- the byte of a chunk
abbrev pub byte_of_chunk : List (List ℕ) → ℕ → ℕ
byte_of_chunk blocks i = byte_of_parts byte_of_block [] BLOCK blocks i

-- the byte of what follows the first block
abbrev pub byte_of_rest : List (List (List ℕ)) → ℕ → ℕ
byte_of_rest chunks i = byte_of_parts byte_of_chunk [] SPAN chunks i

-- the byte of a file
abbrev pub byte_of_file : List ℕ → List (List (List ℕ)) → ℕ → ℕ
byte_of_file first chunks i = if nat_lt i BLOCK then byte_of_block first i else byte_of_rest chunks (i - BLOCK)

-- so many bytes from a place on
abbrev pub bytes_from : (ℕ → ℕ) → ℕ → ℕ → List ℕ
bytes_from byte_at place count = map byte_at (range_with_len place count)

-- bytes are put at a place, and all others stay
pub record Puts (old new : ℕ → ℕ) (place : ℕ) (bytes : List ℕ) : Type 0 where
  pub inside : (k : ℕ) → k < length bytes → new (place + k) ≡ slice_index bytes k
  pub below : (i : ℕ) → i < place → new i ≡ old i
  pub above : (i : ℕ) → place + length bytes ≤ i → new i ≡ old i

-- nothing stays from a place on
pub record Cuts (old new : ℕ → ℕ) (place : ℕ) : Type 0 where
  pub below : (i : ℕ) → i < place → new i ≡ old i
  pub above : (i : ℕ) → place ≤ i → new i ≡ 0

-- all bytes from a place on are 0
abbrev pub IsClear : (ℕ → ℕ) → ℕ → Type 0
IsClear byte_at place = (i : ℕ) → place ≤ i → byte_at i ≡ 0
