-- What a change of a file in blocks may use, so that it takes no memory.
use Rattle.std.specs.Prelude.{ℕ, zero, suc, ◌+◌, ◌-◌, ◌*◌, ◌/◌, ◌%◌, ◌<◌, ◌≤◌, Bool, IsTrue}
use Rattle.fs_blocks.specs.declared.sizes.TheConstants.{BLOCK, SPAN}

-- how many parts of this size hold so many bytes from a place on
abbrev pub parts_of : ℕ → ℕ → ℕ → ℕ
parts_of size place zero = 0
parts_of size place (suc more) = (place % size + more) / size + 1

-- how many of so many bytes from an offset on stand behind the first block
abbrev pub behind_first : ℕ → ℕ → ℕ
behind_first off count = (off + count - BLOCK) - (off - BLOCK)

-- how many buffers for blocks, how many vectors for chunks, a list of how many chunks, and whether a file may become longer than a block
pub record SpareValue : Type 0 where
  pub blocks : ℕ
  pub chunks : ℕ
  pub list : ℕ
  pub grows : Bool

-- enough for a write of so many bytes at an offset: what it touches, and a list up to its end
pub record FitsWrite (off count : ℕ) (spare : SpareValue) : Type 0 where
  pub blocks : parts_of BLOCK off count ≤ spare.blocks
  pub chunks : parts_of SPAN (off - BLOCK) (behind_first off count) ≤ spare.chunks
  pub list : off + count ≤ BLOCK + spare.list * SPAN
  pub grows : BLOCK < off + count → IsTrue spare.grows

-- enough for a change to a size: the block that is cut may be shared
pub record FitsSize (size : ℕ) (spare : SpareValue) : Type 0 where
  pub blocks : 0 < spare.blocks
  pub grows : BLOCK < size → IsTrue spare.grows
