-- The places of a byte in a block of bytes, as the bits of a number.
use Rattle.std.specs.Prelude.{◌≡◌, ℕ, false, List, map, slice_index_or, if◌then◌else◌}
use Rattle.std.specs.Int.{bit_at}
use Rattle.memchr.specs.Find.{is_byte}

-- each bit says whether the byte stands at its place; it stands nowhere past the block
abbrev pub MarksByte : ℕ → List ℕ → ℕ → Type 0
MarksByte byte block marks = (k : ℕ) → bit_at marks k ≡ (if slice_index_or (map (is_byte byte) block) k false then 1 else 0)
