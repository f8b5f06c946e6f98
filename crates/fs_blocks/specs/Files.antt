-- What contracts see of a file.
use Rattle.std.specs.Prelude.{ℕ, Bool, List, Option, Some, None, if◌then◌else◌}

-- its bytes, and whether they are in blocks
pub record FileValue : Type 0 where
  pub bytes : List ℕ
  pub in_blocks : Bool

-- the bytes of a file in one vector
abbrev pub vector_of : FileValue → Option (List ℕ)
vector_of file = if file.in_blocks then None else Some file.bytes
