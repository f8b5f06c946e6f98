-- Files that may be missing.
use Rattle.std.specs.Prelude.{ℕ, List, [], Option, Some, None}

-- the bytes of a file; if there is none, no bytes
abbrev pub bytes_in : Option (List ℕ) → List ℕ
bytes_in None = []
bytes_in (Some bytes) = bytes
