-- The first eight bytes of a name as one number: names whose numbers differ stand to each other as these do.
use Rattle.std.specs.Prelude.{ℕ, zero, suc, ◌≡◌, ◌+◌, ◌*◌, ◌<◌, List, [], ◌∷◌}
use Rattle.fs_names.specs.Names.{Name}

-- the first byte, zero behind the last one, and those after it
abbrev pub first : List ℕ → ℕ
first [] = 0
first (b ∷ bytes) = b

-- the bytes behind the first one
abbrev pub rest : List ℕ → List ℕ
rest [] = []
rest (b ∷ bytes) = bytes

-- the byte at an index, zero behind the last one
abbrev pub byte_at : ℕ → List ℕ → ℕ
byte_at zero bytes = first bytes
byte_at (suc i) bytes = byte_at i (rest bytes)

-- a number with some bytes more
abbrev pub number_with : ℕ → ℕ → List ℕ → ℕ
number_with n zero bytes = n
number_with n (suc k) bytes = number_with (n * 256 + first bytes) k (rest bytes)

-- so many of the numbers are bytes
abbrev pub AreBytes : ℕ → List ℕ → Type 0
AreBytes zero bytes = Unit {0}
AreBytes (suc k) bytes = (first bytes < 256) × AreBytes k (rest bytes)

-- the number of a name
pub record IsHead (head : ℕ) (name : Name) : Type 0 where
  pub bytes : AreBytes 8 name
  pub is : head ≡ number_with 0 8 name
