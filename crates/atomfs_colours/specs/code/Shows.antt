-- What has been painted so far.
use Rattle.std.specs.Prelude.{ℕ, ◌≡◌, false, List, ◌++◌}
use Rattle.atomfs_colours.specs.Colours.{has_escape, plain_on}

-- what was painted is, without escape sequences, this text, whatever follows it
abbrev pub Shows : List ℕ → List ℕ → Type 0
Shows painted text = (rest : List ℕ) → plain_on false (painted ++ rest) ≡ text ++ plain_on false rest

-- the part of a text before what is left of it was painted
abbrev pub IsPaintedUpTo : List ℕ → List ℕ → List ℕ → Type 0
IsPaintedUpTo text left painted = has_escape text ≡ false → (before : List ℕ) × (text ≡ before ++ left) × (has_escape left ≡ false) × Shows painted before
