-- The names of a parent.
use Rattle.std.proofs.Common.{◌≡◌, ℕ, zero, suc, ◌+◌, ◌<◌, ◌≤◌, [], ◌∷◌, length, slice_get, None, refl, arith}
use Rattle.std.proofs.lemmas.Option.{slice_get_past}
use Rattle.fs_names.specs.Keys.{Key, parent_of}

-- all but the last are those of the path
pub name_inner : (p : Key) (i : ℕ) → i + 1 < length p → slice_get (parent_of p) i ≡ slice_get p i
name_inner [] i h = absurd (omega arith)
name_inner (x ∷ []) i h = absurd (omega arith)
name_inner (x ∷ y ∷ p) zero h = refl
name_inner (x ∷ y ∷ p) (suc i) h = name_inner (y ∷ p) i (omega arith)

-- and there are no others
parent_short : (p : Key) (i : ℕ) → length p ≤ i + 1 → length (parent_of p) ≤ i
parent_short [] i h = omega arith
parent_short (x ∷ []) i h = omega arith
parent_short (x ∷ y ∷ p) zero h = absurd (omega arith)
parent_short (x ∷ y ∷ p) (suc i) h = let r : length (parent_of (y ∷ p)) ≤ i = parent_short (y ∷ p) i (omega arith) in omega arith

pub name_past : (p : Key) (i : ℕ) → length p ≤ i + 1 → slice_get (parent_of p) i ≡ None
name_past p i h = slice_get_past (parent_of p) i (parent_short p i h)
