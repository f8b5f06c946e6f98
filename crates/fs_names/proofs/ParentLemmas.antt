-- How many names parents have.
use Rattle.std.proofs.Common.{◌≡◌, suc, ◌+◌, ◌-◌, Bool, true, false, cond, [], ◌∷◌, length, min, refl, arith}
use Rattle.fs_names.specs.Names.{same_name}
use Rattle.fs_names.specs.Keys.{Key, common_len, parent_of}
use Rattle.fs_names.specs.Parts.{common}

-- how many names a parent has
pub parent_length : (p : Key) → length (parent_of p) ≡ length p - 1
parent_length [] = refl
parent_length (x ∷ []) = refl
parent_length (x ∷ y ∷ p) = let h : length (parent_of (y ∷ p)) ≡ length (y ∷ p) - 1 = parent_length (y ∷ p) in omega arith

-- how many names two parents have in common
pub common_length : (p q : Key) → min (min (common_len p q) (length (parent_of p))) (length (parent_of q)) ≡ length (common (parent_of p) (parent_of q))
common_length [] q = omega arith
common_length (x ∷ []) q = omega arith
common_length (x ∷ y ∷ p) [] = omega arith
common_length (x ∷ y ∷ p) (z ∷ []) = omega arith
common_length (x ∷ y ∷ p) (z ∷ w ∷ q) = go (same_name x z) (common_length (y ∷ p) (w ∷ q))
  where
    go : (b : Bool) → min (min (common_len (y ∷ p) (w ∷ q)) (length (parent_of (y ∷ p)))) (length (parent_of (w ∷ q))) ≡ length (common (parent_of (y ∷ p)) (parent_of (w ∷ q)))
        → min (min (cond b (common_len (y ∷ p) (w ∷ q) + 1) 0) (suc (length (parent_of (y ∷ p))))) (suc (length (parent_of (w ∷ q)))) ≡ length (cond b (x ∷ common (parent_of (y ∷ p)) (parent_of (w ∷ q))) [])
    go true e = omega arith
    go false e = omega arith
