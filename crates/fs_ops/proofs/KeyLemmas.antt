-- Parts of keys by counts of names.
use Rattle.std.proofs.Common.{◌≡◌, ℕ, zero, suc, ◌+◌, ◌≤◌, ◌<◌, Bool, true, false, cond, [], ◌∷◌, length, take, drop, slice_get, None, refl, sym, ap, ◌∙◌, arith, add-one, zero-add}
use Rattle.fs_names.specs.Names.{same_name}
use Rattle.fs_names.specs.Keys.{Key, after_prefix, parent_of, last_of}
use Rattle.fs_names.specs.Parts.{common, left}
use Rattle.fs_names.proofs.Lemmas.{same_name_refl, same_name_exact}
use Rattle.fs_calls.specs.Forms.{Form, AtNode, AtEntry, AtPair}
use Rattle.fs_machine.specs.Moves.{target, tail_of}
use Rattle.fs_ops_effects.specs.Paths.{first_path}
use Rattle.fs_ops.specs.OpValue.{dropped}

-- what is left behind the first names
pub left_take : (k : ℕ) (l : Key) → left (take k l) l ≡ drop k l
left_take zero l = refl
left_take (suc k) [] = refl
left_take (suc k) (x ∷ l) = rw (same_name_refl x) (left_take k l)

pub parent_drop : (k : ℕ) (p : Key) → parent_of (drop k p) ≡ drop k (parent_of p)
parent_drop zero p = refl
parent_drop (suc k) [] = refl
parent_drop (suc zero) (x ∷ []) = refl
parent_drop (suc (suc k)) (x ∷ []) = refl
parent_drop (suc k) (x ∷ y ∷ p) = parent_drop k (y ∷ p)

pub drop_get : (k i : ℕ) (l : Key) → slice_get (drop k l) i ≡ slice_get l (k + i)
drop_get zero i l = ap (slice_get l) (sym (zero-add i))
drop_get (suc k) i [] = refl
drop_get (suc k) i (x ∷ l) = let e : suc (k + i) ≡ suc k + i = omega arith in drop_get k i l ∙ ap (slice_get (x ∷ l)) e

tail_suc : (k : ℕ) (l : Key) → tail_of (drop k l) ≡ drop (suc k) l
tail_suc zero [] = refl
tail_suc zero (x ∷ l) = refl
tail_suc (suc k) [] = refl
tail_suc (suc k) (x ∷ l) = tail_suc k l

pub tail_drop : (k : ℕ) (l : Key) → tail_of (drop k l) ≡ drop (k + 1) l
tail_drop k l = rw add-one (tail_suc k l)

common_drop : (k : ℕ) (a b : Key) → k ≤ length (common a b) → common (drop k a) (drop k b) ≡ drop k (common a b)
common_drop zero a b h = refl
common_drop (suc k) [] b h = absurd (omega arith)
common_drop (suc k) (x ∷ a) [] h = absurd (omega arith)
common_drop (suc k) (x ∷ a) (y ∷ b) h = go (same_name x y) h (common_drop k a b)
  where
    go : (s : Bool) → suc k ≤ length (cond s (x ∷ common a b) []) → (k ≤ length (common a b) → common (drop k a) (drop k b) ≡ drop k (common a b)) → common (drop k a) (drop k b) ≡ drop (suc k) (cond s (x ∷ common a b) [])
    go true h rest = rest (omega arith)
    go false h rest = absurd (omega arith)

-- the target of what is left of a call
pub target_drop : (k : ℕ) (call : Form) → k ≤ length (target call) → target (dropped k call) ≡ drop k (target call)
target_drop k (AtNode c p) h = refl
target_drop k (AtEntry c p) h = parent_drop k p
target_drop k (AtPair c p q) h = rw (parent_drop k p, parent_drop k q) (common_drop k (parent_of p) (parent_of q) h)

take_all : (p : Key) → take (length p) p ≡ p
take_all [] = refl
take_all (x ∷ p) = ap (λ (l : Key). x ∷ l) (take_all p)

take_parent : (p : Key) → take (length (parent_of p)) p ≡ parent_of p
take_parent [] = refl
take_parent (x ∷ []) = refl
take_parent (x ∷ y ∷ p) = ap (λ (l : Key). x ∷ l) (take_parent (y ∷ p))

take_common : (p b : Key) → take (length (common (parent_of p) b)) p ≡ common (parent_of p) b
take_common [] b = refl
take_common (x ∷ []) b = refl
take_common (x ∷ y ∷ p) [] = refl
take_common (x ∷ y ∷ p) (z ∷ b) = go (same_name x z) (take_common (y ∷ p) b)
  where
    go : (s : Bool) → take (length (common (parent_of (y ∷ p)) b)) (y ∷ p) ≡ common (parent_of (y ∷ p)) b
        → take (length (cond s (x ∷ common (parent_of (y ∷ p)) b) [])) (x ∷ y ∷ p) ≡ cond s (x ∷ common (parent_of (y ∷ p)) b) []
    go true e = ap (λ (l : Key). x ∷ l) e
    go false e = refl

-- the target, by the first path of the call
pub target_take : (call : Form) → take (length (target call)) (first_path call) ≡ target call
target_take (AtNode c p) = take_all p
target_take (AtEntry c p) = take_parent p
target_take (AtPair c p q) = take_common p (parent_of q)

-- a name of the target is one of the first path
pub take_get : (n k : ℕ) (l : Key) → k < n → slice_get (take n l) k ≡ slice_get l k
take_get zero k l h = absurd (omega arith)
take_get (suc n) k [] h = refl
take_get (suc n) zero (x ∷ l) h = refl
take_get (suc n) (suc k) (x ∷ l) h = take_get n k l (omega arith)

-- paths without names that they have in common
pub drop_prefix : (k : ℕ) (a b : Key) → k ≤ length (common a b) → after_prefix (drop k a) (drop k b) ≡ after_prefix a b
drop_prefix zero a b h = refl
drop_prefix (suc k) [] b h = absurd (omega arith)
drop_prefix (suc k) (x ∷ a) [] h = absurd (omega arith)
drop_prefix (suc k) (x ∷ a) (y ∷ b) h = go (same_name x y) h (drop_prefix k a b)
  where
    go : (s : Bool) → suc k ≤ length (cond s (x ∷ common a b) []) → (k ≤ length (common a b) → after_prefix (drop k a) (drop k b) ≡ after_prefix a b) → after_prefix (drop k a) (drop k b) ≡ cond s (after_prefix a b) None
    go true h rest = rest (omega arith)
    go false h rest = absurd (omega arith)

common_swap : (a b : Key) → length (common b a) ≡ length (common a b)
common_swap [] [] = refl
common_swap [] (y ∷ b) = refl
common_swap (x ∷ a) [] = refl
common_swap (x ∷ a) (y ∷ b) = go (same_name x y) refl (same_name y x) refl (common_swap a b)
  where
    go : (s : Bool) → same_name x y ≡ s → (t : Bool) → same_name y x ≡ t → length (common b a) ≡ length (common a b) → length (cond t (y ∷ common b a) []) ≡ length (cond s (x ∷ common a b) [])
    go true e true f h = ap suc h
    go false e false f h = refl
    go true e false f h = let same : x ≡ y = same_name_exact x y e in let wrong : same_name y x ≡ true = rw same (same_name_refl y) in absurd (cc)
    go false e true f h = let same : y ≡ x = same_name_exact y x f in let wrong : same_name x y ≡ true = rw same (same_name_refl x) in absurd (cc)

pub drop_prefix_back : (k : ℕ) (a b : Key) → k ≤ length (common a b) → after_prefix (drop k b) (drop k a) ≡ after_prefix b a
drop_prefix_back k a b h = let e : length (common b a) ≡ length (common a b) = common_swap a b in drop_prefix k b a (omega arith)

pub common_parents : (p q : Key) → length (common (parent_of p) (parent_of q)) ≤ length (common p q)
common_parents [] q = omega arith
common_parents (x ∷ []) q = omega arith
common_parents (x ∷ y ∷ p) [] = omega arith
common_parents (x ∷ y ∷ p) (z ∷ []) = omega arith
common_parents (x ∷ y ∷ p) (z ∷ w ∷ q) = go (same_name x z) (common_parents (y ∷ p) (w ∷ q))
  where
    go : (s : Bool) → length (common (parent_of (y ∷ p)) (parent_of (w ∷ q))) ≤ length (common (y ∷ p) (w ∷ q))
        → length (cond s (x ∷ common (parent_of (y ∷ p)) (parent_of (w ∷ q))) []) ≤ length (cond s (x ∷ common (y ∷ p) (w ∷ q)) [])
    go true h = omega arith
    go false h = omega arith

-- the last name stays
pub last_drop : (k : ℕ) (p : Key) → k ≤ length (parent_of p) → last_of (drop k p) ≡ last_of p
last_drop zero p h = refl
last_drop (suc k) [] h = refl
last_drop (suc k) (x ∷ []) h = absurd (omega arith)
last_drop (suc k) (x ∷ y ∷ p) h = last_drop k (y ∷ p) (omega arith)
