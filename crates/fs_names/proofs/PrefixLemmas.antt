-- How a path stands to its parent and to another path, by how many names they have.
use Rattle.std.proofs.Common.{◌≡◌, ℕ, suc, ◌+◌, ◌≤◌, ◌<◌, Bool, true, false, cond, [], ◌∷◌, length, Option, Some, None, refl, sym, ap, ◌∙◌, arith, length-append}
use Rattle.std.specs.Prelude.{slice_get, is_some, nat_eq, nat_le}
use Rattle.std.proofs.lemmas.Bool.Decides.{nat_tests}
use Rattle.fs_names.specs.Names.{Name, same_name}
use Rattle.fs_names.specs.Keys.{Key, after_prefix, common_len, has_more, last_of, parent_of, is_end}
use Rattle.fs_names.specs.Parts.{common}
use Rattle.fs_names.proofs.Lemmas.{after_prefix-exact, prefix_common}
use Rattle.fs_names.proofs.ParentLemmas.{common_length}

-- ---- prefixes, by lengths

-- what follows a prefix has the other names
rest_length : (p q r : Key) → after_prefix p q ≡ Some r → length q ≡ length p + length r
rest_length p q r e = ap length (after_prefix-exact p q r e) ∙ length-append p r

pub same_by_length : (p q : Key) → length p ≡ length q → is_some (after_prefix p q) ≡ is_end (after_prefix p q)
same_by_length p q l = go (after_prefix p q) refl
  where
    go : (o : Option Key) → after_prefix p q ≡ o → is_some o ≡ is_end o
    go None e = refl
    go (Some []) e = refl
    go (Some (x ∷ r)) e = let h : length q ≡ length p + suc (length r) = rest_length p q (x ∷ r) e in absurd (omega arith)

pub other_by_length : (p q : Key) → (length p ≡ length q → ⊥) → false ≡ is_end (after_prefix p q)
other_by_length p q l = go (after_prefix p q) refl
  where
    go : (o : Option Key) → after_prefix p q ≡ o → false ≡ is_end o
    go None e = refl
    go (Some []) e = let h : length q ≡ length p + 0 = rest_length p q [] e in absurd (l (omega arith))
    go (Some (x ∷ r)) e = refl

pub above_by_length : (p q : Key) → length p < length q → is_some (after_prefix p q) ≡ has_more (after_prefix p q)
above_by_length p q l = go (after_prefix p q) refl
  where
    go : (o : Option Key) → after_prefix p q ≡ o → is_some o ≡ has_more o
    go None e = refl
    go (Some []) e = let h : length q ≡ length p + 0 = rest_length p q [] e in absurd (omega arith)
    go (Some (x ∷ r)) e = refl

pub below_by_length : (p q : Key) → length q ≤ length p → false ≡ has_more (after_prefix p q)
below_by_length p q l = go (after_prefix p q) refl
  where
    go : (o : Option Key) → after_prefix p q ≡ o → false ≡ has_more o
    go None e = refl
    go (Some []) e = refl
    go (Some (x ∷ r)) e = let h : length q ≡ length p + suc (length r) = rest_length p q (x ∷ r) e in absurd (omega arith)

-- ---- parents

pub common_is_length : (p q : Key) → common_len p q ≡ length (common p q)
common_is_length [] q = refl
common_is_length (x ∷ p) [] = refl
common_is_length (x ∷ p) (y ∷ q) = go (same_name x y) (common_is_length p q)
  where
    go : (b : Bool) → common_len p q ≡ length (common p q) → cond b (common_len p q + 1) 0 ≡ length (cond b (x ∷ common p q) [])
    go true e = omega arith
    go false e = refl

-- parents of one length are the same where the paths have so many names in common
pub one_parent : (p q : Key) → length (parent_of p) ≡ length (parent_of q) → nat_le (length (parent_of p)) (common_len p q) ≡ is_end (after_prefix (parent_of p) (parent_of q))
one_parent p q l =
    let a = common_is_length (parent_of p) (parent_of q) in
    let b = common_length p q in
    let e : nat_le (length (parent_of p)) (common_len p q) ≡ nat_eq (common_len (parent_of p) (parent_of q)) (length (parent_of p)) = grind (arith, nat_tests) in
    e ∙ prefix_common (parent_of p) (parent_of q) ∙ same_by_length (parent_of p) (parent_of q) l

-- ---- the last name

last_at : (x : Name) (p : Key) → slice_get (x ∷ p) (length p) ≡ Some (last_of (x ∷ p))
last_at x [] = refl
last_at x (y ∷ p) = last_at y p

pub last_is : (p : Key) (i : ℕ) (x : Name) → i + 1 ≡ length p → slice_get p i ≡ Some x → x ≡ last_of p
last_is [] i x l e = absurd (omega arith)
last_is (y ∷ p) i x l e =
    let same : i ≡ length p = omega arith in
    let h : Some x ≡ Some (last_of (y ∷ p)) = sym e ∙ ap (slice_get (y ∷ p)) same ∙ last_at y p in
    cc
