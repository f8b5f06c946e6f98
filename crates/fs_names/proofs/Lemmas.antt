-- Lemmas on names and keys.
use Rattle.std.proofs.Common.{◌≡◌, ℕ, zero, suc, ◌+◌, ◌≤◌, true, false, cond, [], ◌∷◌, length, drop, slice_get, Some, None, refl, ap, ◌∙◌, arith, nat_eq, ◌++◌, is_some, Ordering, Less, Equal, Greater}
use Rattle.std.specs.Ordering.{nat_cmp, eq_by_cmp, is_eq}
use Rattle.std.specs.Cmp.{IsTotalOrder}
use Rattle.std.proofs.lemmas.Cmp.{lists_total, nat_cmp_total, tied_itself}
use Rattle.std.proofs.lemmas.Bool.Decides.{nat_tests}
use Rattle.std.specs.FinMap.{IsAntisymmetric, slice_cmp-IsAntisymmetric, nat_cmp-IsAntisymmetric}
use Rattle.fs_names.specs.Names.{Name, name_cmp, same_name}
use Rattle.fs_names.specs.Keys.{Key, key_cmp, common_len, after_prefix}

-- names are in a total order
pub name_total : IsTotalOrder name_cmp
name_total = lists_total nat_cmp_total

-- keys are in a total order
pub key_total : IsTotalOrder key_cmp
key_total = lists_total name_total

-- names that the order does not tell apart are equal
pub name_exact : IsAntisymmetric name_cmp
name_exact = slice_cmp-IsAntisymmetric nat_cmp-IsAntisymmetric

-- keys that the order does not tell apart are equal
pub key_exact : IsAntisymmetric key_cmp
key_exact = slice_cmp-IsAntisymmetric name_exact

-- bytes are equal exactly where their order does not tell them apart
pub nat_ties : (x y : ℕ) → nat_eq x y ≡ eq_by_cmp nat_cmp x y
nat_ties x y = grind (arith, nat_tests)

-- a place where the names agree counts one
pub common_more : (p q : Key) (i : ℕ) (x y : Name) → slice_get p i ≡ Some x → slice_get q i ≡ Some y → same_name x y ≡ true
    → common_len (drop i p) (drop i q) ≡ common_len (drop (suc i) p) (drop (suc i) q) + 1
common_more [] q i x y e f s = absurd (cc)
common_more (a ∷ p) [] i x y e f s = absurd (cc)
common_more (a ∷ p) (b ∷ q) zero x y e f s =
    let same : same_name a b ≡ true = (let ex : a ≡ x = cc in let fy : b ≡ y = cc in rw (ex, fy) s) in
    rw same refl
common_more (a ∷ p) (b ∷ q) (suc i) x y e f s = common_more p q i x y e f s

-- from a place where the names differ on, none counts
pub common_apart : (p q : Key) (i : ℕ) (x y : Name) → slice_get p i ≡ Some x → slice_get q i ≡ Some y → same_name x y ≡ false
    → common_len (drop i p) (drop i q) ≡ 0
common_apart [] q i x y e f s = absurd (cc)
common_apart (a ∷ p) [] i x y e f s = absurd (cc)
common_apart (a ∷ p) (b ∷ q) zero x y e f s =
    let same : same_name a b ≡ false = (let ex : a ≡ x = cc in let fy : b ≡ y = cc in rw (ex, fy) s) in
    rw same refl
common_apart (a ∷ p) (b ∷ q) (suc i) x y e f s = common_apart p q i x y e f s

-- no name agrees with none
common_nil : (p : Key) → common_len p [] ≡ 0
common_nil [] = refl
common_nil (x ∷ p) = refl

-- behind the end of the first key none counts
pub common_past : (p q : Key) (i : ℕ) → length p ≤ i → common_len (drop i p) (drop i q) ≡ 0
common_past [] q zero h = refl
common_past [] q (suc i) h = refl
common_past (a ∷ p) q zero h = absurd (omega arith)
common_past (a ∷ p) [] (suc i) h = common_nil _
common_past (a ∷ p) (b ∷ q) (suc i) h = common_past p q i (omega arith)

-- behind the end of the second key none counts
pub common_past_right : (p q : Key) (i : ℕ) → length q ≤ i → common_len (drop i p) (drop i q) ≡ 0
common_past_right p [] zero h = common_nil _
common_past_right p [] (suc i) h = common_nil _
common_past_right p (b ∷ q) zero h = absurd (omega arith)
common_past_right [] (b ∷ q) (suc i) h = refl
common_past_right (a ∷ p) (b ∷ q) (suc i) h = common_past_right p q i (omega arith)

-- one more on both sides changes nothing
one_more_each : (m n : ℕ) → nat_eq (m + 1) (suc n) ≡ nat_eq m n
one_more_each m n = grind (arith, nat_tests)

-- none is not one or more
none_of_some : (n : ℕ) → nat_eq 0 (suc n) ≡ false
none_of_some n = grind (arith, nat_tests)

-- all names agree exactly where the one is a front of the other
pub prefix_common : (p q : Key) → nat_eq (common_len p q) (length p) ≡ is_some (after_prefix p q)
prefix_common [] q = refl
prefix_common (x ∷ p) [] = none_of_some _
prefix_common (x ∷ p) (y ∷ q) =
    elim (same_name x y) as (λ b. nat_eq (cond b (common_len p q + 1) 0) (suc (length p)) ≡ is_some (cond b (after_prefix p q) None)) [
      | true ↦ one_more_each _ _ ∙ prefix_common p q
      | false ↦ none_of_some _
    ]

-- the test of an order that answers equal
pub equal_from_is_eq : (o : Ordering) → is_eq o ≡ true → o ≡ Equal
equal_from_is_eq Less h = absurd (cc)
equal_from_is_eq Equal h = refl
equal_from_is_eq Greater h = absurd (cc)

-- two names that are the same by their order are one
pub same_name_exact : (x y : Name) → same_name x y ≡ true → x ≡ y
same_name_exact x y h = name_exact x y (equal_from_is_eq _ h)

-- a name is the same as itself
pub same_name_refl : (x : Name) → same_name x x ≡ true
same_name_refl x = ap is_eq (tied_itself name_total x)

-- what follows a prefix follows it
pub after_prefix-exact : (p k r : Key) → after_prefix p k ≡ Some r → k ≡ p ++ r
after_prefix-exact [] k r h = cc
after_prefix-exact (x ∷ p) [] r h = absurd (cc)
after_prefix-exact (x ∷ p) (y ∷ k) r h =
    elim (same_name x y) as (λ b. same_name x y ≡ b → cond b (after_prefix p k) None ≡ Some r → y ∷ k ≡ x ∷ (p ++ r)) [
      | true ↦ λ s e. let same = same_name_exact x y s in let rest = after_prefix-exact p k r e in cc
      | false ↦ λ s e. absurd (cc)
    ] refl h

-- what is appended to a prefix follows it
pub after_prefix-append : (p r : Key) → after_prefix p (p ++ r) ≡ Some r
after_prefix-append [] r = refl
after_prefix-append (x ∷ p) r = rw (same_name_refl x) (after_prefix-append p r)
