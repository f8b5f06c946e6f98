-- Lemmas on keys: parents, last names and prefixes.
use Rattle.std.proofs.Common.{◌≡◌, ◌≢◌, ◌↔◌, Bool, true, false, cond, [], ◌∷◌, ◌++◌, Some, None, Option, refl, sym, ap, ◌∙◌, append_assoc, append-nil}
use Rattle.std.proofs.lemmas.Cmp.{tied_itself}
use Rattle.fs_names.specs.Names.{Name, same_name}
use Rattle.fs_names.specs.Keys.{Key, same_key, after_prefix, is_root, is_proper_prefix, has_more, parent_of, last_of, is_end}
use Rattle.fs_calls.specs.Sights.{is_same}
use Rattle.fs_names.proofs.Lemmas.{name_total, same_name_refl, after_prefix-exact, after_prefix-append}
use Rattle.fs_calls.proofs.LookLemmas.{same_key_exact, same_key_refl}

-- a test that cannot be true is false
pub no_true : (b : Bool) → (b ≡ true → ⊥) → b ≡ false
no_true true h = absurd (h refl)
no_true false h = refl

-- keys that differ are not the same
pub differ : (a b : Key) → a ≢ b → same_key a b ≡ false
differ a b h = no_true (same_key a b) (λ same. h (same_key_exact a b same))

-- keys that are not the same differ
pub differ_not : (a b : Key) → same_key a b ≡ false → a ≢ b
differ_not a b h same = let e : same_key a b ≡ true = ap (same_key a) (sym same) ∙ same_key_refl a in absurd (cc)

-- keys are one where nothing follows the first in the second
pub is_same_exact : (p q : Key) → is_same p q ≡ true → p ≡ q
is_same_exact p q h = go (after_prefix p q) refl h
  where
    go : (o : Option Key) → after_prefix p q ≡ o → is_end o ≡ true → p ≡ q
    go None e h = absurd (cc)
    go (Some []) e h = sym (append-nil p) ∙ sym (after_prefix-exact p q [] e)
    go (Some (x ∷ r)) e h = absurd (cc)

pub is_same_refl : (p : Key) → is_same p p ≡ true
is_same_refl p = ap is_end (ap (after_prefix p) (sym (append-nil p)) ∙ after_prefix-append p [])

-- paths are the same exactly where they are equal
pub same_path : (p q : Key) → is_same p q ≡ true ↔ p ≡ q
same_path p q = (is_same_exact p q, λ e. ap (is_same p) (sym e) ∙ is_same_refl p)

pub never_same : (p q : Key) → p ≢ q → is_same p q ≡ false
never_same p q h = no_true (is_same p q) (λ same. h (is_same_exact p q same))

pub only_same : (p q : Key) → is_same p q ≡ false → p ≢ q
only_same p q h same = let e : is_same p q ≡ true = ap (is_same p) (sym same) ∙ is_same_refl p in absurd (cc)

-- the same front decides nothing
pub same_key-prefix : (p r s : Key) → same_key (p ++ r) (p ++ s) ≡ same_key r s
same_key-prefix [] r s = refl
same_key-prefix (x ∷ p) r s = rw (tied_itself name_total x) (same_key-prefix p r s)

-- the parent of a key with a last name is what stands before the name
pub parent_of-snoc : (d : Key) (x : Name) → parent_of (d ++ x ∷ []) ≡ d
parent_of-snoc [] x = refl
parent_of-snoc (y ∷ []) x = refl
parent_of-snoc (y ∷ z ∷ d) x = ap (λ k. y ∷ k) (parent_of-snoc (z ∷ d) x)

-- a key that is not the root is its parent and its last name
pub parent_and_last : (p : Key) → is_root p ≡ false → p ≡ parent_of p ++ last_of p ∷ []
parent_and_last [] h = absurd (cc)
parent_and_last (x ∷ []) h = refl
parent_and_last (x ∷ y ∷ p) h = ap (λ k. x ∷ k) (parent_and_last (y ∷ p) refl)

-- the same, of a key that is equal to such a one
pub parent_of_child : (p d : Key) (x : Name) → p ≡ d ++ x ∷ [] → parent_of p ≡ d
parent_of_child p d x e = ap parent_of e ∙ parent_of-snoc d x

-- a key that is not the root has a name
pub not_root : (p : Key) → is_root p ≡ false → p ≢ []
not_root p h e = let r : is_root p ≡ true = ap is_root e in absurd (cc)

-- a prefix has itself as a prefix, followed by nothing
pub after_prefix-itself : (p : Key) → after_prefix p p ≡ Some []
after_prefix-itself p = ap (after_prefix p) (sym (append-nil p)) ∙ after_prefix-append p []

-- what is not a prefix of a key is none of the fronts of it
pub after_prefix-front : (p d : Key) (x : Name) → after_prefix p (d ++ x ∷ []) ≡ None → after_prefix p d ≡ None
after_prefix-front p d x none = by_case (after_prefix p d) refl
  where
    by_case : (o : Option Key) → after_prefix p d ≡ o → o ≡ None
    by_case None e = refl
    by_case (Some r) e =
        let longer : d ++ x ∷ [] ≡ p ++ (r ++ x ∷ []) = ap (λ k. k ++ x ∷ []) (after_prefix-exact p d r e) ∙ append_assoc p r (x ∷ []) in
        let some : after_prefix p (d ++ x ∷ []) ≡ Some (r ++ x ∷ []) = ap (after_prefix p) longer ∙ after_prefix-append p (r ++ x ∷ []) in
        absurd (cc)

-- a key is a prefix of another only where it is that one or a prefix of its parent
pub after_prefix-child : (p d : Key) (x : Name) → p ≢ d ++ x ∷ [] → after_prefix p d ≡ None → after_prefix p (d ++ x ∷ []) ≡ None
after_prefix-child p d x other none = by_case (after_prefix p (d ++ x ∷ [])) refl
  where
    front : (r : Key) → after_prefix p (d ++ x ∷ []) ≡ Some r → is_root r ≡ false → ⊥
    front r e named =
        let whole : d ++ x ∷ [] ≡ (p ++ parent_of r) ++ last_of r ∷ [] = after_prefix-exact p (d ++ x ∷ []) r e ∙ ap (λ k. p ++ k) (parent_and_last r named) ∙ sym (append_assoc p (parent_of r) (last_of r ∷ [])) in
        let above : d ≡ p ++ parent_of r = sym (parent_of-snoc d x) ∙ parent_of_child (d ++ x ∷ []) (p ++ parent_of r) (last_of r) whole in
        let some : after_prefix p d ≡ Some (parent_of r) = ap (after_prefix p) above ∙ after_prefix-append p (parent_of r) in
        absurd (cc)

    by_case : (o : Option Key) → after_prefix p (d ++ x ∷ []) ≡ o → o ≡ None
    by_case None e = refl
    by_case (Some []) e = absurd (other (sym (append-nil p) ∙ sym (after_prefix-exact p (d ++ x ∷ []) [] e)))
    by_case (Some (y ∷ r)) e = absurd (front (y ∷ r) e refl)

-- a key that is neither another one nor a proper prefix of it is no prefix of it
pub no_prefix : (p q : Key) → is_proper_prefix p q ≡ false → p ≢ q → after_prefix p q ≡ None
no_prefix p q h other = by_case (after_prefix p q) refl h
  where
    by_case : (o : Option Key) → after_prefix p q ≡ o → has_more o ≡ false → o ≡ None
    by_case None e g = refl
    by_case (Some []) e g = absurd (other (sym (append-nil p) ∙ sym (after_prefix-exact p q [] e)))
    by_case (Some (x ∷ k)) e g = absurd (cc)

-- of two fronts of one key, the one that is no prefix of the other is longer
pub longer_front : (p q a b : Key) → p ++ a ≡ q ++ b → after_prefix p q ≡ None → (x : Name) × (r : Key) × (p ≡ q ++ x ∷ r)
longer_front [] q a b e h = absurd (cc)
longer_front (x ∷ p) [] a b e h = (x, p, refl)
longer_front (x ∷ p) (y ∷ q) a b e h =
    let first : x ≡ y = cc in
    let rest : p ++ a ≡ q ++ b = cc in
    let same : same_name x y ≡ true = ap (same_name x) (sym first) ∙ same_name_refl x in
    let none : after_prefix p q ≡ None = ap (λ c. cond {A = Option Key} c (after_prefix p q) None) (sym same) ∙ h in
    let more = longer_front p q a b rest none in
    (more.0, more.1, λ i. first i ∷ more.2 i)
