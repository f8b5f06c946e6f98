-- Lemmas on lists, and on keys with one name more.
use Rattle.std.proofs.Common.{◌≡◌, ℕ, zero, suc, ◌+◌, ◌<◌, Bool, true, false, cond, List, [], ◌∷◌, ◌++◌, length, take, slice_get, Some, None, Option, refl, sym, ap, subst, ◌∙◌, arith, Less, Equal, Greater, append_assoc, append-nil, length-append, set, T}
use Rattle.std.specs.Ordering.{is_eq, ordering_then}
use Rattle.std.proofs.lemmas.Cmp.{tied_itself}
use Rattle.fs_names.specs.Names.{Name, name_cmp, same_name}
use Rattle.fs_names.specs.Keys.{Key, key_cmp, same_key, after_prefix}
use Rattle.fs_names.proofs.Lemmas.{name_total}

-- what is read where it was written
pub slice_get-set_same : {A : Type 0} (xs : List A) (i : ℕ) (v : A) → i < length xs → slice_get (set xs i v) i ≡ Some v
slice_get-set_same [] i v h = absurd (omega arith)
slice_get-set_same (x ∷ xs) zero v h = refl
slice_get-set_same (x ∷ xs) (suc i) v h = slice_get-set_same xs i v (omega arith)

-- what is read elsewhere
pub slice_get-set_other : {A : Type 0} (xs : List A) (i j : ℕ) (v : A) → (j ≡ i → ⊥) → slice_get (set xs i v) j ≡ slice_get xs j
slice_get-set_other [] i j v h = refl
slice_get-set_other (x ∷ xs) zero zero v h = absurd (h refl)
slice_get-set_other (x ∷ xs) zero (suc j) v h = refl
slice_get-set_other (x ∷ xs) (suc i) zero v h = refl
slice_get-set_other (x ∷ xs) (suc i) (suc j) v h = slice_get-set_other xs i j v (λ e. h (ap suc e))

-- what is read in the front
pub slice_get-front : {A : Type 0} (xs ys : List A) (i : ℕ) → i < length xs → slice_get (xs ++ ys) i ≡ slice_get xs i
slice_get-front [] ys i h = absurd (omega arith)
slice_get-front (x ∷ xs) ys zero h = refl
slice_get-front (x ∷ xs) ys (suc i) h = slice_get-front xs ys i (omega arith)

-- what is read right behind the front
pub slice_get-seam : {A : Type 0} (xs : List A) (y : A) → slice_get (xs ++ y ∷ []) (length xs) ≡ Some y
slice_get-seam [] y = refl
slice_get-seam (x ∷ xs) y = slice_get-seam xs y

-- an induction on one element more, from a front on
pub snoc_steps : {A : Type 0} (P : List A → Type 0) → ((k : List A) (x : A) → P k → P (k ++ x ∷ [])) → (front k : List A) → P front → P (front ++ k)
snoc_steps P step front [] h = subst P (sym (append-nil front)) h
snoc_steps P step front (x ∷ k) h = subst P (append_assoc front (x ∷ []) k) (snoc_steps P step (front ++ x ∷ []) k (step front x h))

-- what holds of no names, and of one name more, holds of all
pub by_last : {A : Type 0} (P : List A → Type 0) → P [] → ((k : List A) (x : A) → P k → P (k ++ x ∷ [])) → (k : List A) → P k
by_last P none step k = snoc_steps P step [] k none

-- a list with an element is not empty
pub no_snoc : {A : Type 0} (k : List A) (x : A) → k ++ x ∷ [] ≡ [] → ⊥
no_snoc [] x e = cc
no_snoc (y ∷ k) x e = cc

-- lists with one element more that are one have one front
pub same_front : {A : Type 0} (a b : List A) (x y : A) → a ++ x ∷ [] ≡ b ++ y ∷ [] → a ≡ b
same_front [] [] x y e = refl
same_front [] (c ∷ b) x y e = absurd (no_snoc b y (let t : [] ≡ b ++ y ∷ [] = cc in sym t))
same_front (c ∷ a) [] x y e = absurd (no_snoc a x (let t : a ++ x ∷ [] ≡ [] = cc in t))
same_front (c ∷ a) (d ∷ b) x y e = let t : a ++ x ∷ [] ≡ b ++ y ∷ [] = cc in let h : c ≡ d = cc in let r = same_front a b x y t in cc

-- the same front decides by the last name
pub same_key-snoc : (d : Key) (x y : Name) → same_key (d ++ x ∷ []) (d ++ y ∷ []) ≡ same_name x y
same_key-snoc [] x y = elim (name_cmp x y) as (λ o. is_eq (ordering_then o Equal) ≡ is_eq o) [ Less ↦ refl | Equal ↦ refl | Greater ↦ refl ]
same_key-snoc (a ∷ d) x y = rw (tied_itself name_total a) (same_key-snoc d x y)

-- what follows a prefix, with one name more
abbrev pub longer : Option Key → Name → Bool → Option Key
longer None y here = cond here (Some []) None
longer (Some r) y here = Some (r ++ y ∷ [])

-- a choice between one thing
either_none : {A : Type 0} (b : Bool) (x : A) → cond b x x ≡ x
either_none true x = refl
either_none false x = refl

-- what follows a prefix of a key with one name more
pub after_prefix-snoc : (p k : Key) (y : Name) → after_prefix p (k ++ y ∷ []) ≡ longer (after_prefix p k) y (same_key p (k ++ y ∷ []))
after_prefix-snoc [] k y = refl
after_prefix-snoc (x ∷ []) [] y = elim (name_cmp x y) as (λ o. cond {A = Option Key} (is_eq o) (Some []) None ≡ cond {A = Option Key} (is_eq (ordering_then o Equal)) (Some []) None) [ Less ↦ refl | Equal ↦ refl | Greater ↦ refl ]
after_prefix-snoc (x ∷ z ∷ p) [] y = elim (name_cmp x y) as (λ o. cond {A = Option Key} (is_eq o) None None ≡ cond {A = Option Key} (is_eq (ordering_then o Greater)) (Some []) None) [ Less ↦ refl | Equal ↦ refl | Greater ↦ refl ]
after_prefix-snoc (x ∷ p) (z ∷ k) y =
    elim (name_cmp x z) as (λ o. cond {A = Option Key} (is_eq o) (after_prefix p (k ++ y ∷ [])) None ≡ longer (cond {A = Option Key} (is_eq o) (after_prefix p k) None) y (is_eq (ordering_then o (key_cmp p (k ++ y ∷ []))))) [
      | Less ↦ refl
      | Equal ↦ after_prefix-snoc p k y
      | Greater ↦ refl
    ]

-- as many elements as there are
pub take_whole : {A : Type 0} (xs : List A) (n : ℕ) → n ≡ length xs → take n xs ≡ xs
take_whole [] zero e = refl
take_whole [] (suc n) e = refl
take_whole (x ∷ xs) zero e = absurd (omega arith)
take_whole (x ∷ xs) (suc n) e = ap (λ z. x ∷ z) (take_whole xs n (omega arith))

-- no list is itself with one element more
pub no_longer : {A : Type 0} (k : List A) (x : A) → k ≡ k ++ x ∷ [] → ⊥
no_longer k x e = let same : length k ≡ length k + 1 = ap length e ∙ length-append k (x ∷ []) in omega arith

-- what is true holds
pub true_T : {b : Bool} → b ≡ true → T b
true_T e = subst T (sym e) tt
