-- Keys, taken apart.
use Rattle.std.proofs.Common.{◌≡◌, ◌≢◌, ℕ, zero, suc, ◌+◌, ◌-◌, ◌<◌, ◌≤◌, true, false, cond, List, [], ◌∷◌, ◌++◌, length, take, drop, get_or, slice_get, Some, None, Option, is_some, refl, sym, ap, ◌∙◌, arith, length-append}
use Rattle.std.proofs.lemmas.List.{take_all}
use Rattle.fs_names.specs.Names.{Name, same_name}
use Rattle.fs_names.specs.Keys.{Key, after_prefix, parent_of}
use Rattle.fs_names.proofs.Lemmas.{after_prefix-exact}
use Rattle.fs_calls.specs.Tree.{name_in, only_name}

-- all names but the last
pub parent_take : (k : Key) → take (length k - 1) k ≡ parent_of k
parent_take [] = refl
parent_take (x ∷ []) = refl
parent_take (x ∷ y ∷ k) = let e : length (x ∷ y ∷ k) - 1 ≡ suc (length (y ∷ k) - 1) = omega arith in ap (λ n. take n (x ∷ y ∷ k)) e ∙ ap (λ z. x ∷ z) (parent_take (y ∷ k))

-- what is longer is no prefix
pub too_short : (p k : Key) → length k < length p → false ≡ is_some (after_prefix p k)
too_short p k h = go (after_prefix p k) refl
  where
    go : (o : Option Key) → after_prefix p k ≡ o → false ≡ is_some o
    go None e = refl
    go (Some r) e = let l : length k ≡ length p + length r = ap length (after_prefix-exact p k r e) ∙ length-append p r in absurd (omega arith)

-- what is left without a front
drop_front : {A : Type 0} (p r : List A) → drop (length p) (p ++ r) ≡ r
drop_front [] r = refl
drop_front (x ∷ p) r = drop_front p r

-- what follows a prefix is what is left without it
pub follows : (p k : Key) → is_some (after_prefix p k) ≡ true → Some (take (length k - length p) (drop (length p) k)) ≡ after_prefix p k
follows p k h = go (after_prefix p k) refl h
  where
    go : (o : Option Key) → after_prefix p k ≡ o → is_some o ≡ true → Some (take (length k - length p) (drop (length p) k)) ≡ o
    go None e h = absurd (cc)
    go (Some r) e h =
        let l : length k ≡ length p + length r = ap length (after_prefix-exact p k r e) ∙ length-append p r in
        ap Some (ap (take (length k - length p)) (ap (drop (length p)) (after_prefix-exact p k r e) ∙ drop_front p r) ∙ take_all (length k - length p) r (omega (arith, l)))

-- what is no prefix is followed by nothing
pub follows_not : (p k : Key) → is_some (after_prefix p k) ≡ false → None ≡ after_prefix p k
follows_not p k h = go (after_prefix p k) h
  where
    go : (o : Option Key) → is_some o ≡ false → None ≡ o
    go None h = refl
    go (Some r) h = absurd (cc)

-- what has not one name more than a directory is no entry of it
pub no_entry : (d k : Key) → length k ≢ length d + 1 → ◌≡◌ {A = Option Name} None (name_in d k)
no_entry d k h = go (after_prefix d k) refl
  where
    go : (o : Option Key) → after_prefix d k ≡ o → ◌≡◌ {A = Option Name} None (only_name o)
    go None e = refl
    go (Some []) e = refl
    go (Some (x ∷ [])) e = let l : length k ≡ length d + 1 = ap length (after_prefix-exact d k (x ∷ []) e) ∙ length-append d (x ∷ []) in absurd (h l)
    go (Some (x ∷ y ∷ r)) e = refl

-- the front of a list with one element more
pub take_next : {A : Type 0} (xs : List A) (i : ℕ) (x : A) → slice_get xs i ≡ Some x → take (i + 1) xs ≡ take i xs ++ x ∷ []
take_next [] i x e = absurd (cc)
take_next (y ∷ xs) zero x e = let same : y ≡ x = cc in ap (λ z. z ∷ []) same
take_next (y ∷ xs) (suc i) x e = let s : suc i + 1 ≡ suc (i + 1) = omega arith in ap (λ n. take n (y ∷ xs)) s ∙ ap (λ z. y ∷ z) (take_next xs i x e)

-- two lists are the same up to one element more
pub same_next : {A : Type 0} (xs ys : List A) (i : ℕ) (x y : A) → i < length xs → i < length ys → x ≡ get_or xs i x → y ≡ get_or ys i y → x ≡ y → take i xs ≡ take i ys → take (i + 1) xs ≡ take (i + 1) ys
same_next xs ys i x y small short here there same so_far = front xs i x small here ∙ (λ j. so_far j ++ same j ∷ []) ∙ sym (front ys i y short there)
  where
    front : {A : Type 0} (xs : List A) (i : ℕ) (x : A) → i < length xs → x ≡ get_or xs i x → take (i + 1) xs ≡ take i xs ++ x ∷ []
    front [] i x h e = absurd (omega arith)
    front (y ∷ xs) zero x h e = ap (λ z. z ∷ []) (sym e)
    front (y ∷ xs) (suc i) x h e = let s : suc i + 1 ≡ suc (i + 1) = omega arith in ap (λ n. take n (y ∷ xs)) s ∙ ap (λ z. y ∷ z) (front xs i x (omega arith) e)

-- two lists of one length are the same where their fronts are
pub same_all : {A : Type 0} (xs ys : List A) (i : ℕ) → length xs ≡ length ys → length xs ≤ i → take i xs ≡ take i ys → xs ≡ ys
same_all xs ys i lengths past so_far = sym (take_all i xs past) ∙ so_far ∙ take_all i ys (omega (arith, lengths, past))

-- a list from a place on
pub drop_next : {A : Type 0} (xs : List A) (n : ℕ) (d : A) → n < length xs → drop n xs ≡ get_or xs n d ∷ drop (n + 1) xs
drop_next [] n d h = absurd (omega arith)
drop_next (x ∷ xs) zero d h = refl
drop_next (x ∷ xs) (suc n) d h = let s : suc (n + 1) ≡ suc n + 1 = omega arith in drop_next xs n d (omega arith) ∙ ap (λ m. get_or xs n d ∷ drop m (x ∷ xs)) s

-- ---- prefixes, name by name

-- what follows a prefix, by one name more
by_name : (p k : Key) (i : ℕ) (x y : Name) → i < length p → i < length k → x ≡ get_or p i x → y ≡ get_or k i y
    → after_prefix (drop i p) (drop i k) ≡ cond {A = Option Key} (same_name x y) (after_prefix (drop (i + 1) p) (drop (i + 1) k)) None
by_name p k i x y short long here there =
    let a : drop i p ≡ x ∷ drop (i + 1) p = drop_next p i x short ∙ ap (λ z. z ∷ drop (i + 1) p) (sym here) in
    let b : drop i k ≡ y ∷ drop (i + 1) k = drop_next k i y long ∙ ap (λ z. z ∷ drop (i + 1) k) (sym there) in
    λ j. after_prefix (a j) (b j)

pub prefix_on : (p k : Key) (i : ℕ) (x y : Name) → i < length p → i < length k → x ≡ get_or p i x → y ≡ get_or k i y → same_name x y ≡ true → after_prefix (drop i p) (drop i k) ≡ after_prefix p k
    → after_prefix (drop (i + 1) p) (drop (i + 1) k) ≡ after_prefix p k
prefix_on p k i x y short long here there same so_far =
    sym (by_name p k i x y short long here there ∙ ap (λ b. cond {A = Option Key} b (after_prefix (drop (i + 1) p) (drop (i + 1) k)) None) same) ∙ so_far

pub prefix_off : (p k : Key) (i : ℕ) (x y : Name) → i < length p → i < length k → x ≡ get_or p i x → y ≡ get_or k i y → same_name x y ≡ false → after_prefix (drop i p) (drop i k) ≡ after_prefix p k
    → false ≡ is_some (after_prefix p k)
prefix_off p k i x y short long here there other so_far =
    sym (ap is_some (sym so_far ∙ by_name p k i x y short long here there ∙ ap (λ b. cond {A = Option Key} b (after_prefix (drop (i + 1) p) (drop (i + 1) k)) None) other))

pub prefix_end : (p k : Key) (i : ℕ) → length p ≤ i → after_prefix (drop i p) (drop i k) ≡ after_prefix p k → true ≡ is_some (after_prefix p k)
prefix_end p k i past so_far = ap (λ q. is_some (after_prefix q (drop i k))) (sym (none_left p i past)) ∙ ap is_some so_far
  where
    none_left : (p : Key) (i : ℕ) → length p ≤ i → drop i p ≡ []
    none_left [] zero h = refl
    none_left [] (suc i) h = refl
    none_left (x ∷ p) zero h = absurd (omega arith)
    none_left (x ∷ p) (suc i) h = none_left p i (omega arith)
