-- Lists that grow at their ends, and lists of which one item changes.
use Rattle.std.proofs.Common.{ℕ, zero, suc, ◌≡◌, ◌+◌, ◌<◌, ◌==◌, Bool, true, false, if◌then◌else◌, List, [], ◌∷◌, ◌++◌, length, map, get_or, set, refl, sym, ap, ◌∙◌, subst, arith, append-nil, true≢false, eqb-true, eq-eqb}
use Rattle.std.specs.List.{flat_map, range_with_len}
use Rattle.std.proofs.lemmas.List.FromFn.{map-range_with_len_more}
use Rattle.std.proofs.lemmas.Grind.{flat_map-append}

range_last : (a n : ℕ) → range_with_len a (suc n) ≡ range_with_len a n ++ (a + n) ∷ []
range_last a zero = let same : a ≡ a + 0 = omega arith in ap (λ k. k ∷ []) same
range_last a (suc n) = let same : (a + 1) + n ≡ a + suc n = omega arith in ap (λ l. a ∷ l) (range_last (a + 1) n ∙ ap (λ k. range_with_len (a + 1) n ++ k ∷ []) same)

pub flat_more : {A : Type 0} (f : ℕ → List A) (n : ℕ) → flat_map f (range_with_len 0 (n + 1)) ≡ flat_map f (range_with_len 0 n) ++ f n
flat_more f n =
    let on : n + 1 ≡ suc n = omega arith in
    let at : 0 + n ≡ n = omega arith in
    ap (λ k. flat_map f (range_with_len 0 k)) on ∙ ap (flat_map f) (range_last 0 n) ∙ flat_map-append f (range_with_len 0 n) ((0 + n) ∷ [])
    ∙ ap (λ k. flat_map f (range_with_len 0 n) ++ k) (append-nil (f (0 + n)) ∙ ap f at)

pub map_more : {A : Type 0} (f : ℕ → A) (n : ℕ) → map f (range_with_len 0 (n + 1)) ≡ map f (range_with_len 0 n) ++ f n ∷ []
map_more f n = map-range_with_len_more f 0 n n (omega arith)

-- ---- what an index finds where one item was changed

same_at : {V A : Type 0} (f : V → List A) (xs : List V) (i : ℕ) (y : V) → i < length xs → get_or (map f (set xs i y)) i [] ≡ f y
same_at f [] i y less = absurd (omega (arith, less))
same_at f (x ∷ xs) zero y less = refl
same_at f (x ∷ xs) (suc i) y less = same_at f xs i y (let z : suc i < suc (length xs) = less in omega (arith, z))

here_at : {V A : Type 0} (f : V → List A) (xs : List V) (i : ℕ) (d : V) → i < length xs → f (get_or xs i d) ≡ get_or (map f xs) i []
here_at f [] i d less = absurd (omega (arith, less))
here_at f (x ∷ xs) zero d less = refl
here_at f (x ∷ xs) (suc i) d less = here_at f xs i d (let z : suc i < suc (length xs) = less in omega (arith, z))

other_at : {V A : Type 0} (f : V → List A) (xs : List V) (i j : ℕ) (y : V) → (j ≡ i → ⊥) → get_or (map f (set xs i y)) j [] ≡ get_or (map f xs) j []
other_at f [] i j y differ = refl
other_at f (x ∷ xs) zero zero y differ = absurd (differ refl)
other_at f (x ∷ xs) zero (suc j) y differ = refl
other_at f (x ∷ xs) (suc i) zero y differ = refl
other_at f (x ∷ xs) (suc i) (suc j) y differ = other_at f xs i j y (λ e. differ (ap suc e))

pub set_pushed : {V : Type 0} (f : V → List ℕ) (xs : List V) (y d : V) (i c j : ℕ) → i < length xs → f y ≡ f (get_or xs i d) ++ c ∷ [] → get_or (map f (set xs i y)) j [] ≡ (if j == i then get_or (map f xs) j [] ++ c ∷ [] else get_or (map f xs) j [])
set_pushed f xs y d i c j less is = by (j == i) refl
  where
    by : (b : Bool) → (j == i) ≡ b → get_or (map f (set xs i y)) j [] ≡ (if b then get_or (map f xs) j [] ++ c ∷ [] else get_or (map f xs) j [])
    by true e =
        let at : i ≡ j = sym (eqb-true j i e) in
        subst (λ k. get_or (map f (set xs i y)) k [] ≡ get_or (map f xs) k [] ++ c ∷ []) at (same_at f xs i y less ∙ is ∙ ap (λ l. l ++ c ∷ []) (here_at f xs i d less))
    by false e = other_at f xs i j y (λ same. true≢false (sym (eq-eqb j i same) ∙ e))
