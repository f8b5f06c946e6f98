-- Keys, compared name by name.
use Rattle.std.proofs.Common.{◌≡◌, ◌≢◌, ℕ, zero, suc, ◌+◌, ◌<◌, ◌≤◌, min, [], ◌∷◌, length, drop, get_or, refl, sym, ap, ◌∙◌, arith, Ordering, Less, Equal, Greater}
use Rattle.std.specs.Ordering.{ordering_then, nat_cmp, MatchOrdering}
use Rattle.std.specs.Cmp.{nat_cmp_is, ranked}
use Rattle.fs_names.specs.Names.{Name, name_cmp}
use Rattle.fs_names.specs.Keys.{Key, key_cmp}

-- a key from a place on
cut : (p : Key) (i : ℕ) (x : Name) → i < length p → x ≡ get_or p i x → drop i p ≡ x ∷ drop (i + 1) p
cut [] i x h here = absurd (omega arith)
cut (y ∷ p) zero x h here = ap (λ z. z ∷ p) (sym here)
cut (y ∷ p) (suc i) x h here = let s : suc (i + 1) ≡ suc i + 1 = omega arith in cut p i x (omega arith) here ∙ ap (λ m. x ∷ drop m (y ∷ p)) s

-- how two keys stand from a place on, by their names there
by_name : (p k : Key) (i : ℕ) (x y : Name) (o : Ordering) → i < length p → i < length k → x ≡ get_or p i x → y ≡ get_or k i y → o ≡ name_cmp x y
    → key_cmp (drop i p) (drop i k) ≡ ordering_then o (key_cmp (drop (i + 1) p) (drop (i + 1) k))
by_name p k i x y o short long here there is =
    (λ j. key_cmp (cut p i x short here j) (cut k i y long there j)) ∙ ap (λ r. ordering_then r (key_cmp (drop (i + 1) p) (drop (i + 1) k))) (sym is)

-- where the names are one, the rest decides
pub order_on : (p k : Key) (i : ℕ) (x y : Name) (o : Ordering) → i < length p → i < length k → x ≡ get_or p i x → y ≡ get_or k i y → o ≡ name_cmp x y → o ≡ Equal → key_cmp (drop i p) (drop i k) ≡ key_cmp p k
    → key_cmp (drop (i + 1) p) (drop (i + 1) k) ≡ key_cmp p k
order_on p k i x y o short long here there is same so_far =
    sym (by_name p k i x y o short long here there is ∙ ap (λ r. ordering_then r (key_cmp (drop (i + 1) p) (drop (i + 1) k))) same) ∙ so_far

-- and else they do
decides : (o rest : Ordering) → o ≢ Equal → ordering_then o rest ≡ o
decides Less rest other = refl
decides Equal rest other = absurd (other refl)
decides Greater rest other = refl

pub order_off : (p k : Key) (i : ℕ) (x y : Name) (o : Ordering) → i < length p → i < length k → x ≡ get_or p i x → y ≡ get_or k i y → o ≡ name_cmp x y → o ≢ Equal → key_cmp (drop i p) (drop i k) ≡ key_cmp p k
    → o ≡ key_cmp p k
order_off p k i x y o short long here there is other so_far = sym (decides o (key_cmp (drop (i + 1) p) (drop (i + 1) k)) other) ∙ sym (by_name p k i x y o short long here there is) ∙ so_far

-- at the end of either key their lengths decide
one_less : (a b : ℕ) (o : Ordering) → nat_cmp a b ≡ o → nat_cmp (suc a) (suc b) ≡ o
one_less a b o e = sym (nat_cmp_is (suc a) (suc b) o (more o (ranked a b o (sym e))))
  where
    more : (o : Ordering) → MatchOrdering o (a < b) (a ≡ b) (b < a) → MatchOrdering o (suc a < suc b) (suc a ≡ suc b) (suc b < suc a)
    more Less h = let l : a < b = h in omega arith
    more Equal h = ap suc h
    more Greater h = let l : b < a = h in omega arith

by_lengths : (p k : Key) (i : ℕ) → i ≡ min (length p) (length k) → nat_cmp (length p) (length k) ≡ key_cmp (drop i p) (drop i k)
by_lengths [] [] zero e = refl
by_lengths [] [] (suc i) e = refl
by_lengths [] (y ∷ k) zero e = sym (nat_cmp_is 0 (suc (length k)) Less (omega arith))
by_lengths [] (y ∷ k) (suc i) e = absurd (omega arith)
by_lengths (x ∷ p) [] zero e = sym (nat_cmp_is (suc (length p)) 0 Greater (omega arith))
by_lengths (x ∷ p) [] (suc i) e = absurd (omega arith)
by_lengths (x ∷ p) (y ∷ k) zero e = absurd (omega arith)
by_lengths (x ∷ p) (y ∷ k) (suc i) e = one_less (length p) (length k) _ refl ∙ by_lengths p k i (omega arith)

pub order_end : (p k : Key) (i most : ℕ) (r : Ordering) → most ≡ min (length p) (length k) → i ≤ most → most ≤ i → r ≡ nat_cmp (length p) (length k) → key_cmp (drop i p) (drop i k) ≡ key_cmp p k → r ≡ key_cmp p k
order_end p k i most r is within past e so_far = e ∙ by_lengths p k i (omega arith) ∙ so_far
