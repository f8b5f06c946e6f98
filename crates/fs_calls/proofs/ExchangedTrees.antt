-- What stands at a key after an exchange.
use Rattle.std.proofs.Common.{◌≡◌, Bool, true, false, cond, List, [], ◌∷◌, ◌++◌, map, Some, None, Option, refl, sym, ap, ◌∙◌, T}
use Rattle.std.specs.FinMap.{find, is_sorted}
use Rattle.fs_names.specs.Keys.{Key, key_cmp, same_key, after_prefix}
use Rattle.fs_names.proofs.Lemmas.{after_prefix-exact, after_prefix-append}
use Rattle.fs_calls.specs.Tree.{Node, Tree, look, exchanged, exchanged_key, moved_key, with_prefix}
use Rattle.fs_calls.proofs.LookLemmas.{same_key_exact, same_key_refl, look-find, look-from_list, sorted-from_list}
use Rattle.fs_calls.proofs.KeyLemmas.{longer_front}

-- neither key is a prefix of the other
pub record Beside (p q : Key) : Type 0 where
  pub there : after_prefix p q ≡ None
  pub back : after_prefix q p ≡ None

-- nor of one below the other
below_other : (p q r : Key) → Beside p q → after_prefix p (q ++ r) ≡ None
below_other p q r apart = by_case (after_prefix p (q ++ r)) refl
  where
    by_case : (a : Option Key) → after_prefix p (q ++ r) ≡ a → a ≡ None
    by_case None e = refl
    by_case (Some s) e =
        let longer = longer_front q p r s (after_prefix-exact p (q ++ r) s e) apart.back in
        let some : after_prefix p q ≡ Some (longer.0 ∷ longer.1) = ap (after_prefix p) longer.2 ∙ after_prefix-append p (longer.0 ∷ longer.1) in
        let none = apart.there in
        absurd (cc)

-- a key below p comes to lie below q
pub exchanged-first : (p q r : Key) → exchanged_key p q (p ++ r) ≡ q ++ r
exchanged-first p q r = ap (with_prefix q (moved_key q p (p ++ r))) (after_prefix-append p r)

-- and one below q below p
pub exchanged-second : (p q r : Key) → Beside p q → exchanged_key p q (q ++ r) ≡ p ++ r
exchanged-second p q r apart = ap (with_prefix q (moved_key q p (q ++ r))) (below_other p q r apart) ∙ ap (with_prefix p (q ++ r)) (after_prefix-append q r)

-- any other key stays
pub exchanged-other : (p q k : Key) → after_prefix p k ≡ None → after_prefix q k ≡ None → exchanged_key p q k ≡ k
exchanged-other p q k not_p not_q = ap (with_prefix q (moved_key q p k)) not_p ∙ ap (with_prefix p k) not_q

-- a key exchanged twice is the same again
pub exchanged-twice : (p q k : Key) → Beside p q → exchanged_key p q (exchanged_key p q k) ≡ k
exchanged-twice p q k apart = by_case (after_prefix p k) (after_prefix q k) refl refl
  where
    by_case : (a b : Option Key) → after_prefix p k ≡ a → after_prefix q k ≡ b → exchanged_key p q (exchanged_key p q k) ≡ k
    by_case (Some r) b at bt =
        let old : k ≡ p ++ r = after_prefix-exact p k r at in
        ap (exchanged_key p q) (ap (exchanged_key p q) old ∙ exchanged-first p q r) ∙ exchanged-second p q r apart ∙ sym old
    by_case None (Some r) at bt =
        let old : k ≡ q ++ r = after_prefix-exact q k r bt in
        ap (exchanged_key p q) (ap (exchanged_key p q) old ∙ exchanged-second p q r apart) ∙ exchanged-first p q r ∙ sym old
    by_case None None at bt =
        let same : exchanged_key p q k ≡ k = exchanged-other p q k at bt in
        ap (exchanged_key p q) same ∙ same

-- tests of which each follows from the other are one
either_way : (a b : Bool) → (a ≡ true → b ≡ true) → (b ≡ true → a ≡ true) → a ≡ b
either_way true b there back = sym (there refl)
either_way false true there back = back refl
either_way false false there back = refl

-- a key is an exchanged one where, exchanged, it is the old one
same_exchanged : (p q k e : Key) → Beside p q → same_key k (exchanged_key p q e) ≡ same_key (exchanged_key p q k) e
same_exchanged p q k e apart = either_way (same_key k (exchanged_key p q e)) (same_key (exchanged_key p q k) e)
    (λ h. ap (λ z. same_key z e) (ap (exchanged_key p q) (same_key_exact k (exchanged_key p q e) h) ∙ exchanged-twice p q e apart) ∙ same_key_refl e)
    (λ h. ap (λ z. same_key k (exchanged_key p q z)) (sym (same_key_exact (exchanged_key p q k) e h)) ∙ ap (same_key k) (exchanged-twice p q k apart) ∙ same_key_refl k)

-- entries with exchanged keys
abbrev swapped : Key → Key → List (Key × Node) → List (Key × Node)
swapped p q es = map (λ e. (exchanged_key p q e.0, e.1)) es

-- one step of a search
abbrev step : Bool → Node → Option Node → Option Node
step b n rest = cond {A = Option Node} b (Some n) rest

-- among them is found what was found at the exchanged key
find-swapped : (p q k : Key) (es : List (Key × Node)) → Beside p q → find key_cmp k (swapped p q es) ≡ find key_cmp (exchanged_key p q k) es
find-swapped p q k [] apart = refl
find-swapped p q k (e ∷ es) apart = λ i. step (same_exchanged p q k e.0 apart i) e.1 (find-swapped p q k es apart i)

-- after an exchange a key has what stood at the exchanged key
pub look-exchanged : (t : Tree) (p q k : Key) → Beside p q → look (exchanged t p q) k ≡ look t (exchanged_key p q k)
unfolding exchanged
look-exchanged t p q k apart = look-from_list (swapped p q t) k ∙ find-swapped p q k t apart ∙ sym (look-find t (exchanged_key p q k))

-- the keys of such a tree rise
pub sorted-exchanged : (t : Tree) (p q : Key) → T (is_sorted key_cmp (exchanged t p q))
unfolding exchanged
sorted-exchanged t p q = sorted-from_list (swapped p q t)
