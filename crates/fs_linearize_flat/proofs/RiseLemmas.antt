-- Entries that rise, and others behind them.
use Rattle.std.proofs.Common.{◌≡◌, ◌-◌, ◌<◌, true, false, cond, [], ◌∷◌, ◌++◌, length, get_or, Some, None, Option, refl, sym, ap, subst, ◌∙◌, arith, T, append-nil, Less}
use Rattle.std.specs.Prelude.{nat_eq}
use Rattle.std.specs.Ordering.{is_lt, is_eq}
use Rattle.std.specs.FinMap.{is_sorted, find}
use Rattle.std.specs.FinMap.Entries.{below_all}
use Rattle.std.proofs.lemmas.Bool.Decides.{nat_tests}
use Rattle.fs_names.specs.Keys.{Key, key_cmp, same_key}
use Rattle.fs_names.proofs.Lemmas.{key_exact, equal_from_is_eq}
use Rattle.fs_calls.specs.Tree.{Node, Tree}
use Rattle.fs_linearize_flat.proofs.SearchLemmas.{below_rising, is_less, both_first, both_second, both, true_T, T_true}

-- an entry of a tree
abbrev Cell : Type 0
Cell = Key × Node

-- ---- no entries

pub empty_joins : (t u : Tree) → nat_eq (length t) 0 ≡ true → is_sorted key_cmp u ≡ true → is_sorted key_cmp (t ++ u) ≡ true
empty_joins [] u h g = g
empty_joins (l ∷ t) u h g = absurd (let none : length (l ∷ t) ≡ 0 = grind (arith, nat_tests) in omega arith)

pub joins_empty : (t u : Tree) → nat_eq (length u) 0 ≡ true → is_sorted key_cmp t ≡ true → is_sorted key_cmp (t ++ u) ≡ true
joins_empty t [] h g = ap (is_sorted key_cmp) (append-nil t) ∙ g
joins_empty t (l ∷ u) h g = absurd (let none : length (l ∷ u) ≡ 0 = grind (arith, nat_tests) in omega arith)

-- ---- entries that end below others

-- a key below all of two lists
below_both : (x : Key) (t u : Tree) → T (below_all key_cmp x t) → T (below_all key_cmp x u) → T (below_all key_cmp x (t ++ u))
below_both x [] u h g = g
below_both x (l ∷ t) u h g = both _ _ (both_first _ _ h) (below_both x t u (both_second _ _ h) g)

-- the last of rising entries is below others: so is each
joined : (t : Tree) (l : Cell) (u : Tree) (m d : Cell) → T (is_sorted key_cmp (l ∷ t)) → T (is_sorted key_cmp (m ∷ u)) → key_cmp (get_or (l ∷ t) (length t) d).0 m.0 ≡ Less → T (is_sorted key_cmp ((l ∷ t) ++ m ∷ u))
joined [] l u m d rise other less = both _ _ (both _ _ (subst (λ o. T (is_lt o)) (sym less) tt) (below_rising l.0 m.0 u less (both_first _ _ other))) other
joined (k ∷ t) l u m d rise other less =
    let rest : T (is_sorted key_cmp ((k ∷ t) ++ m ∷ u)) = joined t k u m d (both_second _ _ rise) other less in
    let near : T (is_lt (key_cmp l.0 k.0)) = both_first _ _ (both_first _ _ rise) in
    both _ _ (both _ _ near (below_rising l.0 k.0 (t ++ m ∷ u) (is_less _ near) (both_first _ _ rest))) rest

pub joins_rise : (t u : Tree) (a b : Cell) → 0 < length t → 0 < length u → a ≡ get_or t (length t - 1) a → b ≡ get_or u 0 b → key_cmp a.0 b.0 ≡ Less → is_sorted key_cmp t ≡ true → is_sorted key_cmp u ≡ true → is_sorted key_cmp (t ++ u) ≡ true
joins_rise [] u a b h g here there less rise other = absurd (omega arith)
joins_rise (l ∷ t) [] a b h g here there less rise other = absurd (omega arith)
joins_rise (l ∷ t) (m ∷ u) a b h g here there less rise other =
    let s : length t ≡ length (l ∷ t) - 1 = omega arith in
    let last : get_or (l ∷ t) (length t) a ≡ a = ap (λ n. get_or (l ∷ t) n a) s ∙ sym here in
    T_true _ (joined t l u m a (true_T _ rise) (true_T _ other) (ap (λ (c : Cell). key_cmp c.0 m.0) last ∙ ap (λ (c : Cell). key_cmp a.0 c.0) (sym there) ∙ less))

-- ---- what is found among them

-- a key that is below all is not found
missed : (k : Key) (t : Tree) → T (below_all key_cmp k t) → find key_cmp k t ≡ None
missed k [] h = refl
missed k (e ∷ t) h = ap (λ o. cond {A = Option Node} (is_eq o) (Some e.1) (find key_cmp k t)) (is_less _ (both_first _ _ h)) ∙ missed k t (both_second _ _ h)

-- a key below all of two lists is below all of the second
below_second : (x : Key) (t u : Tree) → T (below_all key_cmp x (t ++ u)) → T (below_all key_cmp x u)
below_second x [] u h = h
below_second x (l ∷ t) u h = below_second x t u (both_second _ _ h)

-- what is found among the first is not among those behind them
pub apart : (t u : Tree) (k : Key) (n : Node) → T (is_sorted key_cmp (t ++ u)) → find key_cmp k t ≡ Some n → find key_cmp k u ≡ None
apart [] u k n rise h = absurd (cc)
apart (l ∷ t) u k n rise h =
    elim (same_key k l.0) as (λ b. same_key k l.0 ≡ b → cond {A = Option Node} b (Some l.1) (find key_cmp k t) ≡ Some n → find key_cmp k u ≡ None) [
      | true ↦ λ s g. ap (λ z. find key_cmp z u) (key_exact k l.0 (equal_from_is_eq _ s)) ∙ missed l.0 u (below_second l.0 t u (both_first _ _ rise))
      | false ↦ λ s g. apart t u k n (both_second _ _ rise) g
    ] refl h

-- the second of two lists that rise
pub second_rises : (t u : Tree) → T (is_sorted key_cmp (t ++ u)) → T (is_sorted key_cmp u)
second_rises [] u h = h
second_rises (l ∷ t) u h = second_rises t u (both_second _ _ h)
