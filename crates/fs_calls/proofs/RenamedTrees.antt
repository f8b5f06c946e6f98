-- What stands at a key after a rename.
use Rattle.std.proofs.Common.{◌≡◌, Bool, true, false, cond, List, [], ◌∷◌, ◌++◌, map, Some, None, Option, refl, sym, ap, ◌∙◌, append-nil, T}
use Rattle.std.specs.FinMap.{find, is_sorted}
use Rattle.fs_names.specs.Names.{Name}
use Rattle.fs_names.specs.Keys.{Key, key_cmp, same_key, after_prefix}
use Rattle.fs_names.proofs.Lemmas.{after_prefix-exact, after_prefix-append}
use Rattle.fs_calls.specs.Tree.{Node, Tree, look, removed, renamed, moved_key, with_prefix}
use Rattle.fs_calls.proofs.LookLemmas.{same_key_exact, same_key_refl, same_key_equiv, look-find, look-removed, look-from_list, sorted-from_list}
use Rattle.fs_calls.proofs.KeyLemmas.{no_true, same_key-prefix, after_prefix-itself}

-- a key with the prefix p is none without it
apart : (p k e : Key) (r : Key) → after_prefix p k ≡ Some r → after_prefix p e ≡ None → same_key k e ≡ false
apart p k e r a b = no_true (same_key k e) (λ same. let c : after_prefix p e ≡ Some r = ap (after_prefix p) (sym (same_key_exact k e same)) ∙ a in absurd (cc))

-- and a key without it is none with it
apart_back : (p k e : Key) (r : Key) → after_prefix p k ≡ None → after_prefix p e ≡ Some r → same_key k e ≡ false
apart_back p k e r a b = same_key_equiv.symm k e ∙ apart p e k r b a

-- entries whose keys get the prefix q in the place of p
abbrev moved : Key → Key → List (Key × Node) → List (Key × Node)
moved p q es = map (λ e. (moved_key p q e.0, e.1)) es

-- one step of a search
abbrev step : Bool → Node → Option Node → Option Node
step b n rest = cond {A = Option Node} b (Some n) rest

-- the test that finds q ++ r among the moved keys finds p ++ r among the old ones
test_in : (p q r e : Key) (a : Option Key) → after_prefix p e ≡ a → same_key (q ++ r) e ≡ false → same_key (q ++ r) (with_prefix q e a) ≡ same_key (p ++ r) e
test_in p q r e None at other = other ∙ sym (apart p (p ++ r) e r (after_prefix-append p r) at)
test_in p q r e (Some s) at other = same_key-prefix q r s ∙ sym (same_key-prefix p r s) ∙ ap (same_key (p ++ r)) (sym (after_prefix-exact p e s at))

-- a search that finds nothing finds nothing at its first step, and nothing later
here_none : (b : Bool) (n : Node) (rest : Option Node) → step b n rest ≡ None → (b ≡ false) × (rest ≡ None)
here_none true n rest h = absurd (cc)
here_none false n rest h = (refl, h)

-- below q is found what was found below p
find_in : (p q r : Key) (es : List (Key × Node)) → find key_cmp (q ++ r) es ≡ None → find key_cmp (q ++ r) (moved p q es) ≡ find key_cmp (p ++ r) es
find_in p q r [] none = refl
find_in p q r (e ∷ es) none =
    let gone = here_none (same_key (q ++ r) e.0) e.1 (find key_cmp (q ++ r) es) none in
    λ i. step (test_in p q r e.0 (after_prefix p e.0) refl gone.0 i) e.1 (find_in p q r es gone.1 i)

-- below p nothing is found but what is below q
test_out : (p q k r e : Key) (a : Option Key) → after_prefix q k ≡ None → after_prefix p k ≡ Some r → after_prefix p e ≡ a → same_key k (with_prefix q e a) ≡ false
test_out p q k r e None nq at b = apart p k e r at b
test_out p q k r e (Some s) nq at b = apart_back q k (q ++ s) s nq (after_prefix-append q s)

-- so nothing is found below p
find_out : (p q k r : Key) (es : List (Key × Node)) → after_prefix q k ≡ None → after_prefix p k ≡ Some r → find key_cmp k (moved p q es) ≡ None
find_out p q k r [] nq at = refl
find_out p q k r (e ∷ es) nq at = λ i. step (test_out p q k r e.0 (after_prefix p e.0) nq at refl i) e.1 (find_out p q k r es nq at i)

-- elsewhere the same is found
test_other : (p q k e : Key) (a : Option Key) → after_prefix q k ≡ None → after_prefix p k ≡ None → after_prefix p e ≡ a → same_key k (with_prefix q e a) ≡ same_key k e
test_other p q k e None nq np at = refl
test_other p q k e (Some s) nq np at = apart_back q k (q ++ s) s nq (after_prefix-append q s) ∙ sym (apart_back p k e s np at)

-- and the same is found
find_other : (p q k : Key) (es : List (Key × Node)) → after_prefix q k ≡ None → after_prefix p k ≡ None → find key_cmp k (moved p q es) ≡ find key_cmp k es
find_other p q k [] nq np = refl
find_other p q k (e ∷ es) nq np = λ i. step (test_other p q k e.0 (after_prefix p e.0) nq np refl i) e.1 (find_other p q k es nq np i)

-- the keys of a renamed tree rise
pub sorted-renamed : (t : Tree) (p q : Key) → T (is_sorted key_cmp (renamed t p q))
unfolding renamed
sorted-renamed t p q = sorted-from_list (moved p q (removed t q))

-- what stands at k after the rename, by what follows q and p in k
abbrev pub after_move : Tree → Key → Key → Option Key → Option Key → Option Node
after_move t p k (Some rest) under_p = look t (p ++ rest)
after_move t p k None (Some rest) = None
after_move t p k None None = look t k

-- one of two, of which neither is a node
either_none : (b : Bool) (o : Option Node) → o ≡ None → cond {A = Option Node} b None o ≡ None
either_none true o e = refl
either_none false o e = e

-- with q gone, nothing stands at q or below
gone_below : (t : Tree) (q r : Key) → ((x : Name) (s : Key) → look t (q ++ x ∷ s) ≡ None) → look (removed t q) (q ++ r) ≡ None
gone_below t q [] empty = look-removed t q (q ++ []) ∙ ap (λ b. cond {A = Option Node} b None (look t (q ++ []))) (ap (λ k. same_key k q) (append-nil q) ∙ same_key_refl q)
gone_below t q (x ∷ s) empty = look-removed t q (q ++ x ∷ s) ∙ either_none (same_key (q ++ x ∷ s) q) (look t (q ++ x ∷ s)) (empty x s)

-- what stands elsewhere stays when q goes
kept : (t : Tree) (q k : Key) → same_key k q ≡ false → look (removed t q) k ≡ look t k
kept t q k other = look-removed t q k ∙ ap (λ b. cond {A = Option Node} b None (look t k)) other

-- where p is no prefix of q and nothing stands below q
pub look-renamed : (t : Tree) (p q k : Key) → after_prefix p q ≡ None → ((x : Name) (s : Key) → look t (q ++ x ∷ s) ≡ None) → look (renamed t p q) k ≡ after_move t p k (after_prefix q k) (after_prefix p k)
unfolding renamed
look-renamed t p q k beside empty = look-from_list (moved p q (removed t q)) k ∙ by_case (after_prefix q k) (after_prefix p k) refl refl
  where
    by_case : (a b : Option Key) → after_prefix q k ≡ a → after_prefix p k ≡ b → find key_cmp k (moved p q (removed t q)) ≡ after_move t p k a b
    by_case (Some r) b at bt =
        ap (λ z. find key_cmp z (moved p q (removed t q))) (after_prefix-exact q k r at)
        ∙ find_in p q r (removed t q) (sym (look-find (removed t q) (q ++ r)) ∙ gone_below t q r empty)
        ∙ sym (look-find (removed t q) (p ++ r))
        ∙ kept t q (p ++ r) (apart p (p ++ r) q r (after_prefix-append p r) beside)
    by_case None (Some r) at bt = find_out p q k r (removed t q) at bt
    by_case None None at bt =
        find_other p q k (removed t q) at bt
        ∙ sym (look-find (removed t q) k)
        ∙ kept t q k (apart_back q k q [] at (after_prefix-itself q))
