-- What stands at a key after each change of a tree.
use Rattle.std.proofs.Common.{◌≡◌, Bool, true, false, cond, not, List, [], ◌∷◌, Some, None, refl, sym, ap, ◌∙◌, T, Equal}
use Rattle.std.specs.FinMap.{find, is_sorted}
use Rattle.std.specs.FinMap.Entries.{find-put, is_sorted-put, find-where_key, is_sorted-where_key, same_entries}
use Rattle.std.specs.Cmp.{IsEquivalence, eq_by_cmp_equiv}
use Rattle.fs_names.specs.Keys.{Key, key_cmp, same_key}
use Rattle.fs_names.proofs.Lemmas.{key_total, key_exact, equal_from_is_eq}
use Rattle.fs_calls.specs.Tree.{Node, Tree, look, from_list, inserted, removed}

-- keys are the same as an equivalence
pub same_key_equiv : IsEquivalence same_key
same_key_equiv = eq_by_cmp_equiv key_total

-- keys that test as one are one
pub same_key_exact : (a b : Key) → same_key a b ≡ true → a ≡ b
same_key_exact a b h = key_exact a b (equal_from_is_eq _ h)

-- a key is the same as itself
pub same_key_refl : (a : Key) → same_key a a ≡ true
same_key_refl a = same_key_equiv.refl a

-- what a tree has at a key is found by it
pub look-find : (t : Tree) (k : Key) → look t k ≡ find key_cmp k t
unfolding look
look-find t k = refl

-- what stands at each key after an insertion
pub look-inserted : (t : Tree) (k : Key) (e : Node) (q : Key) → look (inserted t k e) q ≡ cond (same_key q k) (Some e) (look t q)
unfolding look inserted
look-inserted t k e q = find-put key_cmp key_total q k e t

-- a choice by the opposite
turned : {A : Type 0} (b : Bool) (x y : A) → cond (not b) x y ≡ cond b y x
turned true x y = refl
turned false x y = refl

-- a key tests as the key that it is
alike_keys : (k q x : Key) → key_cmp q x ≡ Equal → not (same_key k x) ≡ not (same_key k q)
alike_keys k q x t = ap (λ z. not (same_key k z)) (sym (key_exact q x t))

-- what stands at each key after a removal
pub look-removed : (t : Tree) (k q : Key) → look (removed t k) q ≡ cond (same_key q k) None (look t q)
unfolding look removed
look-removed t k q = find-where_key key_cmp (λ x. not (same_key k x)) q (λ x e. alike_keys k q x e) t
    ∙ turned (same_key k q) _ _ ∙ ap (λ b. cond b None (find key_cmp q t)) (same_key_equiv.symm k q)

-- what stands at each key of entries put in order
pub look-from_list : (es : List (Key × Node)) (q : Key) → look (from_list es) q ≡ find key_cmp q es
unfolding look
look-from_list [] q = refl
look-from_list (e ∷ es) q = find-put key_cmp key_total q e.0 e.1 (from_list es) ∙ ap (cond (same_key q e.0) (Some e.1)) (look-from_list es q)

-- entries put in order rise
pub sorted-from_list : (es : List (Key × Node)) → T (is_sorted key_cmp (from_list es))
sorted-from_list [] = tt
sorted-from_list (e ∷ es) = is_sorted-put key_cmp key_total e.0 e.1 (from_list es) (sorted-from_list es)

-- an insertion keeps the order
pub sorted-inserted : (t : Tree) (k : Key) (e : Node) → T (is_sorted key_cmp t) → T (is_sorted key_cmp (inserted t k e))
unfolding inserted
sorted-inserted t k e h = is_sorted-put key_cmp key_total k e t h

-- a removal keeps the order
pub sorted-removed : (t : Tree) (k : Key) → T (is_sorted key_cmp t) → T (is_sorted key_cmp (removed t k))
unfolding removed
sorted-removed t k h = is_sorted-where_key key_cmp _ t h

-- trees with the same entries are one
pub same_tree : (s t : Tree) → T (is_sorted key_cmp s) → T (is_sorted key_cmp t) → ((k : Key) → look s k ≡ look t k) → s ≡ t
unfolding look
same_tree s t g h is = same_entries key_cmp key_total key_exact s t g h is
