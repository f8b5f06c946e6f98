-- Keys in the order of a walk through a forest rise, so that the rows of the walk are its tree.
use Rattle.std.proofs.Common.{◌≡◌, ℕ, zero, suc, Bool, true, false, ◌&&◌, List, [], ◌∷◌, ◌++◌, length, map, Some, None, Option, sym, ap, subst, ◌∙◌, T, Less, Equal, Greater}
use Rattle.std.specs.Ordering.{is_lt, ordering_then}
use Rattle.std.specs.List.{flat_map}
use Rattle.std.specs.FinMap.{is_sorted}
use Rattle.std.specs.FinMap.Entries.{below_all}
use Rattle.std.specs.declared.cmp.Ordering.{Ordering}
use Rattle.std.proofs.lemmas.Cmp.{tied_itself}
use Rattle.fs_names.specs.Names.{Name, name_cmp}
use Rattle.fs_names.specs.Keys.{Key, key_cmp}
use Rattle.fs_names.proofs.Lemmas.{name_total}
use Rattle.fs_calls.specs.Tree.{Node, from_list}
use Rattle.fs_seq_nodes.specs.code.Slots.{Slots, links_at, spelled, keys_from, with_node, nodes_at, tree_of, IsForest}
use Rattle.fs_calls.proofs.LookLemmas.{look-from_list, look-find, sorted-from_list, same_tree}

-- a key is below all of some, and each of some below all that follow it
abbrev pub BelowAll : Key → List Key → Type 0
BelowAll k [] = Unit {0}
BelowAll k (q ∷ qs) = T (is_lt (key_cmp k q)) × BelowAll k qs

abbrev pub Rise : List Key → Type 0
Rise [] = Unit {0}
Rise (k ∷ ks) = BelowAll k ks × Rise ks

-- each of some below all others
abbrev Beneath : List Key → List Key → Type 0
Beneath [] qs = Unit {0}
Beneath (k ∷ ks) qs = BelowAll k qs × Beneath ks qs

Below-append : (k : Key) (a b : List Key) → BelowAll k a → BelowAll k b → BelowAll k (a ++ b)
Below-append k [] b p q = q
Below-append k (x ∷ a) b p q = (p.0, Below-append k a b p.1 q)

Rise-append : (a b : List Key) → Rise a → Rise b → Beneath a b → Rise (a ++ b)
Rise-append [] b p q r = q
Rise-append (k ∷ a) b p q r = (Below-append k a b p.0 r.0, Rise-append a b p.1 q r.1)

-- the same name in front of all
Below-under : (x : Name) (k : Key) (ks : List Key) → BelowAll k ks → BelowAll (x ∷ k) (map (λ q. x ∷ q) ks)
Below-under x k [] h = tt
Below-under x k (q ∷ ks) h = (subst T (ap (λ o. is_lt (ordering_then o (key_cmp k q))) (sym (tied_itself name_total x))) h.0, Below-under x k ks h.1)

Rise-under : (x : Name) (ks : List Key) → Rise ks → Rise (map (λ q. x ∷ q) ks)
Rise-under x [] h = tt
Rise-under x (k ∷ ks) h = (Below-under x k ks h.0, Rise-under x ks h.1)

-- a lesser name in front
less_name : (o : Ordering) (r : Ordering) → T (is_lt o) → T (is_lt (ordering_then o r))
less_name Less r h = tt
less_name Equal r h = absurd h
less_name Greater r h = absurd h

Below-other : (x y : Name) (k : Key) (ks : List Key) → T (is_lt (name_cmp x y)) → BelowAll (x ∷ k) (map (λ q. y ∷ q) ks)
Below-other x y k [] h = tt
Below-other x y k (q ∷ ks) h = (less_name (name_cmp x y) (key_cmp k q) h, Below-other x y k ks h)

-- the keys behind links
abbrev under : (Name × ℕ → List Key) → List (Name × ℕ) → List Key
under keys ls = flat_map (λ (l : Name × ℕ). map (λ k. l.0 ∷ k) (keys l)) ls

of_both : (a b : Bool) → T (a && b) → T a × T b
of_both true b h = (tt, h)
of_both false b h = absurd h

Below-links : (keys : Name × ℕ → List Key) (x : Name) (k : Key) (ls : List (Name × ℕ)) → T (below_all name_cmp x ls) → BelowAll (x ∷ k) (under keys ls)
Below-links keys x k [] h = tt
Below-links keys x k (l ∷ ls) h = let p = of_both _ _ h in Below-append (x ∷ k) _ _ (Below-other x l.0 k (keys l) p.0) (Below-links keys x k ls p.1)

Beneath-links : (keys : Name × ℕ → List Key) (x : Name) (ks : List Key) (ls : List (Name × ℕ)) → T (below_all name_cmp x ls) → Beneath (map (λ k. x ∷ k) ks) (under keys ls)
Beneath-links keys x [] ls h = tt
Beneath-links keys x (k ∷ ks) ls h = (Below-links keys x k ls h, Beneath-links keys x ks ls h)

Rise-links : (keys : Name × ℕ → List Key) (ls : List (Name × ℕ)) → ((l : Name × ℕ) → Rise (keys l)) → T (is_sorted name_cmp ls) → Rise (under keys ls)
Rise-links keys [] each h = tt
Rise-links keys (l ∷ ls) each h =
    let p = of_both _ _ h in
    Rise-append _ _ (Rise-under l.0 (keys l) (each l)) (Rise-links keys ls each p.1) (Beneath-links keys l.0 (keys l) ls p.0)

-- no names are below all that has one
Below-under_root : (x : Name) (ks : List Key) → BelowAll [] (map (λ q. x ∷ q) ks)
Below-under_root x [] = tt
Below-under_root x (q ∷ ks) = (tt, Below-under_root x ks)

Below-root : (keys : Name × ℕ → List Key) (ls : List (Name × ℕ)) → BelowAll [] (under keys ls)
Below-root keys [] = tt
Below-root keys (l ∷ ls) = Below-append [] _ _ (Below-under_root l.0 (keys l)) (Below-root keys ls)

T_from_true : (b : Bool) → b ≡ true → T b
T_from_true true h = tt
T_from_true false h = absurd (cc)

keys_rise : (many : ℕ) (g : Slots) (n : ℕ) → ((m : ℕ) → is_sorted name_cmp (links_at g m) ≡ true) → Rise (keys_from many g n)
keys_rise zero g n rising = tt
keys_rise (suc many) g n rising =
    (Below-root (λ l. keys_from many g l.1) (links_at g n), Rise-links (λ l. keys_from many g l.1) (links_at g n) (λ l. keys_rise many g l.1 rising) (T_from_true _ (rising n)))

-- ---- rows

hold_both : (a b : Bool) → T a → T b → T (a && b)
hold_both true b p q = q
hold_both false b p q = p

below_rows : (g : Slots) (k : Key) (ks : List Key) → BelowAll k ks → T (below_all key_cmp k (nodes_at g ks))
below_rows g k [] h = tt
below_rows g k (q ∷ ks) h = go (spelled g q) (below_rows g k ks h.1)
  where
    go : (o : Option Node) → T (below_all key_cmp k (nodes_at g ks)) → T (below_all key_cmp k (with_node q o (nodes_at g ks)))
    go None more = more
    go (Some e) more = hold_both _ _ h.0 more

rows_rise : (g : Slots) (ks : List Key) → Rise ks → T (is_sorted key_cmp (nodes_at g ks))
rows_rise g [] h = tt
rows_rise g (k ∷ ks) h = go (spelled g k) (rows_rise g ks h.1)
  where
    go : (o : Option Node) → T (is_sorted key_cmp (nodes_at g ks)) → T (is_sorted key_cmp (with_node k o (nodes_at g ks)))
    go None more = more
    go (Some e) more = hold_both _ _ (below_rows g k ks h.0) more

-- the rows in the order of the walk are the tree
pub walked_rows : (g : Slots) → IsForest g → tree_of g ≡ nodes_at g (keys_from (length g) g 0)
unfolding tree_of
walked_rows g forest =
    let rows : List (Key × Node) = nodes_at g (keys_from (length g) g 0) in
    same_tree (from_list rows) rows (sorted-from_list rows) (rows_rise g _ (keys_rise (length g) g 0 forest.rising)) (λ k. look-from_list rows k ∙ sym (look-find rows k))
