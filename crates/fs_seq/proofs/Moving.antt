-- A link leads elsewhere, with all that is below it.
use Rattle.std.proofs.Common.{◌≡◌, ◌≢◌, ℕ, true, [], ◌∷◌, ◌++◌, length, Some, None, Option, is_some, option_and_then, refl, sym, ap, ◌∙◌, arith, length-append, IsTrue}
use Rattle.std.specs.FinMap.{is_sorted}
use Rattle.fs_names.specs.Names.{Name, name_cmp}
use Rattle.fs_names.specs.Keys.{Key, after_prefix}
use Rattle.fs_names.proofs.Lemmas.{after_prefix-append, after_prefix-exact}
use Rattle.fs_calls.specs.Tree.{look, renamed}
use Rattle.fs_seq_nodes.specs.code.Slots.{Place, Dir, File, Slots, place_at, node_of, links_at, child, walk_from, walk, node_at, spelled, tree_of, IsForest}
use Rattle.fs_seq_nodes.proofs.GraphLemmas.{walk-append, Once, look-tree_of, is_tree_of}
use Rattle.fs_seq_nodes.proofs.Edits.{Unlinks, Links, outside, within, walk-unlinked, walk-linked}
use Rattle.fs_seq_nodes.proofs.Resolving.{spelled_at, spelled_none}
use Rattle.fs_calls.proofs.KeyLemmas.{after_prefix-itself}
use Rattle.fs_calls.proofs.RenamedTrees.{after_move, look-renamed, sorted-renamed}

-- a key with names behind it is longer
pub no_nil : (d : Key) (x : Name) (r : Key) → (d ++ x ∷ []) ++ r ≡ d → ⊥
no_nil d x r e = let h = ap length e in omega (arith, h, length-append (d ++ x ∷ []) r, length-append d (x ∷ []))

-- walks that never come to n are the same in both graphs
same_walks : (g h : Slots) (n j : ℕ) (k : Key) → ((i : ℕ) (y : Name) → i ≢ n → child h i y ≡ child g i y) → ((r : Key) → walk_from g j r ≡ Some n → ⊥) → walk_from h j k ≡ walk_from g j k
same_walks g h n j [] same never = refl
same_walks g h n j (y ∷ k) same never =
    ap (λ o. option_and_then (λ i. walk_from h i k) o) (same j y (λ e. never [] (ap Some e)))
    ∙ elim (child g j y) as (λ o. child g j y ≡ o → option_and_then (λ i. walk_from h i k) o ≡ option_and_then (λ i. walk_from g i k) o) [
      | None ↦ λ e. refl
      | Some i ↦ λ e. same_walks g h n i k same (λ r w. never (y ∷ r) (ap (option_and_then (λ i. walk_from g i r)) e ∙ w))
    ] refl

-- a place is a node, and no place is none
pub placed : (o : Option Place) → is_some (node_of o) ≡ is_some o
placed None = refl
placed (Some (Dir links)) = refl
placed (Some (File file)) = refl

-- h is g without the name x1 of n1, and then g' is h with the name x2 of n2, which leads where the old one led
pub record Relinks (g h g' : Slots) (d1 : Key) (n1 : ℕ) (x1 : Name) (s : ℕ) (d2 : Key) (n2 : ℕ) (x2 : Name) : Type 0 where
  pub from : walk g d1 ≡ Some n1
  pub moves : walk g (d1 ++ x1 ∷ []) ≡ Some s
  pub to : walk g d2 ≡ Some n2
  pub beside : after_prefix (d1 ++ x1 ∷ []) d2 ≡ None
  pub apart : after_prefix (d1 ++ x1 ∷ []) (d2 ++ x2 ∷ []) ≡ None
  pub removes : Unlinks g h n1 x1
  pub adds : Links h g' n2 x2 s

module _ (g h g' : Slots) (forest : IsForest g) (d1 : Key) (n1 : ℕ) (x1 : Name) (s : ℕ) (d2 : Key) (n2 : ℕ) (x2 : Name) (may : Relinks g h g' d1 n1 x1 s d2 n2 x2) where
  -- what is reached from the node that moves
  below : (r : Key) → walk_from g s r ≡ walk g ((d1 ++ x1 ∷ []) ++ r)
  below r = sym (walk-append g 0 (d1 ++ x1 ∷ []) r ∙ ap (option_and_then (λ m. walk_from g m r)) may.moves)

  -- nothing below the node that moves leads back to its directory
  never1 : (r : Key) → walk_from g s r ≡ Some n1 → ⊥
  never1 r w = no_nil d1 x1 r (forest.once ((d1 ++ x1 ∷ []) ++ r) d1 n1 (sym (below r) ∙ w) may.from)

  -- below the node that moves all is reached as before
  from_s : (r : Key) → walk_from h s r ≡ walk_from g s r
  from_s r = same_walks g h n1 s r may.removes.elsewhere never1

  -- without the old name, what was below it is not reached, and all else as before
  walk_h : (k : Key) → walk h k ≡ outside (walk g k) (after_prefix (d1 ++ x1 ∷ []) k)
  walk_h = walk-unlinked g h d1 n1 x1 forest.once may.from may.removes

  -- what is reached outside of a prefix was reached, without that prefix
  still : (k : Key) (j : ℕ) (a : Option Key) → outside (walk g k) a ≡ Some j → (walk g k ≡ Some j) × (a ≡ None)
  still k j None w = (w, refl)
  still k j (Some r) w = absurd (cc)

  -- what is reached without the old name was reached, and not by it
  was : (k : Key) (j : ℕ) → walk h k ≡ Some j → (walk g k ≡ Some j) × (after_prefix (d1 ++ x1 ∷ []) k ≡ None)
  was k j w = still k j (after_prefix (d1 ++ x1 ∷ []) k) (sym (walk_h k) ∙ w)

  -- no number is reached in two ways without the old name
  once_h : Once h 0
  once_h a b j u v = forest.once a b j (was a j u).0 (was b j v).0

  -- the new directory is reached without the old name
  to_h : walk h d2 ≡ Some n2
  to_h = walk_h d2 ∙ ap (outside (walk g d2)) may.beside ∙ may.to

  -- what is below the moved node is reached by its old names alone
  only_below : (r k : Key) (j : ℕ) → walk_from g s r ≡ Some j → walk g k ≡ Some j → after_prefix (d1 ++ x1 ∷ []) k ≡ None → ⊥
  only_below r k j u v none =
      let same : k ≡ (d1 ++ x1 ∷ []) ++ r = forest.once k ((d1 ++ x1 ∷ []) ++ r) j v (sym (below r) ∙ u) in
      let some : after_prefix (d1 ++ x1 ∷ []) k ≡ Some r = ap (after_prefix (d1 ++ x1 ∷ [])) same ∙ after_prefix-append (d1 ++ x1 ∷ []) r in absurd (cc)

  -- nothing below the node that moves leads to the new directory
  never2 : (r : Key) → walk_from h s r ≡ Some n2 → ⊥
  never2 r w = only_below r d2 n2 (sym (from_s r) ∙ w) may.to may.beside

  -- where a key leads after the edits, by what follows the new and the old key in it
  abbrev pub shifted : Key → Option Key → Option Key → Option ℕ
  shifted k (Some r) b = walk_from g s r
  shifted k None b = outside (walk g k) b

  -- where a key leads with the new name is where it leads after the edits
  within_shifted : (k : Key) (a : Option Key) → within h s (walk h k) a ≡ shifted k a (after_prefix (d1 ++ x1 ∷ []) k)
  within_shifted k None = walk_h k
  within_shifted k (Some r) = from_s r

  -- where each key leads after the edits
  pub walk-moved : (k : Key) → walk g' k ≡ shifted k (after_prefix (d2 ++ x2 ∷ []) k) (after_prefix (d1 ++ x1 ∷ []) k)
  walk-moved k = walk-linked h g' d2 n2 x2 s once_h to_h never2 may.adds k ∙ within_shifted k (after_prefix (d2 ++ x2 ∷ []) k)

  -- two keys that lead to one number after the edits are one
  once_shifted : (a b : Key) (j : ℕ) (qa qb pa pb : Option Key) → after_prefix (d2 ++ x2 ∷ []) a ≡ qa → after_prefix (d2 ++ x2 ∷ []) b ≡ qb → after_prefix (d1 ++ x1 ∷ []) a ≡ pa → after_prefix (d1 ++ x1 ∷ []) b ≡ pb
      → shifted a qa pa ≡ Some j → shifted b qb pb ≡ Some j → a ≡ b
  once_shifted a b j (Some r) (Some t) pa pb ea eb fa fb u v =
      let same : (d1 ++ x1 ∷ []) ++ r ≡ (d1 ++ x1 ∷ []) ++ t = forest.once _ _ j (sym (below r) ∙ u) (sym (below t) ∙ v) in
      let rest : Some r ≡ Some t = sym (after_prefix-append (d1 ++ x1 ∷ []) r) ∙ ap (after_prefix (d1 ++ x1 ∷ [])) same ∙ after_prefix-append (d1 ++ x1 ∷ []) t in
      let rt : r ≡ t = cc in
      after_prefix-exact (d2 ++ x2 ∷ []) a r ea ∙ ap (λ z. (d2 ++ x2 ∷ []) ++ z) rt ∙ sym (after_prefix-exact (d2 ++ x2 ∷ []) b t eb)
  once_shifted a b j (Some r) None pa pb ea eb fa fb u v = let old = still b j pb v in absurd (only_below r b j u old.0 (fb ∙ old.1))
  once_shifted a b j None (Some t) pa pb ea eb fa fb u v = let old = still a j pa u in absurd (only_below t a j v old.0 (fa ∙ old.1))
  once_shifted a b j None None pa pb ea eb fa fb u v = forest.once a b j (still a j pa u).0 (still b j pb v).0

  -- no number is reached in two ways after the edits
  once_moved : Once g' 0
  once_moved a b j u v = once_shifted a b j _ _ _ _ refl refl refl refl (sym (walk-moved a) ∙ u) (sym (walk-moved b) ∙ v)

  -- what is reached after the edits was reached before, and not by the new name
  reached_shifted : (k : Key) (j : ℕ) (a b : Option Key) → after_prefix (d2 ++ x2 ∷ []) k ≡ a → after_prefix (d1 ++ x1 ∷ []) k ≡ b → shifted k a b ≡ Some j → (q : Key) × (walk g q ≡ Some j) × (q ≢ d2 ++ x2 ∷ [])
  reached_shifted k j (Some r) b e f w = (
    (d1 ++ x1 ∷ []) ++ r,
    sym (below r) ∙ w,
    λ same. let none : after_prefix (d1 ++ x1 ∷ []) (d2 ++ x2 ∷ []) ≡ None = may.apart in
        let some : after_prefix (d1 ++ x1 ∷ []) (d2 ++ x2 ∷ []) ≡ Some r = ap (after_prefix (d1 ++ x1 ∷ [])) (sym same) ∙ after_prefix-append (d1 ++ x1 ∷ []) r in absurd (cc),
  )
  reached_shifted k j None b e f w = (
    k,
    (still k j b w).0,
    λ same. let some : after_prefix (d2 ++ x2 ∷ []) k ≡ Some [] = ap (after_prefix (d2 ++ x2 ∷ [])) same ∙ after_prefix-itself (d2 ++ x2 ∷ []) in absurd (cc),
  )

  -- the same, of each key
  pub reached_before : (k : Key) (j : ℕ) → walk g' k ≡ Some j → (q : Key) × (walk g q ≡ Some j) × (q ≢ d2 ++ x2 ∷ [])
  reached_before k j w = reached_shifted k j _ _ refl refl (sym (walk-moved k) ∙ w)

  -- where the nodes that are reached are as before
  module _ (same : (k : Key) (j : ℕ) → walk g' k ≡ Some j → node_at g' j ≡ node_at g j) where
    spelled_walk : (k q : Key) (o : Option ℕ) → walk g' k ≡ walk g q → walk g q ≡ o → spelled g' k ≡ spelled g q
    spelled_walk k q None e w = spelled_none g' k (e ∙ w) ∙ sym (spelled_none g q w)
    spelled_walk k q (Some j) e w = spelled_at g' k j (e ∙ w) ∙ same k j (e ∙ w) ∙ sym (spelled_at g q j w)

    look_moved : (k : Key) (a b : Option Key) → walk g' k ≡ shifted k a b → after_move (tree_of g) (d1 ++ x1 ∷ []) k a b ≡ spelled g' k
    look_moved k (Some r) b e = look-tree_of g forest ((d1 ++ x1 ∷ []) ++ r) ∙ sym (spelled_walk k ((d1 ++ x1 ∷ []) ++ r) (walk g ((d1 ++ x1 ∷ []) ++ r)) (e ∙ below r) refl)
    look_moved k None (Some r) e = sym (spelled_none g' k e)
    look_moved k None None e = look-tree_of g forest k ∙ sym (spelled_walk k k (walk g k) e refl)

    inside_moved : (k : Key) (j : ℕ) → walk g' k ≡ Some j → is_some (place_at g' j) ≡ true
    inside_moved k j w =
        let old = reached_before k j w in
        sym (placed (place_at g' j)) ∙ ap is_some (same k j w) ∙ placed (place_at g j) ∙ forest.inside old.0 j old.1

    pub forest_moved : ((n : ℕ) → IsTrue (is_sorted name_cmp (links_at g' n))) → IsForest g'
    forest_moved rising = record {
      once = once_moved;
      inside = inside_moved;
      root = same [] 0 refl ∙ forest.root;
      rising = rising;
    }

    -- the new tree, where nothing stands below the new key
    pub tree_moved : IsForest g' → ((y : Name) (r : Key) → look (tree_of g) ((d2 ++ x2 ∷ []) ++ y ∷ r) ≡ None) → tree_of g' ≡ renamed (tree_of g) (d1 ++ x1 ∷ []) (d2 ++ x2 ∷ [])
    tree_moved after bare =
        is_tree_of g' (renamed (tree_of g) (d1 ++ x1 ∷ []) (d2 ++ x2 ∷ [])) after (sorted-renamed (tree_of g) (d1 ++ x1 ∷ []) (d2 ++ x2 ∷ []))
        (λ k. look-renamed (tree_of g) (d1 ++ x1 ∷ []) (d2 ++ x2 ∷ []) k may.apart bare ∙ look_moved k _ _ (walk-moved k))
