-- What each change of a tree leaves, seen as a map.
use Rattle.std.proofs.Common.{◌≡◌, ℕ, Bool, true, false, cond, List, [], ◌∷◌, ◌++◌, Option, Some, None, is_some, refl, sym, ap, ◌∙◌, append-nil, subst, T}
use Rattle.std.specs.FinMap.{is_sorted}
use Rattle.std.proofs.lemmas.List.{same_from_push}
use Rattle.fs_names.specs.Keys.{Key, key_cmp, same_key, after_prefix}
use Rattle.fs_names.specs.Names.{Name, same_name, inserted_name, removed_name, has_name}
use Rattle.fs_names.specs.Shapes.{Shape, Dir, File, names_of}
use Rattle.fs_calls.proofs.ListLemmas.{true_T}
use Rattle.fs_calls.specs.Tree as trees
use Rattle.fs_calls.specs.Tree.{Tree, Node, look, names_in, inserted, removed, IsTree}
use Rattle.fs_calls.specs.Sights.{tree_shapes, shape_of}
use Rattle.fs_laws.specs.Maps.{Map, put, put_at}
use Rattle.fs_calls.proofs.LookLemmas.{same_key_exact, same_key_refl, look-inserted, look-removed, sorted-inserted, sorted-removed}
use Rattle.fs_calls.proofs.ResolutionLemmas.{nothing_below}
use Rattle.fs_laws.proofs.trees.Prefixes.{same_refl, same_true, prefix_append}
use Rattle.fs_laws.proofs.trees.Commuting.{put_other}
use Rattle.fs_laws.proofs.graphs.Listings.{has_with, with_else, has_without, without_else}
use Rattle.fs_laws.proofs.trees.SeenAsMaps.{rising_names, rising_with, rising_without, ShowsAt, seen_by, old_has, shows_same}

pub put_here : (p : Key) (v : Option Shape) (m : Map Shape) → put p v m p ≡ v
put_here p v m = ap (put_at v m p) (ap (after_prefix p) (sym (append-nil p)) ∙ prefix_append p [])

-- two keys are the same or not
pub data SameKey (a b : Key) : Type 0 where
  Same : a ≡ b → same_key a b ≡ true → SameKey a b
  Other : (a ≡ b → ⊥) → same_key a b ≡ false → SameKey a b

pub same_or : (a b : Key) → SameKey a b
same_or a b = go (same_key a b) refl
  where
    go : (c : Bool) → same_key a b ≡ c → SameKey a b
    go true e = Same (same_key_exact a b e) e
    go false e = Other (λ i. (let z : true ≡ false = sym (same_key_refl b) ∙ ap (λ (x : Key). same_key x b) (sym i) ∙ e in cc)) e

-- two names are the same or not
pub data SameName (a b : Name) : Type 0 where
  Equals : a ≡ b → SameName a b
  Differs : same_name a b ≡ false → (a ≡ b → ⊥) → SameName a b

pub same_name_or : (a b : Name) → SameName a b
same_name_or a b = go (same_name a b) refl
  where
    go : (c : Bool) → same_name a b ≡ c → SameName a b
    go true e = Equals (same_true a b e)
    go false e = Differs e (λ i. (let z : true ≡ false = sym (same_refl b) ∙ ap (λ (x : Name). same_name x b) (sym i) ∙ e in cc))

inserted_here : (t : Tree) (p : Key) (n : Node) → look (inserted t p n) p ≡ Some n
inserted_here t p n = look-inserted t p n p ∙ ap (λ (b : Bool). cond {A = Option Node} b (Some n) (look t p)) (same_key_refl p)

inserted_else : (t : Tree) (p : Key) (n : Node) (k : Key) → (k ≡ p → ⊥) → look (inserted t p n) k ≡ look t k
inserted_else t p n k h = look-inserted t p n k ∙ by (same_or k p)
  where
    by : SameKey k p → cond {A = Option Node} (same_key k p) (Some n) (look t k) ≡ look t k
    by (Same i e) = absurd (h i)
    by (Other i e) = ap (λ (b : Bool). cond {A = Option Node} b (Some n) (look t k)) e

removed_here : (t : Tree) (p : Key) → look (removed t p) p ≡ None
removed_here t p = look-removed t p p ∙ ap (λ (b : Bool). cond {A = Option Node} b None (look t p)) (same_key_refl p)

removed_else : (t : Tree) (p k : Key) → (k ≡ p → ⊥) → look (removed t p) k ≡ look t k
removed_else t p k h = look-removed t p k ∙ by (same_or k p)
  where
    by : SameKey k p → cond {A = Option Node} (same_key k p) None (look t k) ≡ look t k
    by (Same i e) = absurd (h i)
    by (Other i e) = ap (λ (b : Bool). cond {A = Option Node} b None (look t k)) e

pub child_of : (k d : Key) (z x : Name) → k ++ z ∷ [] ≡ d ++ x ∷ [] → (k ≡ d) × (z ≡ x)
child_of k d z x e = same_from_push k d z x e

no_dir : ◌≡◌ {A = Option Node} None (Some trees.Dir) → ⊥
no_dir e = cc

pub names_seen : (t : Tree) (d : Key) → look t d ≡ Some trees.Dir → names_of (tree_shapes t d) ≡ names_in t d
names_seen t d e = ap (λ (o : Option Node). names_of (shape_of t d o)) e

-- a key that the change passes
pub passes : (t new : Tree) (m : Map Shape) (k : Key) → T (is_sorted key_cmp t) → look new k ≡ look t k → m k ≡ tree_shapes t k → ((z : Name) → is_some (look new (k ++ z ∷ [])) ≡ is_some (look t (k ++ z ∷ []))) → ShowsAt new k (look new k) (m k)
passes t new m k sorted same shown names = subst (ShowsAt new k (look new k)) (sym shown) (subst (λ (o : Option Node). ShowsAt new k o (tree_shapes t k)) (sym same) (shows_same t new k k (look t k) sorted names))

-- a new node without entries
pub data Bare (node : Node) (s : Shape) : Type 0 where
  A_dir : node ≡ trees.Dir → s ≡ Dir [] → Bare node s
  A_file : (bytes : List ℕ) → node ≡ trees.File bytes → s ≡ File bytes → Bare node s

pub seen_made : (t : Tree) (d : Key) (x : Name) (node : Node) (s : Shape) → IsTree t → Bare node s → look t d ≡ Some trees.Dir → look t (d ++ x ∷ []) ≡ None
    → (k : Key) → tree_shapes (inserted t (d ++ x ∷ []) node) k ≡ put (d ++ x ∷ []) (Some s) (put d (Some (Dir (inserted_name x (names_of (tree_shapes t d))))) (tree_shapes t)) k
seen_made t d x node s is bare dir none = seen_by new m (sorted-inserted t p node (true_T is.sorted)) (λ k. at k (same_or k p) (same_or k d))
  where
    p : Key
    p = d ++ x ∷ []

    new : Tree
    new = inserted t (d ++ x ∷ []) node

    m : Map Shape
    m = put (d ++ x ∷ []) (Some s) (put d (Some (Dir (inserted_name x (names_of (tree_shapes t d))))) (tree_shapes t))

    longer : d ≡ d ++ x ∷ [] → ⊥
    longer e = let z : ◌≡◌ {A = Option Key} (Some []) (Some (x ∷ [])) = sym (ap (after_prefix d) (sym (append-nil d)) ∙ prefix_append d []) ∙ ap (after_prefix d) e ∙ prefix_append d (x ∷ []) in cc

    empty : (z : Name) → false ≡ is_some (look (inserted t (d ++ x ∷ []) node) ((d ++ x ∷ []) ++ z ∷ []))
    empty z = sym (ap is_some (inserted_else t (d ++ x ∷ []) node ((d ++ x ∷ []) ++ z ∷ []) (λ e. too_long (d ++ x ∷ []) z e) ∙ nothing_below t (d ++ x ∷ []) is (λ h. no_dir (sym none ∙ h)) z []))
      where
        too_long : (k : Key) (z : Name) → k ++ z ∷ [] ≡ k → ⊥
        too_long k z e = let w : ◌≡◌ {A = Option Key} (Some (z ∷ [])) (Some []) = sym (prefix_append k (z ∷ [])) ∙ ap (after_prefix k) (e ∙ sym (append-nil k)) ∙ prefix_append k [] in cc

    fresh : Bare node s → ShowsAt (inserted t (d ++ x ∷ []) node) (d ++ x ∷ []) (Some node) (Some s)
    fresh (A_dir e f) = subst (λ (n : Node). ShowsAt (inserted t (d ++ x ∷ []) node) (d ++ x ∷ []) (Some n) (Some s)) (sym e) (subst (λ (u : Shape). ShowsAt (inserted t (d ++ x ∷ []) node) (d ++ x ∷ []) (Some trees.Dir) (Some u)) (sym f) (tt, empty))
    fresh (A_file bytes e f) = subst (λ (n : Node). ShowsAt (inserted t (d ++ x ∷ []) node) (d ++ x ∷ []) (Some n) (Some s)) (sym e) (subst (λ (u : Shape). ShowsAt (inserted t (d ++ x ∷ []) node) (d ++ x ∷ []) (Some (trees.File bytes)) (Some u)) (sym f) refl)

    parent : (z : Name) → has_name z (inserted_name x (names_in t d)) ≡ is_some (look (inserted t (d ++ x ∷ []) node) (d ++ z ∷ []))
    parent z = by (same_name_or z x)
      where
        by : SameName z x → has_name z (inserted_name x (names_in t d)) ≡ is_some (look (inserted t (d ++ x ∷ []) node) (d ++ z ∷ []))
        by (Equals e) = ap (λ (y : Name). has_name y (inserted_name x (names_in t d))) e ∙ has_with x (names_in t d) ∙ sym (ap (λ (y : Name). is_some (look (inserted t (d ++ x ∷ []) node) (d ++ y ∷ []))) e ∙ ap is_some (inserted_here t (d ++ x ∷ []) node))
        by (Differs e h) = with_else x z (names_in t d) e ∙ old_has t d z ∙ sym (ap is_some (inserted_else t (d ++ x ∷ []) node (d ++ z ∷ []) (λ i. h (child_of d d z x i).1)))

    at : (k : Key) → SameKey k (d ++ x ∷ []) → SameKey k d → ShowsAt (inserted t (d ++ x ∷ []) node) k (look (inserted t (d ++ x ∷ []) node) k) (put (d ++ x ∷ []) (Some s) (put d (Some (Dir (inserted_name x (names_of (tree_shapes t d))))) (tree_shapes t)) k)
    at k (Same e i) r = subst (λ (y : Key). ShowsAt new y (look new y) (m y)) (sym e)
        (subst (λ (u : Option Shape). ShowsAt new p (look new p) u) (sym (put_here p (Some s) (put d (Some (Dir (inserted_name x (names_of (tree_shapes t d))))) (tree_shapes t))))
        (subst (λ (o : Option Node). ShowsAt new p o (Some s)) (sym (inserted_here t p node)) (fresh bare)))
    at k (Other h i) (Same e j) = subst (λ (y : Key). ShowsAt new y (look new y) (m y)) (sym e)
        (subst (λ (u : Option Shape). ShowsAt new d (look new d) u) (sym (put_other p (Some s) (put d (Some (Dir (inserted_name x (names_of (tree_shapes t d))))) (tree_shapes t)) d longer ∙ put_here d (Some (Dir (inserted_name x (names_of (tree_shapes t d))))) (tree_shapes t) ∙ ap (λ (ns : List Name). Some (Dir (inserted_name x ns))) (names_seen t d dir)))
        (subst (λ (o : Option Node). ShowsAt new d o (Some (Dir (inserted_name x (names_in t d))))) (sym (inserted_else t p node d longer ∙ dir)) (rising_with x (names_in t d) (rising_names t d (true_T is.sorted)), parent)))
    at k (Other h i) (Other g j) = passes t new m k (true_T is.sorted) (inserted_else t p node k h)
        (put_other p (Some s) (put d (Some (Dir (inserted_name x (names_of (tree_shapes t d))))) (tree_shapes t)) k h ∙ put_other d (Some (Dir (inserted_name x (names_of (tree_shapes t d))))) (tree_shapes t) k g)
        (λ z. ap is_some (inserted_else t p node (k ++ z ∷ []) (λ e. g (child_of k d z x e).0)))

pub seen_written : (t : Tree) (p : Key) (old bytes : List ℕ) → IsTree t → look t p ≡ Some (trees.File old) → (k : Key) → tree_shapes (inserted t p (trees.File bytes)) k ≡ put p (Some (File bytes)) (tree_shapes t) k
seen_written t p old bytes is file = seen_by (inserted t p (trees.File bytes)) (put p (Some (File bytes)) (tree_shapes t)) (sorted-inserted t p (trees.File bytes) (true_T is.sorted)) (λ k. at k (same_or k p))
  where
    new : Tree
    new = inserted t p (trees.File bytes)

    names : (k : Key) → is_some (look (inserted t p (trees.File bytes)) k) ≡ is_some (look t k)
    names k = by (same_or k p)
      where
        by : SameKey k p → is_some (look (inserted t p (trees.File bytes)) k) ≡ is_some (look t k)
        by (Same e i) = ap (λ (y : Key). is_some (look (inserted t p (trees.File bytes)) y)) e ∙ ap is_some (inserted_here t p (trees.File bytes)) ∙ sym (ap (λ (y : Key). is_some (look t y)) e ∙ ap is_some file)
        by (Other h i) = ap is_some (inserted_else t p (trees.File bytes) k h)

    at : (k : Key) → SameKey k p → ShowsAt (inserted t p (trees.File bytes)) k (look (inserted t p (trees.File bytes)) k) (put p (Some (File bytes)) (tree_shapes t) k)
    at k (Same e i) = subst (λ (y : Key). ShowsAt new y (look new y) (put p (Some (File bytes)) (tree_shapes t) y)) (sym e)
        (subst (λ (u : Option Shape). ShowsAt new p (look new p) u) (sym (put_here p (Some (File bytes)) (tree_shapes t))) (subst (λ (o : Option Node). ShowsAt new p o (Some (File bytes))) (sym (inserted_here t p (trees.File bytes))) refl))
    at k (Other h i) = passes t new (put p (Some (File bytes)) (tree_shapes t)) k (true_T is.sorted) (inserted_else t p (trees.File bytes) k h) (put_other p (Some (File bytes)) (tree_shapes t) k h) (λ z. names (k ++ z ∷ []))

pub seen_removed : (t : Tree) (d : Key) (x : Name) → IsTree t → look t d ≡ Some trees.Dir
    → (k : Key) → tree_shapes (removed t (d ++ x ∷ [])) k ≡ put (d ++ x ∷ []) None (put d (Some (Dir (removed_name x (names_of (tree_shapes t d))))) (tree_shapes t)) k
seen_removed t d x is dir = seen_by new m (sorted-removed t p (true_T is.sorted)) (λ k. at k (same_or k p) (same_or k d))
  where
    p : Key
    p = d ++ x ∷ []

    new : Tree
    new = removed t (d ++ x ∷ [])

    m : Map Shape
    m = put (d ++ x ∷ []) None (put d (Some (Dir (removed_name x (names_of (tree_shapes t d))))) (tree_shapes t))

    longer : d ≡ d ++ x ∷ [] → ⊥
    longer e = let z : ◌≡◌ {A = Option Key} (Some []) (Some (x ∷ [])) = sym (ap (after_prefix d) (sym (append-nil d)) ∙ prefix_append d []) ∙ ap (after_prefix d) e ∙ prefix_append d (x ∷ []) in cc

    parent : (z : Name) → has_name z (removed_name x (names_in t d)) ≡ is_some (look (removed t (d ++ x ∷ [])) (d ++ z ∷ []))
    parent z = by (same_name_or z x)
      where
        by : SameName z x → has_name z (removed_name x (names_in t d)) ≡ is_some (look (removed t (d ++ x ∷ [])) (d ++ z ∷ []))
        by (Equals e) = ap (λ (y : Name). has_name y (removed_name x (names_in t d))) e ∙ has_without x (names_in t d) ∙ sym (ap (λ (y : Name). is_some (look (removed t (d ++ x ∷ [])) (d ++ y ∷ []))) e ∙ ap is_some (removed_here t (d ++ x ∷ [])))
        by (Differs e h) = without_else x z (names_in t d) e ∙ old_has t d z ∙ sym (ap is_some (removed_else t (d ++ x ∷ []) (d ++ z ∷ []) (λ i. h (child_of d d z x i).1)))

    at : (k : Key) → SameKey k (d ++ x ∷ []) → SameKey k d → ShowsAt (removed t (d ++ x ∷ [])) k (look (removed t (d ++ x ∷ [])) k) (put (d ++ x ∷ []) None (put d (Some (Dir (removed_name x (names_of (tree_shapes t d))))) (tree_shapes t)) k)
    at k (Same e i) r = subst (λ (y : Key). ShowsAt new y (look new y) (m y)) (sym e)
        (subst (λ (u : Option Shape). ShowsAt new p (look new p) u) (sym (put_here p None (put d (Some (Dir (removed_name x (names_of (tree_shapes t d))))) (tree_shapes t))))
        (subst (λ (o : Option Node). ShowsAt new p o None) (sym (removed_here t p)) tt))
    at k (Other h i) (Same e j) = subst (λ (y : Key). ShowsAt new y (look new y) (m y)) (sym e)
        (subst (λ (u : Option Shape). ShowsAt new d (look new d) u) (sym (put_other p None (put d (Some (Dir (removed_name x (names_of (tree_shapes t d))))) (tree_shapes t)) d longer ∙ put_here d (Some (Dir (removed_name x (names_of (tree_shapes t d))))) (tree_shapes t) ∙ ap (λ (ns : List Name). Some (Dir (removed_name x ns))) (names_seen t d dir)))
        (subst (λ (o : Option Node). ShowsAt new d o (Some (Dir (removed_name x (names_in t d))))) (sym (removed_else t p d longer ∙ dir)) (rising_without x (names_in t d) (rising_names t d (true_T is.sorted)), parent)))
    at k (Other h i) (Other g j) = passes t new m k (true_T is.sorted) (removed_else t p k h)
        (put_other p None (put d (Some (Dir (removed_name x (names_of (tree_shapes t d))))) (tree_shapes t)) k h ∙ put_other d (Some (Dir (removed_name x (names_of (tree_shapes t d))))) (tree_shapes t) k g)
        (λ z. ap is_some (removed_else t p (k ++ z ∷ []) (λ e. g (child_of k d z x e).0)))
