-- A move leaves a graph.
use Rattle.std.proofs.Common.{◌≡◌, ℕ, Bool, true, false, cond, eqb, ◌&&◌, List, [], ◌∷◌, ◌++◌, Option, Some, None, refl, sym, ap, ◌∙◌, subst, append-nil, ◌⊎◌, inl, inr}
use Rattle.fs_names.specs.Keys.{Key, after_prefix}
use Rattle.fs_names.specs.Names.{Name, same_name, removed_name}
use Rattle.fs_names.specs.Shapes.{Shape, Dir, names_of}
use Rattle.fs_laws.specs.Maps.{Map, move}
use Rattle.fs_calls.specs.Graphs.{Graph, at, numbers, set_child, unlinked_in, moved_in, IsGraph}
use Rattle.fs_laws.proofs.trees.Prefixes.{prefix_some}
use Rattle.fs_laws.proofs.trees.Commuting.{move_to, move_else}
use Rattle.fs_laws.proofs.helping.FinishPassesPlaced.{prefix_before}
use Rattle.fs_laws.proofs.graphs.Walks.{eqb_true, at_child, at_from, at_before, then_some, prefix_shorter}
use Rattle.fs_laws.proofs.graphs.TreesOfChanges.{CanMove, numbers_moved, move_one}
use Rattle.fs_laws.proofs.graphs.Local.{Local, local_of, local_linked, local_unlinked}

-- what a move may overwrite
abbrev pub Replaced : Graph → ℕ → Name → Type 0
Replaced graph to y = (graph.child to y ≡ None) ⊎ ((v : ℕ) × (graph.child to y ≡ Some v) × ((z : Name) → graph.child v z ≡ None))

pub graph_moved : (graph : Graph) → IsGraph graph → (kf : Key) (from : ℕ) (x : Name) (kt : Key) (to : ℕ) (y : Name) (n : ℕ) (names others : List Name) → CanMove graph kf from x kt to y n → graph.shape from ≡ Some (Dir names) → graph.shape to ≡ Some (Dir others) → Replaced graph to y
    → IsGraph (moved_in from x to y n graph)
graph_moved graph is kf from x kt to y n names others can from_dir to_dir replaced = record {
  one_key = subst (λ (t : Map ℕ). (a b : Key) (m : ℕ) → t a ≡ Some m → t b ≡ Some m → a ≡ b) (sym new_numbers) (move_one (numbers graph) (kf ++ x ∷ []) (kt ++ y ∷ []) is.one_key);
  of_dir = all.of_dir;
  to_used = all.to_used;
  listed = all.listed;
  root = all.root;
  loose = λ m q z e. loose m q z (eqb m to) (same_name z y) refl e;
}
  where
    new_numbers : numbers (moved_in from x to y n graph) ≡ move (kf ++ x ∷ []) (kt ++ y ∷ []) (numbers graph)
    new_numbers = numbers_moved graph is kf from x kt to y n can

    cut : Local (unlinked_in from x graph)
    cut = local_unlinked graph (local_of graph is) from x names from_dir

    in_use : (t : Shape) × ((unlinked_in from x graph).shape n ≡ Some t)
    in_use = used (eqb n from) (is.to_used from n x can.there)
      where
        used : (b : Bool) → (s : Shape) × (graph.shape n ≡ Some s) → (s : Shape) × (cond b (Some (Dir (removed_name x (names_of (graph.shape from))))) (graph.shape n) ≡ Some s)
        used true u = (Dir (removed_name x (names_of (graph.shape from))), refl)
        used false u = u

    still_dir : (ns : List Name) × ((unlinked_in from x graph).shape to ≡ Some (Dir ns))
    still_dir = dir (eqb to from)
      where
        dir : (b : Bool) → (ns : List Name) × (cond b (Some (Dir (removed_name x (names_of (graph.shape from))))) (graph.shape to) ≡ Some (Dir ns))
        dir true = (removed_name x (names_of (graph.shape from)), refl)
        dir false = (others, to_dir)

    all : Local (moved_in from x to y n graph)
    all = local_linked (unlinked_in from x graph) cut to y n still_dir.0 in_use.0 in_use.1 still_dir.1

    t_at : numbers graph (kt ++ y ∷ []) ≡ graph.child to y
    t_at = at_child graph.child 0 to kt y can.to_at

    -- below the entry that is overwritten nobody has entries
    none_there : (r : Key) (m : ℕ) (q : ℕ) (z : Name) → numbers graph ((kt ++ y ∷ []) ++ r) ≡ Some m → graph.child m z ≡ Some q → Replaced graph to y → ⊥
    none_there r m q z e f (inl g) =
        let b : (h : ℕ) × (numbers graph (kt ++ y ∷ []) ≡ Some h) × (at graph.child h r ≡ Some m) = at_before graph.child 0 m (kt ++ y ∷ []) r e in
        let w : ◌≡◌ {A = Option ℕ} None (Some b.0) = sym (t_at ∙ g) ∙ b.1 in cc
    none_there [] m q z e f (inr (v, g, leaf)) =
        let a : ◌≡◌ {A = Option ℕ} (Some v) (Some m) = sym (t_at ∙ g) ∙ ap (numbers graph) (sym (append-nil (kt ++ y ∷ []))) ∙ e in
        let b : v ≡ m = cc in
        let w : ◌≡◌ {A = Option ℕ} None (Some q) = sym (leaf z) ∙ ap (λ (d : ℕ). graph.child d z) b ∙ f in cc
    none_there (u ∷ r) m q z e f (inr (v, g, leaf)) =
        let a : at graph.child v (u ∷ r) ≡ Some m = sym (at_from graph.child 0 v (kt ++ y ∷ []) (u ∷ r) (t_at ∙ g)) ∙ e in
        let c : (h : ℕ) × (graph.child v u ≡ Some h) × (at graph.child h r ≡ Some m) = then_some (graph.child v u) (λ h. at graph.child h r) m a in
        let w : ◌≡◌ {A = Option ℕ} None (Some c.0) = sym (leaf u) ∙ c.1 in cc

    place_of : (m q : ℕ) (z : Name) → graph.child m z ≡ Some q → (key : Key) × (move (kf ++ x ∷ []) (kt ++ y ∷ []) (numbers graph) key ≡ Some m)
    place_of m q z e = by (is.loose m q z e)
      where
        by : (key : Key) × (numbers graph key ≡ Some m) → (key : Key) × (move (kf ++ x ∷ []) (kt ++ y ∷ []) (numbers graph) key ≡ Some m)
        by (key, f) = go (after_prefix (kf ++ x ∷ []) key) (after_prefix (kt ++ y ∷ []) key) refl refl
          where
            go : (a b : Option Key) → after_prefix (kf ++ x ∷ []) key ≡ a → after_prefix (kt ++ y ∷ []) key ≡ b → (key : Key) × (move (kf ++ x ∷ []) (kt ++ y ∷ []) (numbers graph) key ≡ Some m)
            go (Some r) b i j = ((kt ++ y ∷ []) ++ r, move_to (kf ++ x ∷ []) (kt ++ y ∷ []) (numbers graph) r ∙ ap (numbers graph) (sym (prefix_some (kf ++ x ∷ []) key r i)) ∙ f)
            go None (Some r) i j = absurd (none_there r m q z (ap (numbers graph) (sym (prefix_some (kt ++ y ∷ []) key r j)) ∙ f) e replaced)
            go None None i j = (key, move_else (kf ++ x ∷ []) (kt ++ y ∷ []) (numbers graph) key j i ∙ f)

    was : (m q : ℕ) (z : Name) (b : Bool) → cond b None (graph.child m z) ≡ Some q → graph.child m z ≡ Some q
    was m q z true e = cc
    was m q z false e = e

    stays : (m : ℕ) → (key : Key) × (move (kf ++ x ∷ []) (kt ++ y ∷ []) (numbers graph) key ≡ Some m) → (key : Key) × (numbers (moved_in from x to y n graph) key ≡ Some m)
    stays m (key, e) = (key, ap (λ (t : Map ℕ). t key) new_numbers ∙ e)

    loose : (m q : ℕ) (z : Name) (b c : Bool) → eqb m to ≡ b → cond (b && c) (Some n) (set_child from x None graph.child m z) ≡ Some q → (key : Key) × (numbers (moved_in from x to y n graph) key ≡ Some m)
    loose m q z true c i e = (kt, ap (λ (t : Map ℕ). t kt) new_numbers ∙ move_else (kf ++ x ∷ []) (kt ++ y ∷ []) (numbers graph) kt (prefix_shorter kt y) (prefix_before (kf ++ x ∷ []) kt (y ∷ []) can.aside.0) ∙ can.to_at ∙ ap (λ (d : ℕ). Some d) (sym (eqb_true m to i)))
    loose m q z false c i e = stays m (place_of m q z (was m q z (eqb m from && same_name z x) e))
