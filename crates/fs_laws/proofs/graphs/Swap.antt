-- An exchange of two entries leaves a graph, and lets what stands below them change places.
use Rattle.std.proofs.Common.{◌≡◌, ℕ, Bool, true, false, cond, eqb, ◌&&◌, [], ◌∷◌, ◌++◌, Option, Some, None, refl, sym, ap, ap₂, ◌∙◌, subst, append-nil, append_assoc}
use mathlib.Core.Path.{fun_ext}
use Rattle.fs_names.specs.Keys.{Key, after_prefix}
use Rattle.fs_names.specs.Names.{Name, same_name}
use Rattle.fs_names.specs.Shapes.{Shape}
use Rattle.fs_laws.specs.Maps.{Map, swap, swapped}
use Rattle.fs_laws.specs.Placed.{Aside}
use Rattle.fs_calls.specs.Graphs.{Graph, Children, at, numbers, graph_shapes, then_at, set_child, swapped_in, IsGraph}
use Rattle.fs_laws.proofs.trees.Prefixes.{same_true, prefix_append, prefix_some}
use Rattle.fs_laws.proofs.trees.Commuting.{swapped_twice, swap_first, swap_second, swap_else}
use Rattle.fs_laws.proofs.helping.FinishPassesPlaced.{prefix_before}
use Rattle.fs_laws.proofs.graphs.Walks.{eqb_true, at_child, at_from, at_same, set_here, set_else, prefix_shorter}

-- exchange
pub record CanSwap (graph : Graph) (kf : Key) (from : ℕ) (x : Name) (n : ℕ) (kt : Key) (to : ℕ) (y : Name) (m : ℕ) : Type 0 where
  pub from_at : numbers graph kf ≡ Some from
  pub to_at : numbers graph kt ≡ Some to
  pub there : graph.child from x ≡ Some n
  pub there_too : graph.child to y ≡ Some m
  pub aside : Aside (kf ++ x ∷ []) (kt ++ y ∷ [])

-- a walk that goes through an entry is one along a key that begins with the entry's own
begins : (graph : Graph) → IsGraph graph → (kd u w key : Key) (x z : Name) (dir q : ℕ) → numbers graph kd ≡ Some dir → key ≡ u ++ z ∷ w → at graph.child 0 u ≡ Some q → q ≡ dir → z ≡ x → after_prefix (kd ++ x ∷ []) key ≡ None → ⊥
begins graph is kd u w key x z dir q dir_at i j f g apart =
    let e : u ≡ kd = is.one_key u kd q j (dir_at ∙ sym (ap Some f)) in
    let h : key ≡ (kd ++ x ∷ []) ++ w = i ∙ ap₂ (λ (a : Key) (b : Name). a ++ b ∷ w) e g ∙ sym (append_assoc kd (x ∷ []) w) in
    let s : after_prefix (kd ++ x ∷ []) key ≡ Some w = rw h (prefix_append (kd ++ x ∷ []) w) in
    cc

-- what stands beside a key is not reached from its node
not_below : (graph : Graph) → IsGraph graph → (k kd : Key) (v dir : ℕ) → numbers graph k ≡ Some v → numbers graph kd ≡ Some dir → after_prefix k kd ≡ None → (u : Key) → at graph.child v u ≡ Some dir → ⊥
not_below graph is k kd v dir v_at dir_at none u e =
    let same : k ++ u ≡ kd = is.one_key (k ++ u) kd dir (at_from graph.child 0 v k u v_at ∙ e) dir_at in
    let s : after_prefix k kd ≡ Some u = subst (λ (q : Key). after_prefix k q ≡ Some u) same (prefix_append k u) in
    cc

-- the keys of both trees change places
pub numbers_swapped : (graph : Graph) → IsGraph graph → (kf : Key) (from : ℕ) (x : Name) (n : ℕ) (kt : Key) (to : ℕ) (y : Name) (m : ℕ) → CanSwap graph kf from x n kt to y m
    → numbers (swapped_in from x n to y m graph) ≡ swap (kf ++ x ∷ []) (kt ++ y ∷ []) (numbers graph)
numbers_swapped graph is kf from x n kt to y m can = fun_ext (λ key. go key (after_prefix (kf ++ x ∷ []) key) (after_prefix (kt ++ y ∷ []) key) refl refl)
  where
    new : Children
    new = set_child from x (Some m) (set_child to y (Some n) graph.child)

    n_at : numbers graph (kf ++ x ∷ []) ≡ Some n
    n_at = at_child graph.child 0 from kf x can.from_at ∙ can.there

    m_at : numbers graph (kt ++ y ∷ []) ≡ Some m
    m_at = at_child graph.child 0 to kt y can.to_at ∙ can.there_too

    from_beside : after_prefix (kt ++ y ∷ []) kf ≡ None
    from_beside = prefix_before (kt ++ y ∷ []) kf (x ∷ []) can.aside.1

    to_beside : after_prefix (kf ++ x ∷ []) kt ≡ None
    to_beside = prefix_before (kf ++ x ∷ []) kt (y ∷ []) can.aside.0

    other : (d : ℕ) (z : Name) → (d ≡ from → z ≡ x → ⊥) → (d ≡ to → z ≡ y → ⊥) → graph.child d z ≡ set_child from x (Some m) (set_child to y (Some n) graph.child) d z
    other d z f g = sym (set_else from x (Some m) (set_child to y (Some n) graph.child) d z f ∙ set_else to y (Some n) graph.child d z g)

    elsewhere : (key : Key) → after_prefix (kf ++ x ∷ []) key ≡ None → after_prefix (kt ++ y ∷ []) key ≡ None → at (set_child from x (Some m) (set_child to y (Some n) graph.child)) 0 key ≡ at graph.child 0 key
    elsewhere key e f = sym (at_same graph.child (set_child from x (Some m) (set_child to y (Some n) graph.child)) 0 key (λ u w z q i j. other q z
        (λ a b. begins graph is kf u w key x z from q can.from_at i j a b e)
        (λ a b. begins graph is kt u w key y z to q can.to_at i j a b f)))

    inside : (d : ℕ) (r : Key) → ((u : Key) → at graph.child d u ≡ Some from → ⊥) → ((u : Key) → at graph.child d u ≡ Some to → ⊥) → at (set_child from x (Some m) (set_child to y (Some n) graph.child)) d r ≡ at graph.child d r
    inside d r f g = sym (at_same graph.child (set_child from x (Some m) (set_child to y (Some n) graph.child)) d r (λ u w z q i j. other q z (λ a b. f u (j ∙ ap Some a)) (λ a b. g u (j ∙ ap Some a))))

    first_at : at (set_child from x (Some m) (set_child to y (Some n) graph.child)) 0 (kf ++ x ∷ []) ≡ Some m
    first_at =
        at_child (set_child from x (Some m) (set_child to y (Some n) graph.child)) 0 from kf x (elsewhere kf (prefix_shorter kf x) from_beside ∙ can.from_at)
        ∙ set_here from x (Some m) (set_child to y (Some n) graph.child)

    not_one : to ≡ from → y ≡ x → ⊥
    not_one a b =
        let k : kt ≡ kf = is.one_key kt kf to can.to_at (can.from_at ∙ sym (ap Some a)) in
        let same : (kt ++ y ∷ []) ≡ (kf ++ x ∷ []) ++ [] = ap₂ (λ (c : Key) (d : Name). c ++ d ∷ []) k b ∙ sym (append-nil (kf ++ x ∷ [])) in
        let s : after_prefix (kf ++ x ∷ []) (kt ++ y ∷ []) ≡ Some [] = ap (after_prefix (kf ++ x ∷ [])) same ∙ prefix_append (kf ++ x ∷ []) [] in
        let t : after_prefix (kf ++ x ∷ []) (kt ++ y ∷ []) ≡ None = can.aside.0 in
        cc

    second_at : at (set_child from x (Some m) (set_child to y (Some n) graph.child)) 0 (kt ++ y ∷ []) ≡ Some n
    second_at =
        at_child (set_child from x (Some m) (set_child to y (Some n) graph.child)) 0 to kt y (elsewhere kt to_beside (prefix_shorter kt y) ∙ can.to_at)
        ∙ set_else from x (Some m) (set_child to y (Some n) graph.child) to y not_one
        ∙ set_here to y (Some n) graph.child

    first : (r : Key) → at (set_child from x (Some m) (set_child to y (Some n) graph.child)) 0 ((kf ++ x ∷ []) ++ r) ≡ numbers graph ((kt ++ y ∷ []) ++ r)
    first r =
        at_from (set_child from x (Some m) (set_child to y (Some n) graph.child)) 0 m (kf ++ x ∷ []) r first_at
        ∙ inside m r (not_below graph is (kt ++ y ∷ []) kf m from m_at can.from_at from_beside) (not_below graph is (kt ++ y ∷ []) kt m to m_at can.to_at (prefix_shorter kt y))
        ∙ sym (at_from graph.child 0 m (kt ++ y ∷ []) r m_at)

    second : (r : Key) → at (set_child from x (Some m) (set_child to y (Some n) graph.child)) 0 ((kt ++ y ∷ []) ++ r) ≡ numbers graph ((kf ++ x ∷ []) ++ r)
    second r =
        at_from (set_child from x (Some m) (set_child to y (Some n) graph.child)) 0 n (kt ++ y ∷ []) r second_at
        ∙ inside n r (not_below graph is (kf ++ x ∷ []) kf n from n_at can.from_at (prefix_shorter kf x)) (not_below graph is (kf ++ x ∷ []) kt n to n_at can.to_at to_beside)
        ∙ sym (at_from graph.child 0 n (kf ++ x ∷ []) r n_at)

    go : (key : Key) (a b : Option Key) → after_prefix (kf ++ x ∷ []) key ≡ a → after_prefix (kt ++ y ∷ []) key ≡ b
        → at (set_child from x (Some m) (set_child to y (Some n) graph.child)) 0 key ≡ swap (kf ++ x ∷ []) (kt ++ y ∷ []) (numbers graph) key
    go key (Some r) b i j = rw (prefix_some (kf ++ x ∷ []) key r i) (first r ∙ sym (swap_first (kf ++ x ∷ []) (kt ++ y ∷ []) (numbers graph) r))
    go key None (Some r) i j = rw (prefix_some (kt ++ y ∷ []) key r j) (second r ∙ sym (swap_second (kf ++ x ∷ []) (kt ++ y ∷ []) (numbers graph) r can.aside.0 can.aside.1))
    go key None None i j = elsewhere key i j ∙ sym (swap_else (kf ++ x ∷ []) (kt ++ y ∷ []) (numbers graph) key i j)

-- and so does what stands there
pub shapes_swapped : (graph : Graph) → IsGraph graph → (kf : Key) (from : ℕ) (x : Name) (n : ℕ) (kt : Key) (to : ℕ) (y : Name) (m : ℕ) → CanSwap graph kf from x n kt to y m
    → graph_shapes (swapped_in from x n to y m graph) ≡ swap (kf ++ x ∷ []) (kt ++ y ∷ []) (graph_shapes graph)
shapes_swapped graph is kf from x n kt to y m can = ap (λ (t : Map ℕ). λ (key : Key). then_at (t key) graph.shape) (numbers_swapped graph is kf from x n kt to y m can)

-- one key for each number, after the places changed
pub swap_one : (tree : Map ℕ) (s t : Key) → Aside s t → ((a b : Key) (m : ℕ) → tree a ≡ Some m → tree b ≡ Some m → a ≡ b) → (a b : Key) (m : ℕ) → swap s t tree a ≡ Some m → swap s t tree b ≡ Some m → a ≡ b
swap_one tree s t aside one a b m e f = sym (swapped_twice s t a aside.0 aside.1) ∙ ap (swapped s t) (one (swapped s t a) (swapped s t b) m e f) ∙ swapped_twice s t b aside.0 aside.1

-- both tests hold
both : (b c : Bool) → (b && c) ≡ true → (b ≡ true) × (c ≡ true)
both true true e = (refl, refl)
both true false e = absurd (cc)
both false c e = absurd (cc)

-- the graph stays one
pub graph_swapped : (graph : Graph) → IsGraph graph → (kf : Key) (from : ℕ) (x : Name) (n : ℕ) (kt : Key) (to : ℕ) (y : Name) (m : ℕ) → CanSwap graph kf from x n kt to y m → IsGraph (swapped_in from x n to y m graph)
graph_swapped graph is kf from x n kt to y m can = record {
  one_key = subst (λ (t : Map ℕ). (a b : Key) (q : ℕ) → t a ≡ Some q → t b ≡ Some q → a ≡ b) (sym new_numbers) (swap_one (numbers graph) (kf ++ x ∷ []) (kt ++ y ∷ []) can.aside is.one_key);
  of_dir = λ d q z e. let old = was d q z (eqb d from && same_name z x) (eqb d to && same_name z y) refl refl e in is.of_dir d old.0 z old.1;
  to_used = λ d q z e. used d q z (eqb d from && same_name z x) (eqb d to && same_name z y) e;
  listed = λ d names z e h. let old = is.listed d names z e h in leads d old.0 z (eqb d from && same_name z x) (eqb d to && same_name z y) old.1;
  root = is.root;
  loose = λ d q z e. let old = was d q z (eqb d from && same_name z x) (eqb d to && same_name z y) refl refl e in stays d (is.loose d old.0 z old.1);
}
  where
    new_numbers : numbers (swapped_in from x n to y m graph) ≡ swap (kf ++ x ∷ []) (kt ++ y ∷ []) (numbers graph)
    new_numbers = numbers_swapped graph is kf from x n kt to y m can

    here : (dir o d : ℕ) (w z : Name) → graph.child dir w ≡ Some o → (eqb d dir && same_name z w) ≡ true → graph.child d z ≡ Some o
    here dir o d w z e h = let t = both (eqb d dir) (same_name z w) h in ap₂ graph.child (eqb_true d dir t.0) (same_true z w t.1) ∙ e

    was : (d q : ℕ) (z : Name) (b c : Bool) → (eqb d from && same_name z x) ≡ b → (eqb d to && same_name z y) ≡ c → cond b (Some m) (cond c (Some n) (graph.child d z)) ≡ Some q → (o : ℕ) × (graph.child d z ≡ Some o)
    was d q z true c i j e = (n, here from n d x z can.there i)
    was d q z false true i j e = (m, here to m d y z can.there_too j)
    was d q z false false i j e = (q, e)

    used : (d q : ℕ) (z : Name) (b c : Bool) → cond b (Some m) (cond c (Some n) (graph.child d z)) ≡ Some q → (s : Shape) × (graph.shape q ≡ Some s)
    used d q z true c e = let f : m ≡ q = cc in subst (λ (p : ℕ). (s : Shape) × (graph.shape p ≡ Some s)) f (is.to_used to m y can.there_too)
    used d q z false true e = let f : n ≡ q = cc in subst (λ (p : ℕ). (s : Shape) × (graph.shape p ≡ Some s)) f (is.to_used from n x can.there)
    used d q z false false e = is.to_used d q z e

    leads : (d o : ℕ) (z : Name) (b c : Bool) → graph.child d z ≡ Some o → (q : ℕ) × (cond b (Some m) (cond c (Some n) (graph.child d z)) ≡ Some q)
    leads d o z true c e = (m, refl)
    leads d o z false true e = (n, refl)
    leads d o z false false e = (o, e)

    stays : (d : ℕ) → (key : Key) × (numbers graph key ≡ Some d) → (key : Key) × (numbers (swapped_in from x n to y m graph) key ≡ Some d)
    stays d (key, e) = (swapped (kf ++ x ∷ []) (kt ++ y ∷ []) key, ap (λ (t : Map ℕ). t (swapped (kf ++ x ∷ []) (kt ++ y ∷ []) key)) new_numbers ∙ ap (numbers graph) (swapped_twice (kf ++ x ∷ []) (kt ++ y ∷ []) key can.aside.0 can.aside.1) ∙ e)
