-- What linking and moving do to the tree that a graph spells, and that they leave a graph.
use Rattle.std.proofs.Common.{◌≡◌, ℕ, Bool, true, false, cond, eqb, ◌&&◌, List, [], ◌∷◌, ◌++◌, Option, Some, None, refl, sym, ap, ap₂, ◌∙◌, append-nil, subst}
use Rattle.std.proofs.lemmas.List.{append_cancel_left}
use mathlib.Core.Path.{fun_ext}
use Rattle.fs_names.specs.Keys.{Key, after_prefix}
use Rattle.fs_names.specs.Names.{Name, has_name, same_name, inserted_name, removed_name}
use Rattle.fs_names.specs.Shapes.{names_of, Dir, File, Shape}
use Rattle.fs_laws.specs.Changes.{rename_writes, resolve, resolve_next}
use Rattle.fs_laws.specs.Maps.{Map, move, moved_from, moved_to, put, put_at, write_all}
use Rattle.fs_calls.specs.declared.errno.Errno.{Errno}
use Rattle.fs_calls.specs.Graphs.{Graph, IsGraph, Children, at, content_in, linked_in, moved_in, numbers, set_child, set_at, graph_shapes, then_at, unlinked_in}
use Rattle.fs_laws.specs.Placed.{Aside}
use Rattle.fs_laws.proofs.trees.Prefixes.{prefix_append, prefix_some}
use Rattle.fs_laws.proofs.helping.FinishPassesPlaced.{prefix_before}
use Rattle.fs_laws.proofs.graphs.Walks.{eqb_refl, eqb_true, at_append, at_from, at_child, set_else, at_else, at_entry, at_inside, prefix_shorter, then_some}

-- a node without entries leads nowhere
at_leaf : (child : Children) (n : ℕ) (y : Name) (r : Key) → child n y ≡ None → at child n (y ∷ r) ≡ None
at_leaf child n y r e = ap (λ (o : Option ℕ). then_at o (λ m. at child m r)) e

-- a node that nothing leads to has no entries
pub loose_leaf : (graph : Graph) → IsGraph graph → (n : ℕ) → ((key : Key) → numbers graph key ≡ Some n → ⊥) → (y : Name) → graph.child n y ≡ None
loose_leaf graph is n h y = go (graph.child n y) refl
  where
    go : (o : Option ℕ) → graph.child n y ≡ o → o ≡ None
    go None e = refl
    go (Some m) e = let l : (key : Key) × (numbers graph key ≡ Some n) = is.loose n m y e in absurd (h l.0 l.1)

-- link
pub record CanLink (graph : Graph) (kd : Key) (dir : ℕ) (x : Name) (n : ℕ) : Type 0 where
  pub dir_at : numbers graph kd ≡ Some dir
  pub free : graph.child dir x ≡ None
  pub used : (s : Shape) × (graph.shape n ≡ Some s)
  pub unlinked : (key : Key) → numbers graph key ≡ Some n → ⊥

pub numbers_linked : (graph : Graph) → IsGraph graph → (kd : Key) (dir : ℕ) (x : Name) (n : ℕ) → CanLink graph kd dir x n → numbers (linked_in dir x n graph) ≡ put (kd ++ x ∷ []) (Some n) (numbers graph)
numbers_linked graph is kd dir x n can = fun_ext (λ key. go key (after_prefix (kd ++ x ∷ []) key) refl)
  where
    no_children : (y : Name) → set_child dir x (Some n) graph.child n y ≡ None
    no_children y = set_else dir x (Some n) graph.child n y (λ e f. can.unlinked kd (can.dir_at ∙ sym (ap Some e))) ∙ loose_leaf graph is n can.unlinked y

    inside : (r : Key) → at (set_child dir x (Some n) graph.child) n r ≡ put_at (Some n) (numbers graph) ((kd ++ x ∷ []) ++ r) (Some r)
    inside [] = refl
    inside (y ∷ r) =
        at_leaf (set_child dir x (Some n) graph.child) n y r (no_children y)
        ∙ sym (at_append graph.child 0 (kd ++ x ∷ []) (y ∷ r) ∙ ap (λ (o : Option ℕ). then_at o (λ m. at graph.child m (y ∷ r))) (at_child graph.child 0 dir kd x can.dir_at ∙ can.free))

    go : (key : Key) (o : Option Key) → after_prefix (kd ++ x ∷ []) key ≡ o → at (set_child dir x (Some n) graph.child) 0 key ≡ put_at (Some n) (numbers graph) key o
    go key None e = at_else graph.child dir x (Some n) kd key is.one_key can.dir_at e
    go key (Some r) e =
        ap (at (set_child dir x (Some n) graph.child) 0) (prefix_some (kd ++ x ∷ []) key r e)
        ∙ at_entry graph.child dir x (Some n) kd r is.one_key can.dir_at
        ∙ inside r
        ∙ ap (λ (q : Key). put_at (Some n) (numbers graph) q (Some r)) (sym (prefix_some (kd ++ x ∷ []) key r e))

put_map : (v : Option ℕ) (f : ℕ → Option Shape) (tree : Map ℕ) (key : Key) (o : Option Key) → then_at (put_at v tree key o) f ≡ put_at (then_at v f) (λ k. then_at (tree k) f) key o
put_map v f tree key None = refl
put_map v f tree key (Some []) = refl
put_map v f tree key (Some (x ∷ r)) = refl

-- another shape at one node
pub shapes_shaped : (graph : Graph) → ((a b : Key) (n : ℕ) → numbers graph a ≡ Some n → numbers graph b ≡ Some n → a ≡ b) → (kd : Key) (dir : ℕ) (v : Option Shape) → numbers graph kd ≡ Some dir → (λ (key : Key). then_at (numbers graph key) (set_at dir v graph.shape)) ≡ put kd v (graph_shapes graph)
shapes_shaped graph is kd dir v e = fun_ext (λ key. go key (after_prefix kd key) refl)
  where
    other : (key : Key) (o : Option ℕ) → numbers graph key ≡ o → (key ≡ kd → ⊥) → then_at o (set_at dir v graph.shape) ≡ then_at o graph.shape
    other key None f n = refl
    other key (Some m) f n = test (eqb m dir) refl
      where
        test : (b : Bool) → eqb m dir ≡ b → cond b v (graph.shape m) ≡ graph.shape m
        test true i = absurd (n (is key kd dir (f ∙ ap Some (eqb_true m dir i)) e))
        test false i = refl

    differs : (key r : Key) (x : Name) → after_prefix kd key ≡ Some (x ∷ r) → key ≡ kd → ⊥
    differs key r x i j = let a : after_prefix kd kd ≡ Some (x ∷ r) = ap (after_prefix kd) (sym j) ∙ i in let b : after_prefix kd (kd ++ []) ≡ Some [] = prefix_append kd [] in let c : after_prefix kd kd ≡ Some [] = ap (after_prefix kd) (sym (append-nil kd)) ∙ b in cc

    off : (key : Key) → after_prefix kd key ≡ None → key ≡ kd → ⊥
    off key i j = let a : after_prefix kd kd ≡ None = ap (after_prefix kd) (sym j) ∙ i in let c : after_prefix kd kd ≡ Some [] = ap (after_prefix kd) (sym (append-nil kd)) ∙ prefix_append kd [] in cc

    go : (key : Key) (o : Option Key) → after_prefix kd key ≡ o → then_at (numbers graph key) (set_at dir v graph.shape) ≡ put_at v (graph_shapes graph) key o
    go key None i = other key (numbers graph key) refl (off key i)
    go key (Some []) i =
        ap (λ (o : Option ℕ). then_at o (set_at dir v graph.shape)) (ap (numbers graph) (prefix_some kd key [] i ∙ append-nil kd) ∙ e)
        ∙ ap (λ (b : Bool). cond b v (graph.shape dir)) (eqb_refl dir)
    go key (Some (x ∷ r)) i = other key (numbers graph key) refl (differs key r x i)

-- a write of a file's bytes
pub shapes_content : (graph : Graph) → IsGraph graph → (k : Key) (n : ℕ) (bytes : List ℕ) → numbers graph k ≡ Some n → graph_shapes (content_in n bytes graph) ≡ put k (Some (File bytes)) (graph_shapes graph)
shapes_content graph is k n bytes e = shapes_shaped graph is.one_key k n (Some (File bytes)) e

set_other : (n : ℕ) (v : Option Shape) (shape : ℕ → Option Shape) (m : ℕ) → (m ≡ n → ⊥) → set_at n v shape m ≡ shape m
set_other n v shape m h = go (eqb m n) refl
  where
    go : (b : Bool) → eqb m n ≡ b → cond b v (shape m) ≡ shape m
    go true e = absurd (h (eqb_true m n e))
    go false e = refl

-- a link writes the directory's names and the new node
pub shapes_linked : (graph : Graph) → IsGraph graph → (kd : Key) (dir : ℕ) (x : Name) (n : ℕ) → CanLink graph kd dir x n
    → graph_shapes (linked_in dir x n graph) ≡ put (kd ++ x ∷ []) (graph.shape n) (put kd (Some (Dir (inserted_name x (names_of (graph.shape dir))))) (graph_shapes graph))
shapes_linked graph is kd dir x n can =
    ap (λ (t : Map ℕ). λ (key : Key). then_at (t key) (set_at dir v graph.shape)) (numbers_linked graph is kd dir x n can)
    ∙ fun_ext (λ key. put_map (Some n) (set_at dir v graph.shape) (numbers graph) key (after_prefix (kd ++ x ∷ []) key))
    ∙ ap₂ (λ (s : Option Shape) (t : Map Shape). put (kd ++ x ∷ []) s t)
    (set_other dir v graph.shape n (λ i. can.unlinked kd (can.dir_at ∙ sym (ap Some i))))
    (shapes_shaped graph is.one_key kd dir v can.dir_at)
  where
    v : Option Shape
    v = Some (Dir (inserted_name x (names_of (graph.shape dir))))

-- unlink: the node has no entries
pub record CanUnlink (graph : Graph) (kd : Key) (dir : ℕ) (x : Name) (n : ℕ) : Type 0 where
  pub dir_at : numbers graph kd ≡ Some dir
  pub there : graph.child dir x ≡ Some n
  pub leaf : (y : Name) → graph.child n y ≡ None

pub numbers_unlinked : (graph : Graph) → IsGraph graph → (kd : Key) (dir : ℕ) (x : Name) (n : ℕ) → CanUnlink graph kd dir x n → numbers (unlinked_in dir x graph) ≡ put (kd ++ x ∷ []) None (numbers graph)
numbers_unlinked graph is kd dir x n can = fun_ext (λ key. go key (after_prefix (kd ++ x ∷ []) key) refl)
  where
    inside : (r : Key) → None ≡ put_at None (numbers graph) ((kd ++ x ∷ []) ++ r) (Some r)
    inside [] = refl
    inside (y ∷ r) =
        sym (at_from graph.child 0 n (kd ++ x ∷ []) (y ∷ r) (at_child graph.child 0 dir kd x can.dir_at ∙ can.there) ∙ at_leaf graph.child n y r (can.leaf y))

    go : (key : Key) (o : Option Key) → after_prefix (kd ++ x ∷ []) key ≡ o → at (set_child dir x None graph.child) 0 key ≡ put_at None (numbers graph) key o
    go key None e = at_else graph.child dir x None kd key is.one_key can.dir_at e
    go key (Some r) e =
        ap (at (set_child dir x None graph.child) 0) (prefix_some (kd ++ x ∷ []) key r e)
        ∙ at_entry graph.child dir x None kd r is.one_key can.dir_at
        ∙ inside r
        ∙ ap (λ (q : Key). put_at None (numbers graph) q (Some r)) (sym (prefix_some (kd ++ x ∷ []) key r e))

pub shapes_unlinked : (graph : Graph) → IsGraph graph → (kd : Key) (dir : ℕ) (x : Name) (n : ℕ) → CanUnlink graph kd dir x n
    → graph_shapes (unlinked_in dir x graph) ≡ put (kd ++ x ∷ []) None (put kd (Some (Dir (removed_name x (names_of (graph.shape dir))))) (graph_shapes graph))
shapes_unlinked graph is kd dir x n can =
    ap (λ (t : Map ℕ). λ (key : Key). then_at (t key) (set_at dir v graph.shape)) (numbers_unlinked graph is kd dir x n can)
    ∙ fun_ext (λ key. put_map None (set_at dir v graph.shape) (numbers graph) key (after_prefix (kd ++ x ∷ []) key))
    ∙ ap (λ (t : Map Shape). put (kd ++ x ∷ []) None t) (shapes_shaped graph is.one_key kd dir v can.dir_at)
  where
    v : Option Shape
    v = Some (Dir (removed_name x (names_of (graph.shape dir))))

-- move
pub record CanMove (graph : Graph) (kf : Key) (from : ℕ) (x : Name) (kt : Key) (to : ℕ) (y : Name) (n : ℕ) : Type 0 where
  pub from_at : numbers graph kf ≡ Some from
  pub to_at : numbers graph kt ≡ Some to
  pub there : graph.child from x ≡ Some n
  pub aside : Aside (kf ++ x ∷ []) (kt ++ y ∷ [])

-- a walk after a cut is one before it
pub at_cut : (child : Children) (dir : ℕ) (x : Name) (n m : ℕ) (key : Key) → at (set_child dir x None child) n key ≡ Some m → at child n key ≡ Some m
at_cut child dir x n m [] e = e
at_cut child dir x n m (y ∷ key) e =
    let s : (q : ℕ) × (set_child dir x None child n y ≡ Some q) × (at (set_child dir x None child) q key ≡ Some m) = then_some (set_child dir x None child n y) (λ q. at (set_child dir x None child) q key) m e in
    ap (λ (o : Option ℕ). then_at o (λ q. at child q key)) (kept s.0 (eqb n dir && same_name y x) s.1) ∙ at_cut child dir x s.0 m key s.2
  where
    kept : (q : ℕ) (b : Bool) → cond b None (child n y) ≡ Some q → child n y ≡ Some q
    kept q true e = cc
    kept q false e = e

pub numbers_moved : (graph : Graph) → IsGraph graph → (kf : Key) (from : ℕ) (x : Name) (kt : Key) (to : ℕ) (y : Name) (n : ℕ) → CanMove graph kf from x kt to y n → numbers (moved_in from x to y n graph) ≡ move (kf ++ x ∷ []) (kt ++ y ∷ []) (numbers graph)
numbers_moved graph is kf from x kt to y n can = fun_ext (λ key. go key (after_prefix (kt ++ y ∷ []) key) refl)
  where
    cut : Children
    cut = set_child from x None graph.child

    one : (a b : Key) (m : ℕ) → at (set_child from x None graph.child) 0 a ≡ Some m → at (set_child from x None graph.child) 0 b ≡ Some m → a ≡ b
    one a b m e f = is.one_key a b m (at_cut graph.child from x 0 m a e) (at_cut graph.child from x 0 m b f)

    n_at : numbers graph (kf ++ x ∷ []) ≡ Some n
    n_at = at_child graph.child 0 from kf x can.from_at ∙ can.there

    to_cut : at (set_child from x None graph.child) 0 kt ≡ Some to
    to_cut = at_else graph.child from x None kf kt is.one_key can.from_at (prefix_before (kf ++ x ∷ []) kt (y ∷ []) can.aside.0) ∙ can.to_at

    not_to : (u : Key) → at (set_child from x None graph.child) n u ≡ Some to → ⊥
    not_to u e =
        let k : (kf ++ x ∷ []) ++ u ≡ kt = is.one_key ((kf ++ x ∷ []) ++ u) kt to (at_from graph.child 0 n (kf ++ x ∷ []) u n_at ∙ at_cut graph.child from x n to u e) can.to_at in
        let s : after_prefix (kf ++ x ∷ []) kt ≡ Some u = rw k at (prefix_append (kf ++ x ∷ []) u) in
        let t : after_prefix (kf ++ x ∷ []) kt ≡ None = prefix_before (kf ++ x ∷ []) kt (y ∷ []) can.aside.0 in
        cc

    not_from : (u : Key) → at graph.child n u ≡ Some from → ⊥
    not_from u e =
        let k : (kf ++ x ∷ []) ++ u ≡ kf = is.one_key ((kf ++ x ∷ []) ++ u) kf from (at_from graph.child 0 n (kf ++ x ∷ []) u n_at ∙ e) can.from_at in
        let s : after_prefix (kf ++ x ∷ []) kf ≡ Some u = subst (λ (q : Key). after_prefix (kf ++ x ∷ []) q ≡ Some u) k (prefix_append (kf ++ x ∷ []) u) in
        let t : after_prefix (kf ++ x ∷ []) kf ≡ None = prefix_shorter kf x in
        cc

    from_part : (key : Key) (o : Option Key) → after_prefix (kf ++ x ∷ []) key ≡ o → at (set_child from x None graph.child) 0 key ≡ moved_from (numbers graph) key o
    from_part key None e = at_else graph.child from x None kf key is.one_key can.from_at e
    from_part key (Some r) e = rw (prefix_some (kf ++ x ∷ []) key r e) (at_entry graph.child from x None kf r is.one_key can.from_at)

    go : (key : Key) (o : Option Key) → after_prefix (kt ++ y ∷ []) key ≡ o → at (set_child to y (Some n) (set_child from x None graph.child)) 0 key ≡ moved_to (kf ++ x ∷ []) (numbers graph) key o
    go key None e = at_else (set_child from x None graph.child) to y (Some n) kt key one to_cut e ∙ from_part key (after_prefix (kf ++ x ∷ []) key) refl
    go key (Some r) e =
        rw (prefix_some (kt ++ y ∷ []) key r e)
        (at_entry (set_child from x None graph.child) to y (Some n) kt r one to_cut
        ∙ at_inside (set_child from x None graph.child) to y (Some n) n r not_to
        ∙ at_inside graph.child from x None n r not_from
        ∙ sym (at_from graph.child 0 n (kf ++ x ∷ []) r n_at))

move_map : (s : Key) (f : ℕ → Option Shape) (tree : Map ℕ) (key : Key) (o : Option Key) → then_at (moved_to s tree key o) f ≡ moved_to s (λ k. then_at (tree k) f) key o
move_map s f tree key (Some r) = refl
move_map s f tree key None = go (after_prefix s key)
  where
    go : (o : Option Key) → then_at (moved_from tree key o) f ≡ moved_from (λ k. then_at (tree k) f) key o
    go None = refl
    go (Some r) = refl

-- with the names of both parents: one write where they are the same
abbrev pub moved_writes : Bool → Key → List Name → Name → Key → List Name → Name → List (Key × Option Shape)
moved_writes b = rename_writes b

shape_moved : (graph : Graph) → IsGraph graph → (kf : Key) (from : ℕ) (x : Name) (kt : Key) (to : ℕ) (y : Name) → numbers graph kf ≡ Some from → numbers graph kt ≡ Some to → (b : Bool) → eqb to from ≡ b
    → (λ (key : Key). then_at (numbers graph key) (set_at to (Some (Dir (inserted_name y (names_of (cond b (Some (Dir (removed_name x (names_of (graph.shape from))))) (graph.shape to)))))) (set_at from (Some (Dir (removed_name x (names_of (graph.shape from))))) graph.shape)))
    ≡ write_all (rename_writes b kf (names_of (graph.shape from)) x kt (names_of (graph.shape to)) y) (graph_shapes graph)
shape_moved graph is kf from x kt to y ef et true i =
    let same_name : to ≡ from = eqb_true to from i in
    fun_ext (λ key. ap (then_at (numbers graph key)) (fun_ext (λ m. twice m (eqb m to) refl)))
    ∙ shapes_shaped graph is.one_key kf to (Some (Dir (inserted_name y (removed_name x (names_of (graph.shape from)))))) (ef ∙ ap Some (sym same_name))
  where
    twice : (m : ℕ) (c : Bool) → eqb m to ≡ c → cond c (Some (Dir (inserted_name y (removed_name x (names_of (graph.shape from)))))) (set_at from (Some (Dir (removed_name x (names_of (graph.shape from))))) graph.shape m) ≡ cond c (Some (Dir (inserted_name y (removed_name x (names_of (graph.shape from)))))) (graph.shape m)
    twice m true e = refl
    twice m false e = set_other from (Some (Dir (removed_name x (names_of (graph.shape from))))) graph.shape m (λ j. (let z : eqb m to ≡ true = ap (λ (n : ℕ). eqb n to) (j ∙ sym (eqb_true to from i)) ∙ eqb_refl to in cc))
shape_moved graph is kf from x kt to y ef et false i =
    shapes_shaped cut is.one_key kt to (Some (Dir (inserted_name y (names_of (graph.shape to))))) et
    ∙ ap (put kt (Some (Dir (inserted_name y (names_of (graph.shape to)))))) (shapes_shaped graph is.one_key kf from (Some (Dir (removed_name x (names_of (graph.shape from))))) ef)
  where
    cut : Graph
    cut = record { child = graph.child; shape = set_at from (Some (Dir (removed_name x (names_of (graph.shape from))))) graph.shape }

pub shapes_moved : (graph : Graph) → IsGraph graph → (kf : Key) (from : ℕ) (x : Name) (kt : Key) (to : ℕ) (y : Name) (n : ℕ) → CanMove graph kf from x kt to y n
    → graph_shapes (moved_in from x to y n graph) ≡ move (kf ++ x ∷ []) (kt ++ y ∷ []) (write_all (rename_writes (eqb to from) kf (names_of (graph.shape from)) x kt (names_of (graph.shape to)) y) (graph_shapes graph))
shapes_moved graph is kf from x kt to y n can =
    ap (λ (t : Map ℕ). λ (key : Key). then_at (t key) (moved_in from x to y n graph).shape) (numbers_moved graph is kf from x kt to y n can)
    ∙ fun_ext (λ key. move_map (kf ++ x ∷ []) (moved_in from x to y n graph).shape (numbers graph) key (after_prefix (kt ++ y ∷ []) key))
    ∙ ap (move (kf ++ x ∷ []) (kt ++ y ∷ [])) (shape_moved graph is kf from x kt to y can.from_at can.to_at (eqb to from) refl)

-- one key for each number, after a write of a number that stood nowhere, and after a move
pub put_one : (tree : Map ℕ) (t : Key) (n : ℕ) → ((key : Key) → tree key ≡ Some n → ⊥) → ((a b : Key) (m : ℕ) → tree a ≡ Some m → tree b ≡ Some m → a ≡ b) → (a b : Key) (m : ℕ) → put t (Some n) tree a ≡ Some m → put t (Some n) tree b ≡ Some m → a ≡ b
put_one tree t n new one a b m e f = go (after_prefix t a) (after_prefix t b) refl refl e f
  where
    go : (o u : Option Key) → after_prefix t a ≡ o → after_prefix t b ≡ u → put_at (Some n) tree a o ≡ Some m → put_at (Some n) tree b u ≡ Some m → a ≡ b
    go (Some []) (Some []) i j e f = prefix_some t a [] i ∙ sym (prefix_some t b [] j)
    go (Some []) None i j e f = absurd (new b (f ∙ sym e))
    go (Some []) (Some (x ∷ q)) i j e f = absurd (new b (f ∙ sym e))
    go None (Some []) i j e f = absurd (new a (e ∙ sym f))
    go (Some (x ∷ r)) (Some []) i j e f = absurd (new a (e ∙ sym f))
    go None None i j e f = one a b m e f
    go None (Some (x ∷ q)) i j e f = one a b m e f
    go (Some (x ∷ r)) None i j e f = one a b m e f
    go (Some (x ∷ r)) (Some (y ∷ q)) i j e f = one a b m e f

pub move_one : (tree : Map ℕ) (s t : Key) → ((a b : Key) (m : ℕ) → tree a ≡ Some m → tree b ≡ Some m → a ≡ b) → (a b : Key) (m : ℕ) → move s t tree a ≡ Some m → move s t tree b ≡ Some m → a ≡ b
move_one tree s t one a b m e f = go (after_prefix t a) (after_prefix t b) refl refl e f
  where
    kept : (key : Key) (o : Option Key) → moved_from tree key o ≡ Some m → tree key ≡ Some m
    kept key None e = e
    kept key (Some r) e = cc

    not_both : (key r : Key) → moved_from tree key (after_prefix s key) ≡ Some m → key ≡ s ++ r → ⊥
    not_both key r e i = let j : after_prefix s key ≡ Some r = rw i (prefix_append s r) in let k : ◌≡◌ {A = Option ℕ} None (Some m) = rw j at e in cc

    go : (o u : Option Key) → after_prefix t a ≡ o → after_prefix t b ≡ u → moved_to s tree a o ≡ Some m → moved_to s tree b u ≡ Some m → a ≡ b
    go (Some r) (Some q) i j e f = prefix_some t a r i ∙ ap (λ (l : Key). t ++ l) (append_cancel_left s r q (one (s ++ r) (s ++ q) m e f)) ∙ sym (prefix_some t b q j)
    go (Some r) None i j e f = absurd (not_both b r f (one b (s ++ r) m (kept b (after_prefix s b) f) e))
    go None (Some q) i j e f = absurd (not_both a q e (one a (s ++ q) m (kept a (after_prefix s a) e) f))
    go None None i j e f = one a b m (kept a (after_prefix s a) e) (kept b (after_prefix s b) f)

next_found : {here child : Option Shape} {rest : Option Errno} {v : Shape} {names : List Name} → here ≡ Some (Dir names) → child ≡ Some v → rest ≡ None → resolve_next here child rest ≡ None
next_found {here} {child} {rest} {v} {names} d c r = rw (d, c, r) refl

-- a key that leads somewhere is there in the tree
pub resolve_found : (graph : Graph) → IsGraph graph → (m n : ℕ) (k : Key) (s : Shape) → graph.shape m ≡ Some s → at graph.child m k ≡ Some n → resolve (λ key. then_at (at graph.child m key) graph.shape) k ≡ None
resolve_found graph is m n [] s u e = refl
resolve_found graph is m n (x ∷ k) s u e =
    let g : (q : ℕ) × (graph.child m x ≡ Some q) × (at graph.child q k ≡ Some n) = then_some (graph.child m x) (λ q. at graph.child q k) n e in
    let d : (names : List Name) × (graph.shape m ≡ Some (Dir names)) × (has_name x names ≡ true) = is.of_dir m g.0 x g.1 in
    let c : (v : Shape) × (graph.shape g.0 ≡ Some v) = is.to_used m g.0 x g.1 in
    next_found d.1
    (ap (λ (o : Option ℕ). then_at (then_at o (λ q. Some q)) graph.shape) g.1 ∙ c.1)
    (ap (λ (o : Option ℕ). resolve (λ (key : Key). then_at (then_at o (λ q. at graph.child q key)) graph.shape) k) g.1 ∙ resolve_found graph is g.0 n k c.0 c.1 g.2)

pub resolve_at : (graph : Graph) → IsGraph graph → (n : ℕ) (k : Key) → numbers graph k ≡ Some n → resolve (graph_shapes graph) k ≡ None
resolve_at graph is n k e = resolve_found graph is 0 n k (Dir is.root.0) is.root.1 e
