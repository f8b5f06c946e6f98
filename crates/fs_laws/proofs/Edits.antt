-- Graphs and their edits under a renaming.
use Rattle.std.proofs.Common.{◌≡◌, ℕ, Bool, true, false, cond, eqb, ◌&&◌, List, [], ◌∷◌, Option, Some, None, refl, sym, ap, ap₂, ◌∙◌}
use mathlib.Core.Path.{fun_ext}
use Rattle.fs_names.specs.Keys.{Key}
use Rattle.fs_names.specs.Names.{Name, same_name, inserted_name, removed_name}
use Rattle.fs_names.specs.Shapes.{Shape, Dir, File, names_of}
use Rattle.fs_calls.specs.Graphs.{Graph, Children, at, numbers, graph_shapes, entry_shape, then_at, set_child, set_at, reserved_in, released_in, content_in, linked_in, unlinked_in, moved_in, swapped_in}
use Rattle.fs_laws.proofs.graphs.Walks.{eqb_refl, eqb_true}
use Rattle.fs_laws.specs.Renamings.{Renaming, by_old, renamed_number, renamed_children, renamed_graph}

-- an equation of numbers, read at the old or the new one
true_differs : (b : Bool) → (b ≡ true → ⊥) → b ≡ false
true_differs true h = absurd (h refl)
true_differs false h = refl

pub eqb_old : (r : Renaming) (m n : ℕ) → eqb (r.from m) n ≡ eqb m (r.to n)
eqb_old r m n = go (eqb m (r.to n)) refl
  where
    go : (b : Bool) → eqb m (r.to n) ≡ b → eqb (r.from m) n ≡ b
    go true e =
        let i : m ≡ r.to n = eqb_true m (r.to n) e in
        let j : r.from m ≡ n = ap r.from i ∙ r.there n in
        ap (λ (k : ℕ). eqb k n) j ∙ eqb_refl n
    go false e = true_differs (eqb (r.from m) n) (λ t.
        (let i : r.from m ≡ n = eqb_true (r.from m) n t in
        let j : m ≡ r.to n = sym (r.back m) ∙ ap r.to i in
        let k : eqb m (r.to n) ≡ true = ap (λ (x : ℕ). eqb x (r.to n)) j ∙ eqb_refl (r.to n) in
        let z : ◌≡◌ {A = Bool} true false = sym k ∙ e in
        cc))

-- numbers are read where they were
pub old_at : {A : Type 0} (r : Renaming) (f : ℕ → A) (n : ℕ) → by_old r f (r.to n) ≡ f n
old_at r f n = ap f (r.there n)

pub child_at : (r : Renaming) (child : Children) (n : ℕ) (x : Name) → renamed_children r child (r.to n) x ≡ renamed_number r (child n x)
child_at r child n x = ap (λ (m : ℕ). renamed_number r (child m x)) (r.there n)

pub walk_at : (r : Renaming) (child : Children) (n : ℕ) (key : Key) → at (renamed_children r child) (r.to n) key ≡ renamed_number r (at child n key)
walk_at r child n [] = refl
walk_at r child n (x ∷ key) = ap (λ (o : Option ℕ). then_at o (λ m. at (renamed_children r child) m key)) (child_at r child n x) ∙ go (λ m. walk_at r child m key) (child n x)
  where
    go : ((m : ℕ) → at (renamed_children r child) (r.to m) key ≡ renamed_number r (at child m key)) → (o : Option ℕ) → then_at (renamed_number r o) (λ m. at (renamed_children r child) m key) ≡ renamed_number r (then_at o (λ m. at child m key))
    go rest None = refl
    go rest (Some m) = rest m

then_old : {A : Type 0} (r : Renaming) (o : Option ℕ) (f : ℕ → Option A) → then_at (renamed_number r o) (by_old r f) ≡ then_at o f
then_old r None f = refl
then_old r (Some m) f = old_at r f m

pub entry_at : (r : Renaming) (graph : Graph) (n : ℕ) (x : Name) → entry_shape (renamed_graph r graph) (r.to n) x ≡ entry_shape graph n x
entry_at r graph n x = ap (λ (o : Option ℕ). then_at o (by_old r graph.shape)) (child_at r graph.child n x) ∙ then_old r (graph.child n x) graph.shape

pub numbers_renamed : (r : Renaming) (graph : Graph) (key : Key) → numbers (renamed_graph r graph) key ≡ renamed_number r (numbers graph key)
numbers_renamed r graph key = ap (λ (n : ℕ). at (renamed_children r graph.child) n key) (sym r.root) ∙ walk_at r graph.child 0 key

-- the spelled tree has no numbers
pub shapes_renamed : (r : Renaming) (graph : Graph) → graph_shapes (renamed_graph r graph) ≡ graph_shapes graph
shapes_renamed r graph = fun_ext (λ key. ap (λ (o : Option ℕ). then_at o (by_old r graph.shape)) (numbers_renamed r graph key) ∙ then_old r (numbers graph key) graph.shape)

-- one value is set
pub set_old : {A : Type 0} (r : Renaming) (n : ℕ) (v : A) (f : ℕ → A) → by_old r (set_at n v f) ≡ set_at (r.to n) v (by_old r f)
set_old r n v f = fun_ext (λ m. ap (λ (b : Bool). cond b v (f (r.from m))) (eqb_old r m n))

pub set_child_old : (r : Renaming) (dir : ℕ) (x : Name) (v : Option ℕ) (child : Children) → renamed_children r (set_child dir x v child) ≡ set_child (r.to dir) x (renamed_number r v) (renamed_children r child)
set_child_old r dir x v child = fun_ext (λ d. fun_ext (λ y. go d y (same_name y x)))
  where
    by : (d : ℕ) (y : Name) (b : Bool) → renamed_number r (cond b v (child (r.from d) y)) ≡ cond b (renamed_number r v) (renamed_children r child d y)
    by d y true = refl
    by d y false = refl

    go : (d : ℕ) (y : Name) (s : Bool) → renamed_number r (cond (eqb (r.from d) dir && s) v (child (r.from d) y)) ≡ cond (eqb d (r.to dir) && s) (renamed_number r v) (renamed_children r child d y)
    go d y s = ap (λ (b : Bool). renamed_number r (cond (b && s) v (child (r.from d) y))) (eqb_old r d dir) ∙ by d y (eqb d (r.to dir) && s)

-- two graphs with the same parts
pub same_graph : {k l : Children} {f g : ℕ → Option Shape} → k ≡ l → f ≡ g → ◌≡◌ {A = Graph} (record { child = k; shape = f }) (record { child = l; shape = g })
same_graph i j = ap₂ (λ (k : Children) (f : ℕ → Option Shape). record { child = k; shape = f }) i j

-- the edits
pub reserved_renamed : (r : Renaming) (n : ℕ) (s : Shape) (graph : Graph) → renamed_graph r (reserved_in n s graph) ≡ reserved_in (r.to n) s (renamed_graph r graph)
reserved_renamed r n s graph = same_graph refl (set_old r n (Some s) graph.shape)

pub released_renamed : (r : Renaming) (n : ℕ) (graph : Graph) → renamed_graph r (released_in n graph) ≡ released_in (r.to n) (renamed_graph r graph)
released_renamed r n graph = same_graph refl (set_old r n None graph.shape)

pub content_renamed : (r : Renaming) (n : ℕ) (bytes : List ℕ) (graph : Graph) → renamed_graph r (content_in n bytes graph) ≡ content_in (r.to n) bytes (renamed_graph r graph)
content_renamed r n bytes graph = same_graph refl (set_old r n (Some (File bytes)) graph.shape)

pub linked_renamed : (r : Renaming) (dir : ℕ) (x : Name) (n : ℕ) (graph : Graph) → renamed_graph r (linked_in dir x n graph) ≡ linked_in (r.to dir) x (r.to n) (renamed_graph r graph)
linked_renamed r dir x n graph = same_graph (set_child_old r dir x (Some n) graph.child)
    (set_old r dir (Some (Dir (inserted_name x (names_of (graph.shape dir))))) graph.shape
    ∙ ap (λ (s : Option Shape). set_at (r.to dir) (Some (Dir (inserted_name x (names_of s)))) (by_old r graph.shape)) (sym (old_at r graph.shape dir)))

pub unlinked_renamed : (r : Renaming) (dir : ℕ) (x : Name) (graph : Graph) → renamed_graph r (unlinked_in dir x graph) ≡ unlinked_in (r.to dir) x (renamed_graph r graph)
unlinked_renamed r dir x graph = same_graph (set_child_old r dir x None graph.child)
    (set_old r dir (Some (Dir (removed_name x (names_of (graph.shape dir))))) graph.shape
    ∙ ap (λ (s : Option Shape). set_at (r.to dir) (Some (Dir (removed_name x (names_of s)))) (by_old r graph.shape)) (sym (old_at r graph.shape dir)))

pub moved_renamed : (r : Renaming) (from : ℕ) (x : Name) (to : ℕ) (y : Name) (n : ℕ) (graph : Graph) → renamed_graph r (moved_in from x to y n graph) ≡ moved_in (r.to from) x (r.to to) y (r.to n) (renamed_graph r graph)
moved_renamed r from x to y n graph = linked_renamed r to y n (unlinked_in from x graph) ∙ ap (linked_in (r.to to) y (r.to n)) (unlinked_renamed r from x graph)

pub swapped_renamed : (r : Renaming) (from : ℕ) (x : Name) (n : ℕ) (to : ℕ) (y : Name) (m : ℕ) (graph : Graph) → renamed_graph r (swapped_in from x n to y m graph) ≡ swapped_in (r.to from) x (r.to n) (r.to to) y (r.to m) (renamed_graph r graph)
swapped_renamed r from x n to y m graph = same_graph
    (set_child_old r from x (Some m) (set_child to y (Some n) graph.child) ∙ ap (set_child (r.to from) x (Some (r.to m))) (set_child_old r to y (Some n) graph.child))
    refl
