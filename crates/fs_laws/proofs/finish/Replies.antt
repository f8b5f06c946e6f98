-- A finish gives the reply of the sequential tree and the tree that it leaves, at the key where the call stands.
use Rattle.std.proofs.Common.{◌≡◌, ℕ, Bool, true, false, List, [], ◌∷◌, ◌++◌, Option, Some, None, refl, sym, ap, ap₂, ◌∙◌, append-nil}
use Rattle.fs_names.specs.Keys.{Key, parent_of, last_of}
use Rattle.fs_names.specs.Names.{Name, has_name, inserted_name, removed_name}
use Rattle.fs_names.specs.Parts.{common}
use Rattle.fs_names.specs.Shapes.{Shape, Dir, File, is_full, names_of}
use Rattle.fs_laws.specs.Changes.{Change, changed, looked, edit_change, reply, if_sound}
use Rattle.fs_calls.specs.Forms.{Form, AtNode, AtEntry, AtPair, under, new_shape, Fits, EntryCall, Mkdir, Mknod, Unlink, Rmdir}
use Rattle.fs_laws.specs.Maps.{Map, put}
use Rattle.fs_calls.specs.Rows.{as_dir, node_row, Edit, Keep, Add, Remove, entry_row}
use Rattle.fs_calls.specs.declared.errno.Errno.{Errno}
use Rattle.fs_calls.specs.declared.errno.Errno.TheVariants.{Enoent, Enotdir, Eexist, Enotempty, Eperm, Enospc}
use Rattle.fs_calls.specs.declared.reply.Reply.{Reply}
use Rattle.fs_calls.specs.declared.reply.Reply.TheVariants.{Done, Failed}
use Rattle.fs_calls.specs.Graphs.{Graph, then_at, numbers, graph_shapes, entry_shape, IsGraph, unlinked_in}
use Rattle.fs_machine.specs.Finishes.{Effect, node_effect, entry_effect, effect_at}
use Rattle.fs_machine.specs.Moves.{target_move, next_on, walk_errno, path_error, dir_error}
use Rattle.fs_machine.specs.declared.moves.Move.TheVariants.{Finish as Finishes}
use Rattle.fs_machine.specs.declared.moves.Moved.{Moved}
use Rattle.fs_machine.specs.declared.moves.Moved.TheVariants.{Nothing}
use Rattle.fs_machine.specs.Records.{Holdings}
use Rattle.fs_laws.specs.Invariants.{HeadsSound, HasNumber}
use Rattle.fs_laws.proofs.calls.Behind.{finish_on}
use Rattle.fs_laws.proofs.calls.Located.{outcome_located, change_under, in_more, from_more, to_more}
use Rattle.fs_laws.proofs.graphs.Walks.{then_some}
use Rattle.fs_laws.proofs.graphs.TreesOfChanges.{resolve_at, shapes_linked, shapes_unlinked}
use Rattle.fs_laws.proofs.finish.Readings.{shapes_from, below_is, on_finish, in_finish, pair_finish}
use Rattle.fs_laws.proofs.finish.PairRows.{pair_row, pair_effect, looked_pair, effect_pair, row_stuck, effect_stuck, effect_reply}
use Rattle.fs_laws.proofs.finish.Pairs.{step_stops, Standing, Stuck, At_fork, standing, stuck_read}
use Rattle.fs_laws.proofs.finish.RowParts.{made}

on_reply : (graph : Graph) (n : ℕ) (reserved : Option ℕ) (r : Reply × Option (List ℕ)) → (node_effect graph n reserved r).reply ≡ r.0
on_reply graph n reserved (r, None) = refl
on_reply graph n reserved (r, Some bytes) = refl

in_reply : (graph : Graph) (n : ℕ) (x : Name) (reserved : Option ℕ) (r : Reply × Edit) → (entry_effect graph n x reserved r).reply ≡ r.0
in_reply graph n x reserved (r, Keep) = refl
in_reply graph n x None (r, Add shape) = refl
in_reply graph n x (Some m) (r, Add shape) = refl
in_reply graph n x None (r, Remove) = refl
in_reply graph n x (Some m) (r, Remove) = refl

looked_reply : (graph : Graph) → IsGraph graph → (s : Shape) (remaining : Form) (st : Holdings) (reserved : Option ℕ) (o : Moved) → graph.shape st.node ≡ Some s → Fits remaining → HeadsSound graph st.node remaining st → next_on graph remaining st ≡ Finishes o
    → (effect_at graph remaining st reserved).reply ≡ (looked (shapes_from graph st.node) remaining).0
looked_reply graph is s (AtNode c p) st reserved o u fits well e =
    on_reply graph st.node reserved (node_row c (path_error p (graph.shape st.node)) (graph.shape st.node))
    ∙ ap (λ (r : Reply × Option (List ℕ)). r.0) (on_finish graph is st.node s c p u (step_stops graph st.node p (Finishes Nothing) o (finish_on graph (AtNode c p) st o e)).0)
looked_reply graph is s (AtEntry c p) st reserved o u fits well e =
    in_reply graph st.node (last_of p) reserved (entry_row c (dir_error (parent_of p) (graph.shape st.node)) (graph.shape st.node) (entry_shape graph st.node (last_of p)))
    ∙ ap (λ (r : Reply × Edit). r.0) (in_finish graph is st.node s c p (in_more c p fits) u (step_stops graph st.node (parent_of p) (target_move graph (AtEntry c p) st) o (finish_on graph (AtEntry c p) st o e)).0)
looked_reply graph is s (AtPair c p q) st reserved o u fits well e =
    ap (λ (made : Effect). made.reply) (effect_pair graph c p q st reserved)
    ∙ by (standing graph is c p q st o well e)
    ∙ sym (ap (λ (r : Reply × Change). r.0) (looked_pair (shapes_from graph st.node) c p q))
  where
    by : Standing graph c p q st o → (pair_effect graph c p q st reserved (common (parent_of p) (parent_of q))).reply ≡ (pair_row (shapes_from graph st.node) c p q).0
    by (Stuck x l i stop) =
        ap (λ (k : Key). (pair_effect graph c p q st reserved k).reply) i
        ∙ ap (λ (made : Effect). made.reply) (effect_stuck graph c p q st reserved x l)
        ∙ sym (ap (λ (r : Reply × Bool). r.0) (row_stuck (shapes_from graph st.node) c p q (walk_errno (graph.shape st.node)) (stuck_read graph is s p q st x l u i stop)))
    by (At_fork i at_c m) =
        ap (λ (k : Key). (pair_effect graph c p q st reserved k).reply) i
        ∙ effect_reply graph c p q st reserved
        ∙ ap (λ (r : Reply × Bool). r.0) (pair_finish graph is st.node s c p q st (from_more c p q fits) (to_more c p q fits) u at_c)

-- the reply of a finish is the sequential tree's to the present call
pub finish_reply : (graph : Graph) → IsGraph graph → (k : Key) (s : Shape) (remaining : Form) (st : Holdings) (reserved : Option ℕ) (o : Moved) → numbers graph k ≡ Some st.node → graph.shape st.node ≡ Some s → Fits remaining → HeadsSound graph st.node remaining st → next_on graph remaining st ≡ Finishes o
    → (effect_at graph remaining st reserved).reply ≡ reply (graph_shapes graph) (under k remaining)
finish_reply graph is k s remaining st reserved o at_k u fits well e =
    looked_reply graph is s remaining st reserved o u fits well e
    ∙ ap (λ (z : Option Errno). (if_sound z (looked (shapes_from graph st.node) remaining)).0) (sym fits)
    ∙ ap (λ (t : Map Shape). reply t remaining) (sym (below_is graph k st.node at_k))
    ∙ sym (ap (λ (r : Reply × Change). r.0) (outcome_located (graph_shapes graph) k remaining (resolve_at graph is st.node k at_k) fits))

-- what the rows ask for, and when
same_add : (s t : Shape) (r : Reply) → ◌≡◌ {A = Reply × Edit} (Done, Add s) (r, Add t) → Some s ≡ Some t
same_add s t r e = let z : Add s ≡ Add t = ap (λ (o : Reply × Edit). o.1) e in cc

keep_add : (a : Reply) (s : Shape) (r : Reply) → ◌≡◌ {A = Reply × Edit} (a, Keep) (r, Add s) → ⊥
keep_add a s r e = let z : Keep ≡ Add s = ap (λ (o : Reply × Edit). o.1) e in cc

remove_add : (s : Shape) (r : Reply) → ◌≡◌ {A = Reply × Edit} (Done, Remove) (r, Add s) → ⊥
remove_add s r e = let z : Remove ≡ Add s = ap (λ (o : Reply × Edit). o.1) e in cc

keep_remove : (a r : Reply) → ◌≡◌ {A = Reply × Edit} (a, Keep) (r, Remove) → ⊥
keep_remove a r e = let z : Keep ≡ Remove = ap (λ (o : Reply × Edit). o.1) e in cc

made_add : (new : Shape) (full : Bool) (there : Option Shape) (r : Reply) (shape : Shape) → made new full there ≡ (r, Add shape) → (Some new ≡ Some shape) × (there ≡ None)
made_add new true None r shape e = absurd (keep_add (Failed Enospc) shape r e)
made_add new false None r shape e = (same_add new shape r e, refl)
made_add new full (Some s) r shape e = absurd (keep_add (Failed Eexist) shape r e)

pub add_of : (c : EntryCall) (e : Option Errno) (parent there : Option Shape) (r : Reply) (shape : Shape) → entry_row c e parent there ≡ (r, Add shape) → (e ≡ None) × (new_shape c ≡ Some shape) × (there ≡ None)
add_of c (Some f) parent there r shape e = absurd (keep_add (Failed f) shape r e)
add_of (Mkdir most) None parent there r shape e = let new = made_add (Dir []) (is_full most parent) there r shape e in (refl, new.0, new.1)
add_of (Mknod most) None parent there r shape e = let new = made_add (File []) (is_full most parent) there r shape e in (refl, new.0, new.1)
add_of Unlink None parent None r shape e = absurd (keep_add (Failed Enoent) shape r e)
add_of Unlink None parent (Some (Dir names)) r shape e = absurd (keep_add (Failed Eperm) shape r e)
add_of Unlink None parent (Some (File bytes)) r shape e = absurd (remove_add shape r e)
add_of Rmdir None parent None r shape e = absurd (keep_add (Failed Enoent) shape r e)
add_of Rmdir None parent (Some (File bytes)) r shape e = absurd (keep_add (Failed Enotdir) shape r e)
add_of Rmdir None parent (Some (Dir [])) r shape e = absurd (remove_add shape r e)
add_of Rmdir None parent (Some (Dir (x ∷ names))) r shape e = absurd (keep_add (Failed Enotempty) shape r e)

-- the victim has no entries
abbrev pub Leaf : Option Shape → Type 0
Leaf None = ⊥
Leaf (Some (File bytes)) = Unit {0}
Leaf (Some (Dir [])) = Unit {0}
Leaf (Some (Dir (x ∷ names))) = ⊥

not_add : (s : Shape) (r : Reply) → ◌≡◌ {A = Reply × Edit} (Done, Add s) (r, Remove) → ⊥
not_add s r e = let z : Add s ≡ Remove = ap (λ (o : Reply × Edit). o.1) e in cc

made_remove : (new : Shape) (full : Bool) (there : Option Shape) (r : Reply) → made new full there ≡ (r, Remove) → ⊥
made_remove new true None r e = keep_remove (Failed Enospc) r e
made_remove new false None r e = not_add new r e
made_remove new full (Some s) r e = keep_remove (Failed Eexist) r e

pub remove_of : (c : EntryCall) (e : Option Errno) (parent there : Option Shape) (r : Reply) → entry_row c e parent there ≡ (r, Remove) → Leaf there
remove_of c (Some f) parent there r e = absurd (keep_remove (Failed f) r e)
remove_of (Mkdir most) None parent there r e = absurd (made_remove (Dir []) (is_full most parent) there r e)
remove_of (Mknod most) None parent there r e = absurd (made_remove (File []) (is_full most parent) there r e)
remove_of Unlink None parent None r e = absurd (keep_remove (Failed Enoent) r e)
remove_of Unlink None parent (Some (Dir names)) r e = absurd (keep_remove (Failed Eperm) r e)
remove_of Unlink None parent (Some (File bytes)) r e = tt
remove_of Rmdir None parent None r e = absurd (keep_remove (Failed Enoent) r e)
remove_of Rmdir None parent (Some (File bytes)) r e = absurd (keep_remove (Failed Enotdir) r e)
remove_of Rmdir None parent (Some (Dir [])) r e = tt
remove_of Rmdir None parent (Some (Dir (x ∷ names))) r e = absurd (keep_remove (Failed Enotempty) r e)

pub leaf_children : (graph : Graph) → IsGraph graph → (n : ℕ) (s : Option Shape) → graph.shape n ≡ s → Leaf s → (y : Name) → graph.child n y ≡ None
leaf_children graph is n s e leaf y = go (graph.child n y) refl
  where
    not_leaf : (names : List Name) (t : Option Shape) → Leaf t → t ≡ Some (Dir names) → has_name y names ≡ true → ⊥
    not_leaf names None l i h = l
    not_leaf names (Some (File bytes)) l i h = cc
    not_leaf names (Some (Dir (z ∷ more))) l i h = l
    not_leaf names (Some (Dir [])) l i h = let z : [] ≡ names = cc in let w : has_name y [] ≡ true = ap (has_name y) z ∙ h in cc

    go : (o : Option ℕ) → graph.child n y ≡ o → o ≡ None
    go None i = refl
    go (Some m) i = let d : (names : List Name) × (graph.shape n ≡ Some (Dir names)) × (has_name y names ≡ true) = is.of_dir n m y i in absurd (not_leaf d.0 s leaf (sym e ∙ d.1) d.2)

pub no_entry : (graph : Graph) → IsGraph graph → (n : ℕ) (x : Name) → entry_shape graph n x ≡ None → graph.child n x ≡ None
no_entry graph is n x e = go (graph.child n x) refl e
  where
    go : (o : Option ℕ) → graph.child n x ≡ o → then_at o graph.shape ≡ None → o ≡ None
    go None i f = refl
    go (Some m) i f = let u : (s : Shape) × (graph.shape m ≡ Some s) = is.to_used n m x i in let z : ◌≡◌ {A = Option Shape} None (Some u.0) = sym f ∙ u.1 in cc

pub some_entry : (graph : Graph) (n : ℕ) (x : Name) (s : Shape) → entry_shape graph n x ≡ Some s → (m : ℕ) × (graph.child n x ≡ Some m) × (graph.shape m ≡ Some s)
some_entry graph n x s e = then_some (graph.child n x) graph.shape s e

-- an edit of the entry x of the node at k
pub edit_tree : (graph : Graph) → IsGraph graph → (k : Key) (n : ℕ) (names : List Name) (c : EntryCall) (x : Name) (reserved : Option ℕ) (r : Reply) (d : Edit) → numbers graph k ≡ Some n → HasNumber graph c reserved
    → entry_row c (as_dir None (graph.shape n)) (graph.shape n) (entry_shape graph n x) ≡ (r, d)
    → graph_shapes (entry_effect graph n x reserved (r, d)).graph ≡ changed (change_under k (edit_change [] (names_of (graph.shape n)) x (x ∷ []) d)) (graph_shapes graph)
edit_tree graph is k n names c x reserved r Keep at_k has e = refl
edit_tree graph is k n names c x reserved r (Add shape) at_k has e =
    let a : (as_dir None (graph.shape n) ≡ None) × (new_shape c ≡ Some shape) × (entry_shape graph n x ≡ None) = add_of c (as_dir None (graph.shape n)) (graph.shape n) (entry_shape graph n x) r shape e in
    let h : (m : ℕ) × (reserved ≡ Some m) × (graph.shape m ≡ Some shape) × ((key : Key) → numbers graph key ≡ Some m → ⊥) = has shape a.1 in
    ap (λ (o : Option ℕ). graph_shapes (entry_effect graph n x o (r, Add shape)).graph) h.1
    ∙ shapes_linked graph is k n x h.0 (record { dir_at = at_k; free = no_entry graph is n x a.2; used = (shape, h.2); unlinked = h.3 })
    ∙ ap₂ (λ (s : Option Shape) (l : Key). put (k ++ x ∷ []) s (put l (Some (Dir (inserted_name x (names_of (graph.shape n))))) (graph_shapes graph))) h.2 (sym (append-nil k))
edit_tree graph is k n names c x reserved r Remove at_k has e =
    let leaf : Leaf (entry_shape graph n x) = remove_of c (as_dir None (graph.shape n)) (graph.shape n) (entry_shape graph n x) r e in
    let m : (m : ℕ) × (graph.child n x ≡ Some m) × Leaf (graph.shape m) = leaf_of (graph.child n x) leaf in
    made_graph reserved
    ∙ shapes_unlinked graph is k n x m.0 (record { dir_at = at_k; there = m.1; leaf = leaf_children graph is m.0 (graph.shape m.0) refl m.2 })
    ∙ ap (λ (l : Key). put (k ++ x ∷ []) None (put l (Some (Dir (removed_name x (names_of (graph.shape n))))) (graph_shapes graph))) (sym (append-nil k))
  where
    made_graph : (o : Option ℕ) → graph_shapes (entry_effect graph n x o (r, Remove)).graph ≡ graph_shapes (unlinked_in n x graph)
    made_graph None = refl
    made_graph (Some m) = refl

    leaf_of : (o : Option ℕ) → Leaf (then_at o graph.shape) → (m : ℕ) × (o ≡ Some m) × Leaf (graph.shape m)
    leaf_of None l = absurd l
    leaf_of (Some m) l = (m, refl, l)
