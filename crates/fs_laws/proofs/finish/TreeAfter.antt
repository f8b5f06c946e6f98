-- A finish leaves the tree that the sequential tree leaves.
use Rattle.std.proofs.Common.{◌≡◌, ℕ, Bool, true, false, eqb, not, ◌||◌, List, [], ◌∷◌, ◌++◌, Option, Some, None, refl, sym, ap, ap₂, ◌∙◌, append-nil}
use Rattle.fs_names.specs.Keys.{Key, after_prefix, has_more, parent_of, last_of, is_end}
use Rattle.fs_names.specs.Names.{Name}
use Rattle.fs_names.specs.Parts.{common, left}
use Rattle.fs_names.specs.Shapes.{Shape, Dir, File, is_full, names_of}
use Rattle.fs_laws.specs.Changes.{Change, changed, resolve, looked, content_change, edit_change, move_change, rename_writes, outcome, after, if_sound}
use Rattle.fs_calls.specs.Forms.{NodeCall, Form, AtNode, AtEntry, AtPair, under, Fits, PairCall}
use Rattle.fs_calls.specs.Forms as pairs
use Rattle.fs_laws.specs.Maps.{Map, put, move, write_all}
use Rattle.fs_calls.specs.Rows.{as_dir, node_row, Edit, entry_row, rename_row}
use Rattle.fs_laws.proofs.finish.RowParts.{to_row, moves_row}
use Rattle.fs_calls.specs.declared.errno.Errno.{Errno}
use Rattle.fs_calls.specs.declared.reply.Reply.{Reply}
use Rattle.fs_calls.specs.Graphs.{Graph, then_at, at, numbers, graph_shapes, entry_shape, IsGraph}
use Rattle.fs_machine.specs.Finishes.{Effect, node_effect, move_effect, effect_at}
use Rattle.fs_machine.specs.Moves.{target_move, next_on, walk_errno, dir_error, there_by, rename_at}
use Rattle.fs_machine.specs.declared.moves.Move.TheVariants.{Finish as Finishes}
use Rattle.fs_machine.specs.declared.moves.Moved.{Moved}
use Rattle.fs_machine.specs.declared.moves.Moved.TheVariants.{Nothing}
use Rattle.fs_machine.specs.Records.{Holdings, Source, Dest}
use Rattle.fs_laws.specs.Invariants.{HeadsSound, NumberFor}
use Rattle.fs_laws.specs.Placed.{Aside}
use Rattle.fs_laws.proofs.trees.Prefixes.{prefix_append, prefix_some, prefix_both}
use Rattle.fs_laws.proofs.calls.Located.{outcome_located, change_under, writes_at, in_more, from_more, to_more, paths_aside}
use Rattle.fs_laws.proofs.graphs.Walks.{at_from, eqb_refl, eqb_true}
use Rattle.fs_laws.proofs.graphs.TreesOfChanges.{resolve_at, shapes_content, shapes_moved}
use Rattle.fs_laws.proofs.finish.Readings.{shapes_from, below_is, in_finish, pair_finish, ForkAt, path_read, path_walked, entry_key}
use Rattle.fs_laws.proofs.calls.Behind.{finish_on}
use Rattle.fs_laws.proofs.finish.PairRows.{pair_at, pair_row, pair_change, pair_effect, looked_pair, effect_pair, row_stuck, effect_stuck, effect_still, change_still}
use Rattle.fs_laws.proofs.finish.Pairs.{step_stops, Standing, Stuck, At_fork, standing, stuck_read}
use Rattle.fs_laws.proofs.finish.Swaps.{swap_tree}
use Rattle.fs_laws.proofs.finish.Replies.{edit_tree, some_entry}

-- a row by which a rename really moves
pub record Really (a b : Option Errno) (m : Option Shape) (same_path : Bool) (there : Option Shape) (room : Bool) : Type 0 where
  pub moved : Shape
  pub source : a ≡ None
  pub dest : b ≡ None
  pub is : m ≡ Some moved
  pub other : same_path ≡ false
  pub to : to_row moved there room ≡ None

pub really : (a b : Option Errno) (m : Option Shape) (same_path : Bool) (there : Option Shape) (room : Bool) → (rename_row a b m same_path there room).1 ≡ true → Really a b m same_path there room
really (Some e) b m same_path there room i = cc
really None (Some e) m same_path there room i = cc
really None None None same_path there room i = cc
really None None (Some m) true there room i = cc
really None None (Some m) false there room i = record { moved = m; source = refl; dest = refl; is = refl; other = refl; to = go (to_row m there room) i }
  where
    go : (o : Option Errno) → (moves_row o).1 ≡ true → o ≡ None
    go None j = refl
    go (Some e) j = cc

pub full_row : (m : Shape) (there : Option Shape) (room b : Bool) → b ≡ true → to_row m (there_by b there) room ≡ None → ⊥
full_row (Dir names) there room true i e = cc
full_row (File bytes) there room true i e = cc
full_row (Dir names) there room false i e = cc
full_row (File bytes) there room false i e = cc

-- two parents are one node where they are one key
same_dirs : (graph : Graph) → IsGraph graph → (k a b : Key) (from to : ℕ) → numbers graph (k ++ a) ≡ Some from → numbers graph (k ++ b) ≡ Some to → eqb to from ≡ is_end (after_prefix a b)
same_dirs graph is k a b from to e f = go (eqb to from) (after_prefix a b) refl refl
  where
    go : (c : Bool) (o : Option Key) → eqb to from ≡ c → after_prefix a b ≡ o → c ≡ is_end o
    go true o i j =
        let z : k ++ a ≡ k ++ b = is.one_key (k ++ a) (k ++ b) from e (f ∙ ap Some (eqb_true to from i)) in
        let y : after_prefix a b ≡ Some [] = sym (prefix_both k a b) ∙ ap (after_prefix (k ++ a)) (sym z ∙ sym (append-nil (k ++ a))) ∙ prefix_append (k ++ a) [] in
        ap is_end (sym y ∙ j)
    go false (Some []) i j =
        let z : b ≡ a = prefix_some a b [] j ∙ append-nil a in
        let y : ◌≡◌ {A = Option ℕ} (Some to) (Some from) = sym f ∙ ap (λ (l : Key). numbers graph (k ++ l)) z ∙ e in
        let w : to ≡ from = cc in
        let v : eqb to from ≡ true = ap (λ (m : ℕ). eqb m from) w ∙ eqb_refl from in cc
    go false None i j = refl
    go false (Some (x ∷ r)) i j = refl

on_tree : (graph : Graph) → IsGraph graph → (k : Key) (n : ℕ) (reserved : Option ℕ) (r : Reply × Option (List ℕ)) → numbers graph k ≡ Some n → graph_shapes (node_effect graph n reserved r).graph ≡ changed (change_under k (content_change [] r.1)) (graph_shapes graph)
on_tree graph is k n reserved (r, None) e = refl
on_tree graph is k n reserved (r, Some bytes) e = shapes_content graph is k n bytes e ∙ ap (λ (l : Key). put l (Some (File bytes)) (graph_shapes graph)) (sym (append-nil k))

on_none : (graph : Graph) (k : Key) (c : NodeCall) (p : Key) (e : Option Errno) (f : Errno) (s : Option Shape) → Some f ≡ e → graph_shapes graph ≡ changed (change_under k (content_change p (node_row c e s).1)) (graph_shapes graph)
on_none graph k c p e f s i = ap (λ (o : Option Errno). changed (change_under k (content_change p (node_row c o s).1)) (graph_shapes graph)) i

-- a rename that really moves
move_tree : (graph : Graph) → IsGraph graph → (k : Key) (n : ℕ) (most : ℕ) (p q : Key) (st : Holdings) (reserved : Option ℕ) (r : Reply) → numbers graph k ≡ Some n → Fits (AtPair (pairs.Rename most) p q) → ForkAt graph n p q st
    → Really (dir_error (left st.source.walked (parent_of p)) (graph.shape st.source.node)) (dir_error (left st.dest.walked (parent_of q)) (graph.shape st.dest.node)) (entry_shape graph st.source.node (last_of p)) (is_end (after_prefix p q)) (there_by (has_more (after_prefix q p)) (entry_shape graph st.dest.node (last_of q))) (is_end (after_prefix (parent_of p) (parent_of q)) || not (is_full most (graph.shape st.dest.node)))
    → graph_shapes (move_effect graph st (last_of p) (last_of q) reserved r true (graph.child st.source.node (last_of p))).graph
    ≡ changed (change_under k (move_change true (rename_writes (is_end (after_prefix (parent_of p) (parent_of q))) (parent_of p) (names_of (shapes_from graph n (parent_of p))) (last_of p) (parent_of q) (names_of (shapes_from graph n (parent_of q))) (last_of q)) p q)) (graph_shapes graph)
move_tree graph is k n most p q st reserved r at_k fits f w =
    ap (λ (o : Option ℕ). graph_shapes (move_effect graph st (last_of p) (last_of q) reserved r true o).graph) m.1
    ∙ shapes_moved graph is (k ++ st.source.walked) st.source.node (last_of p) (k ++ st.dest.walked) st.dest.node (last_of q) m.0 (record { from_at = from_at; to_at = to_at; there = m.1; aside = aside })
    ∙ ap₂ (λ (s t : Key). move s t (write_all (rename_writes (eqb st.dest.node st.source.node) (k ++ st.source.walked) (names_of (graph.shape st.source.node)) (last_of p) (k ++ st.dest.walked) (names_of (graph.shape st.dest.node)) (last_of q)) (graph_shapes graph))) p_key q_key
    ∙ ap (λ (ws : List (Key × Option Shape)). move (k ++ p) (k ++ q) (write_all ws (graph_shapes graph))) writes
  where
    m : (m : ℕ) × (graph.child st.source.node (last_of p) ≡ Some m) × (graph.shape m ≡ Some w.moved)
    m = some_entry graph st.source.node (last_of p) w.moved w.is

    from_at : numbers graph (k ++ st.source.walked) ≡ Some st.source.node
    from_at = at_from graph.child 0 n k st.source.walked at_k ∙ f.fork.stands Source

    to_at : numbers graph (k ++ st.dest.walked) ≡ Some st.dest.node
    to_at = at_from graph.child 0 n k st.dest.walked at_k ∙ f.fork.stands Dest

    d_is : parent_of p ≡ st.source.walked
    d_is = path_walked Source graph n p q st f.fork w.source

    e_is : parent_of q ≡ st.dest.walked
    e_is = path_walked Dest graph n p q st f.fork w.dest

    p_key : (k ++ st.source.walked) ++ last_of p ∷ [] ≡ k ++ p
    p_key = entry_key Source k (pairs.Rename most) p q st fits d_is

    q_key : (k ++ st.dest.walked) ++ last_of q ∷ [] ≡ k ++ q
    q_key = entry_key Dest k (pairs.Rename most) p q st fits e_is

    apart : Aside p q
    apart = paths_aside (pairs.Rename most) p q fits w.other (λ b. full_row w.moved (entry_shape graph st.dest.node (last_of q)) (is_end (after_prefix (parent_of p) (parent_of q)) || not (is_full most (graph.shape st.dest.node))) (has_more (after_prefix q p)) b w.to)

    aside : Aside ((k ++ st.source.walked) ++ last_of p ∷ []) ((k ++ st.dest.walked) ++ last_of q ∷ [])
    aside = rw (p_key, q_key) (prefix_both k p q ∙ apart.0, prefix_both k q p ∙ apart.1)

    names_at : (h : ℕ) (u d : Key) → d ≡ u → at graph.child n u ≡ Some h → names_of (graph.shape h) ≡ names_of (shapes_from graph n d)
    names_at h u d i e = sym (ap (λ (l : Key). names_of (shapes_from graph n l)) i ∙ ap (λ (o : Option ℕ). names_of (then_at o graph.shape)) e)

    same_name : eqb st.dest.node st.source.node ≡ is_end (after_prefix (parent_of p) (parent_of q))
    same_name = same_dirs graph is k st.source.walked st.dest.walked st.source.node st.dest.node from_at to_at ∙ ap₂ (λ (a b : Key). is_end (after_prefix a b)) (sym d_is) (sym e_is)

    writes : rename_writes (eqb st.dest.node st.source.node) (k ++ st.source.walked) (names_of (graph.shape st.source.node)) (last_of p) (k ++ st.dest.walked) (names_of (graph.shape st.dest.node)) (last_of q)
        ≡ (change_under k (move_change true (rename_writes (is_end (after_prefix (parent_of p) (parent_of q))) (parent_of p) (names_of (shapes_from graph n (parent_of p))) (last_of p) (parent_of q) (names_of (shapes_from graph n (parent_of q))) (last_of q)) p q)).writes
    writes =
        ap (λ (b : Bool). rename_writes b (k ++ st.source.walked) (names_of (graph.shape st.source.node)) (last_of p) (k ++ st.dest.walked) (names_of (graph.shape st.dest.node)) (last_of q)) same_name
        ∙ ap₂ (λ (a b : Key). rename_writes (is_end (after_prefix (parent_of p) (parent_of q))) (k ++ a) (names_of (graph.shape st.source.node)) (last_of p) (k ++ b) (names_of (graph.shape st.dest.node)) (last_of q)) (sym d_is) (sym e_is)
        ∙ ap₂ (λ (a b : List Name). rename_writes (is_end (after_prefix (parent_of p) (parent_of q))) (k ++ parent_of p) a (last_of p) (k ++ parent_of q) b (last_of q)) (names_at st.source.node st.source.walked (parent_of p) d_is (f.fork.stands Source)) (names_at st.dest.node st.dest.walked (parent_of q) e_is (f.fork.stands Dest))
        ∙ writes_at k (is_end (after_prefix (parent_of p) (parent_of q))) (parent_of p) (names_of (shapes_from graph n (parent_of p))) (last_of p) (parent_of q) (names_of (shapes_from graph n (parent_of q))) (last_of q)

-- a pair that really moves
pair_tree : (graph : Graph) → IsGraph graph → (k : Key) (n : ℕ) (c : PairCall) (p q : Key) (st : Holdings) (reserved : Option ℕ) → numbers graph k ≡ Some n → Fits (AtPair c p q) → ForkAt graph n p q st → (pair_at graph c p q st).1 ≡ true
    → graph_shapes (pair_effect graph c p q st reserved []).graph ≡ changed (change_under k (pair_change (shapes_from graph n) c p q true)) (graph_shapes graph)
pair_tree graph is k n (pairs.Rename most) p q st reserved at_k fits f i =
    ap (λ (b : Bool). graph_shapes (move_effect graph st (last_of p) (last_of q) reserved (rename_at graph most p q st).0 b (graph.child st.source.node (last_of p))).graph) i
    ∙ move_tree graph is k n most p q st reserved (rename_at graph most p q st).0 at_k fits f (really (dir_error (left st.source.walked (parent_of p)) (graph.shape st.source.node)) (dir_error (left st.dest.walked (parent_of q)) (graph.shape st.dest.node)) (entry_shape graph st.source.node (last_of p)) (is_end (after_prefix p q)) (there_by (has_more (after_prefix q p)) (entry_shape graph st.dest.node (last_of q))) (is_end (after_prefix (parent_of p) (parent_of q)) || not (is_full most (graph.shape st.dest.node))) i)
pair_tree graph is k n pairs.Exchange p q st reserved at_k fits f i = swap_tree graph is k n p q st reserved at_k fits f.fork i

looked_tree : (graph : Graph) → IsGraph graph → (k : Key) (s : Shape) (remaining : Form) (st : Holdings) (reserved : Option ℕ) (o : Moved) → numbers graph k ≡ Some st.node → graph.shape st.node ≡ Some s → Fits remaining → HeadsSound graph st.node remaining st → NumberFor graph remaining reserved → next_on graph remaining st ≡ Finishes o
    → graph_shapes (effect_at graph remaining st reserved).graph ≡ changed (change_under k (looked (shapes_from graph st.node) remaining).1) (graph_shapes graph)
looked_tree graph is k s (AtNode c []) st reserved o at_k u fits well has e = on_tree graph is k st.node reserved (node_row c None (graph.shape st.node)) at_k
looked_tree graph is k s (AtNode c (x ∷ p)) st reserved o at_k u fits well has e =
    on_none graph k c (x ∷ p) (resolve (shapes_from graph st.node) (x ∷ p)) (walk_errno (graph.shape st.node)) (shapes_from graph st.node (x ∷ p))
    (path_read graph is st.node s (x ∷ p) u (step_stops graph st.node (x ∷ p) (Finishes Nothing) o (finish_on graph (AtNode c (x ∷ p)) st o e)).0)
looked_tree graph is k s (AtEntry c []) st reserved o at_k u fits well has e = absurd (in_more c [] fits)
looked_tree graph is k s (AtEntry c (x ∷ [])) st reserved o at_k u fits well has e =
    edit_tree graph is k st.node (names_of (graph.shape st.node)) c x reserved (row).0 (row).1 at_k has refl
    ∙ ap (λ (r : Reply × Edit). changed (change_under k (edit_change [] (names_of (graph.shape st.node)) x (x ∷ []) r.1)) (graph_shapes graph)) (in_finish graph is st.node s c (x ∷ []) tt u tt)
  where
    row : Reply × Edit
    row = entry_row c (as_dir None (graph.shape st.node)) (graph.shape st.node) (entry_shape graph st.node x)
looked_tree graph is k s (AtEntry c (x ∷ y ∷ p)) st reserved o at_k u fits well has e =
    ap (λ (r : Reply × Edit). changed (change_under k (edit_change (x ∷ parent_of (y ∷ p)) (names_of (shapes_from graph st.node (x ∷ parent_of (y ∷ p)))) (last_of (y ∷ p)) (x ∷ y ∷ p) r.1)) (graph_shapes graph))
    (in_finish graph is st.node s c (x ∷ y ∷ p) tt u (step_stops graph st.node (x ∷ parent_of (y ∷ p)) (target_move graph (AtEntry c (x ∷ y ∷ p)) st) o (finish_on graph (AtEntry c (x ∷ y ∷ p)) st o e)).0)
looked_tree graph is k s (AtPair c p q) st reserved o at_k u fits well has e =
    ap (λ (made : Effect). graph_shapes made.graph) (effect_pair graph c p q st reserved)
    ∙ by (standing graph is c p q st o well e)
    ∙ sym (ap (λ (r : Reply × Change). changed (change_under k r.1) (graph_shapes graph)) (looked_pair (shapes_from graph st.node) c p q))
  where
    after_row : Reply × Bool → Map Shape
    after_row r = changed (change_under k (pair_change (shapes_from graph st.node) c p q r.1)) (graph_shapes graph)

    still : (r : Reply × Bool) → r.1 ≡ false → graph_shapes graph ≡ after_row r
    still r i = sym (ap (λ (ch : Change). changed (change_under k ch) (graph_shapes graph)) (ap (pair_change (shapes_from graph st.node) c p q) i ∙ change_still (shapes_from graph st.node) c p q))

    at_parents : ForkAt graph st.node p q st → (b : Bool) → (pair_at graph c p q st).1 ≡ b → graph_shapes (pair_effect graph c p q st reserved []).graph ≡ after_row (pair_at graph c p q st)
    at_parents f false i = ap (λ (made : Effect). graph_shapes made.graph) (effect_still graph c p q st reserved i) ∙ still (pair_at graph c p q st) i
    at_parents f true i = pair_tree graph is k st.node c p q st reserved at_k fits f i ∙ ap (λ (b : Bool). changed (change_under k (pair_change (shapes_from graph st.node) c p q b)) (graph_shapes graph)) (sym i)

    by : Standing graph c p q st o → graph_shapes (pair_effect graph c p q st reserved (common (parent_of p) (parent_of q))).graph ≡ after_row (pair_row (shapes_from graph st.node) c p q)
    by (Stuck x l i stop) =
        ap (λ (l : Key). graph_shapes (pair_effect graph c p q st reserved l).graph) i
        ∙ ap (λ (made : Effect). graph_shapes made.graph) (effect_stuck graph c p q st reserved x l)
        ∙ still (pair_row (shapes_from graph st.node) c p q) (ap (λ (r : Reply × Bool). r.1) (row_stuck (shapes_from graph st.node) c p q (walk_errno (graph.shape st.node)) (stuck_read graph is s p q st x l u i stop)))
    by (At_fork i f m) =
        ap (λ (l : Key). graph_shapes (pair_effect graph c p q st reserved l).graph) i
        ∙ at_parents f (pair_at graph c p q st).1 refl
        ∙ ap after_row (pair_finish graph is st.node s c p q st (from_more c p q fits) (to_more c p q fits) u f)

-- the tree that a finish leaves is the one that the present call leaves
pub finish_tree : (graph : Graph) → IsGraph graph → (k : Key) (s : Shape) (remaining : Form) (st : Holdings) (reserved : Option ℕ) (o : Moved) → numbers graph k ≡ Some st.node → graph.shape st.node ≡ Some s → Fits remaining → HeadsSound graph st.node remaining st → NumberFor graph remaining reserved → next_on graph remaining st ≡ Finishes o
    → graph_shapes (effect_at graph remaining st reserved).graph ≡ after (graph_shapes graph) (under k remaining)
finish_tree graph is k s remaining st reserved o at_k u fits well has e =
    looked_tree graph is k s remaining st reserved o at_k u fits well has e
    ∙ ap (λ (z : Option Errno). changed (change_under k (if_sound z (looked (shapes_from graph st.node) remaining)).1) (graph_shapes graph)) (sym fits)
    ∙ ap (λ (t : Map Shape). changed (change_under k (outcome t remaining).1) (graph_shapes graph)) (sym (below_is graph k st.node at_k))
    ∙ sym (ap (λ (r : Reply × Change). changed r.1 (graph_shapes graph)) (outcome_located (graph_shapes graph) k remaining (resolve_at graph is st.node k at_k) fits))
