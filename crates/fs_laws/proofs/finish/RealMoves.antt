-- A rename that really moves, and which nodes an exchange moves: what is known where it finishes.
use Rattle.std.proofs.Common.{◌≡◌, ℕ, Bool, true, false, not, ◌&&◌, ◌||◌, List, [], ◌∷◌, ◌++◌, Option, Some, None, refl, sym, ap, ap₂, ◌∙◌, subst, ◌⊎◌, inl, inr}
use Rattle.fs_names.specs.Keys.{Key, after_prefix, parent_of, last_of, has_more, is_end}
use Rattle.fs_names.specs.Names.{Name, has_name}
use Rattle.fs_names.specs.Parts.{left}
use Rattle.fs_names.specs.Shapes.{Shape, Dir, File, is_full}
use Rattle.fs_calls.specs.Forms.{AtPair, Fits, PairCall}
use Rattle.fs_calls.specs.Forms as pairs
use Rattle.fs_laws.proofs.finish.RowParts.{to_row}
use Rattle.fs_calls.specs.Graphs.{Graph, at, numbers, then_at, entry_shape, IsGraph}
use Rattle.fs_machine.specs.Moves.{first_of, step_move, take_if, same_kind, fork_move, rename_move, dir_then, dir_error, rename_at, there_by, moved_node, parents_move, exchange_at, exchange_move, moved_nodes}
use Rattle.fs_machine.specs.declared.moves.Move.{Move}
use Rattle.fs_machine.specs.declared.moves.Move.TheVariants.{Finish as Finishes}
use Rattle.fs_machine.specs.declared.moves.Moved.{Moved}
use Rattle.fs_machine.specs.declared.moves.Moved.TheVariants.{Two}
use Rattle.fs_laws.proofs.finish.Swaps.{RealSwap}
use Rattle.fs_machine.specs.Records.{Holdings, Source, Dest, Side, of_side, head_on}
use Rattle.fs_laws.specs.Invariants.{Forked, VictimAt}
use Rattle.fs_laws.specs.Placed.{Aside}
use Rattle.fs_laws.proofs.graphs.Walks.{then_some}
use Rattle.fs_laws.proofs.finish.Readings.{arrived, dir_of_none, path_walked, entry_key}
use Rattle.fs_laws.proofs.calls.Located.{paths_aside}
use Rattle.fs_laws.proofs.graphs.TreesOfChanges.{CanMove}
use Rattle.fs_laws.proofs.trees.Prefixes.{prefix_both}
use Rattle.fs_laws.specs.CallFacts.{Located}
use Rattle.fs_laws.proofs.finish.Pairs.{step_stops}
use Rattle.fs_laws.proofs.finish.Replies.{Leaf, some_entry}
use Rattle.fs_laws.proofs.finish.TreeAfter.{Really, really, full_row}
use Rattle.fs_laws.proofs.helping.ReadsNothingBelow.{take_done}

-- what the entry leads to: nothing, or the victim that the rename holds
abbrev pub Replaces : Graph → Holdings → Name → Type 0
Replaces graph st y = (graph.child st.dest.node y ≡ None) ⊎ ((v : ℕ) × (graph.child st.dest.node y ≡ Some v) × (st.victim ≡ Some v) × Leaf (graph.shape v))

pub record Real (graph : Graph) (p q : Key) (st : Holdings) : Type 0 where
  pub path : (side : Side) → parent_of (of_side side p q) ≡ (head_on side st).walked
  pub source_dir : (names : List Name) × (graph.shape st.source.node ≡ Some (Dir names))
  pub dest_dir : (names : List Name) × (graph.shape st.dest.node ≡ Some (Dir names))
  pub moved : (m : ℕ) × (graph.child st.source.node (last_of p) ≡ Some m)
  pub aside : Aside p q
  pub replaces : Replaces graph st (last_of q)

dir_then_is : (t : Option Shape) (names : List Name) (m : Move) (o : Moved) → t ≡ Some (Dir names) → dir_then t m ≡ Finishes o → m ≡ Finishes o
dir_then_is t names m o e f = ap (λ (s : Option Shape). dir_then s m) (sym e) ∙ f

to_leaf : (m s : Shape) (room : Bool) → to_row m (Some s) room ≡ None → (same_kind (Some m) (Some s) ≡ true) × Leaf (Some s)
to_leaf (Dir names) (Dir []) room e = (refl, tt)
to_leaf (Dir names) (Dir (x ∷ more)) room e = cc
to_leaf (Dir names) (File bytes) room e = cc
to_leaf (File bytes) (Dir names) room e = cc
to_leaf (File bytes) (File there) room e = (refl, tt)

all_true : (u v w : Bool) → u ≡ true → v ≡ false → w ≡ false → (u && not v && not w) ≡ true
all_true true false false i j k = refl
all_true false v w i j k = cc
all_true true true w i j k = cc
all_true true false true i j k = cc

-- a walk that is more than nothing sets out from a directory
pub walked_dir : (graph : Graph) → IsGraph graph → (n h : ℕ) (w : Key) (names : List Name) → at graph.child n w ≡ Some h → graph.shape h ≡ Some (Dir names) → (ns : List Name) × (graph.shape n ≡ Some (Dir ns))
walked_dir graph is n h [] names e f = let z : n ≡ h = cc in (names, ap graph.shape z ∙ f)
walked_dir graph is n h (x ∷ w) names e f =
    let g : (c : ℕ) × (graph.child n x ≡ Some c) × (at graph.child c w ≡ Some h) = then_some (graph.child n x) (λ c. at graph.child c w) h e in
    let d : (ns : List Name) × (graph.shape n ≡ Some (Dir ns)) × (has_name x ns ≡ true) = is.of_dir n g.0 x g.1 in
    (d.0, d.1)

-- at both parents, that are directories, the next move is decided by the entries
pub at_entries : (graph : Graph) → IsGraph graph → (pair : PairCall) (p q : Key) (st : Holdings) (o : Moved) → Forked graph st.node p q st
    → dir_error (left st.source.walked (parent_of p)) (graph.shape st.source.node) ≡ None → dir_error (left st.dest.walked (parent_of q)) (graph.shape st.dest.node) ≡ None
    → fork_move graph pair p q st ≡ Finishes o → parents_move graph pair p q st ≡ Finishes o
at_entries graph is pair p q st o f es ed e =
    let sd : (names : List Name) × (graph.shape st.source.node ≡ Some (Dir names)) = dir_of_none (left st.source.walked (parent_of p)) (graph.shape st.source.node) es in
    let dd : (names : List Name) × (graph.shape st.dest.node ≡ Some (Dir names)) = dir_of_none (left st.dest.walked (parent_of q)) (graph.shape st.dest.node) ed in
    let nd : (names : List Name) × (graph.shape st.node ≡ Some (Dir names)) = walked_dir graph is st.node st.source.node st.source.walked sd.0 (f.stands Source) sd.1 in
    let rest2 : Move = dir_then (graph.shape st.dest.node) (parents_move graph pair p q st) in
    let rest1 : Move = dir_then (graph.shape st.source.node) (first_of (step_move graph st.dest.node (left st.dest.walked (parent_of q))) rest2) in
    let a : first_of (step_move graph st.source.node (left st.source.walked (parent_of p))) rest1 ≡ Finishes o = dir_then_is (graph.shape st.node) nd.0 (first_of (step_move graph st.source.node (left st.source.walked (parent_of p))) rest1) o nd.1 e in
    let b : rest1 ≡ Finishes o = (step_stops graph st.source.node (left st.source.walked (parent_of p)) rest1 o a).1 (arrived (left st.source.walked (parent_of p)) (graph.shape st.source.node) es) in
    let c : first_of (step_move graph st.dest.node (left st.dest.walked (parent_of q))) rest2 ≡ Finishes o = dir_then_is (graph.shape st.source.node) sd.0 (first_of (step_move graph st.dest.node (left st.dest.walked (parent_of q))) rest2) o sd.1 b in
    let d : rest2 ≡ Finishes o = (step_stops graph st.dest.node (left st.dest.walked (parent_of q)) rest2 o c).1 (arrived (left st.dest.walked (parent_of q)) (graph.shape st.dest.node) ed) in
    dir_then_is (graph.shape st.dest.node) dd.0 (parents_move graph pair p q st) o dd.1 d

-- a victim that the kinds ask for is held
pub victim_held : (graph : Graph) (most : ℕ) (p q : Key) (st : Holdings) (o : Moved) (v : ℕ) → VictimAt graph (AtPair (pairs.Rename most) p q) st → rename_move graph most p q st ≡ Finishes o → graph.child st.dest.node (last_of q) ≡ Some v
    → (same_kind (entry_shape graph st.source.node (last_of p)) (entry_shape graph st.dest.node (last_of q)) && not (is_end (after_prefix p q)) && not (has_more (after_prefix q p))) ≡ true → st.victim ≡ Some v
victim_held graph most p q st o v victim e child want =
    let b : Bool = same_kind (entry_shape graph st.source.node (last_of p)) (entry_shape graph st.dest.node (last_of q)) && not (is_end (after_prefix p q)) && not (has_more (after_prefix q p)) in
    let m : Moved = moved_node (rename_at graph most p q st).1 (graph.child st.source.node (last_of p)) in
    let t : take_if b (Some v) st.victim (Finishes m) ≡ Finishes o = ap (λ (n : Option ℕ). take_if b n st.victim (Finishes m)) (sym child) ∙ e in
    let w : (w : ℕ) × (st.victim ≡ Some w) = take_done b v st.victim o m want t in
    let z : ◌≡◌ {A = Option ℕ} (Some w.0) (Some v) = sym (victim w.0 w.1).0 ∙ child in
    w.1 ∙ z

pub real_of : (graph : Graph) → IsGraph graph → (most : ℕ) (p q : Key) (st : Holdings) (o : Moved) → Fits (AtPair (pairs.Rename most) p q) → Forked graph st.node p q st → VictimAt graph (AtPair (pairs.Rename most) p q) st → fork_move graph (pairs.Rename most) p q st ≡ Finishes o → (rename_at graph most p q st).1 ≡ true
    → Real graph p q st
real_of graph is most p q st o fits f victim e moves = record {
  path = path;
  source_dir = dir_of_none (left st.source.walked (parent_of p)) (graph.shape st.source.node) w.source;
  dest_dir = dir_of_none (left st.dest.walked (parent_of q)) (graph.shape st.dest.node) w.dest;
  moved = let g : (m : ℕ) × (graph.child st.source.node (last_of p) ≡ Some m) × (graph.shape m ≡ Some w.moved) = some_entry graph st.source.node (last_of p) w.moved w.is in (g.0, g.1);
  aside = paths_aside (pairs.Rename most) p q fits w.other above;
  replaces = replaces (graph.child st.dest.node (last_of q)) refl;
}
  where
    room : Bool
    room = is_end (after_prefix (parent_of p) (parent_of q)) || not (is_full most (graph.shape st.dest.node))

    w : Really (dir_error (left st.source.walked (parent_of p)) (graph.shape st.source.node)) (dir_error (left st.dest.walked (parent_of q)) (graph.shape st.dest.node)) (entry_shape graph st.source.node (last_of p)) (is_end (after_prefix p q)) (there_by (has_more (after_prefix q p)) (entry_shape graph st.dest.node (last_of q))) (is_end (after_prefix (parent_of p) (parent_of q)) || not (is_full most (graph.shape st.dest.node)))
    w = really (dir_error (left st.source.walked (parent_of p)) (graph.shape st.source.node)) (dir_error (left st.dest.walked (parent_of q)) (graph.shape st.dest.node)) (entry_shape graph st.source.node (last_of p)) (is_end (after_prefix p q)) (there_by (has_more (after_prefix q p)) (entry_shape graph st.dest.node (last_of q))) (is_end (after_prefix (parent_of p) (parent_of q)) || not (is_full most (graph.shape st.dest.node))) moves

    above : has_more (after_prefix q p) ≡ true → ⊥
    above b = full_row w.moved (entry_shape graph st.dest.node (last_of q)) (is_end (after_prefix (parent_of p) (parent_of q)) || not (is_full most (graph.shape st.dest.node))) (has_more (after_prefix q p)) b w.to

    path : (side : Side) → parent_of (of_side side p q) ≡ (head_on side st).walked
    path Source = path_walked Source graph st.node p q st f w.source
    path Dest = path_walked Dest graph st.node p q st f w.dest

    not_above : (b : Bool) → has_more (after_prefix q p) ≡ b → b ≡ false
    not_above true i = absurd (above i)
    not_above false i = refl

    no_prefix : has_more (after_prefix q p) ≡ false
    no_prefix = (let z : (b : Bool) → has_more (after_prefix q p) ≡ b → has_more (after_prefix q p) ≡ false = λ b i. i ∙ not_above b i in z (has_more (after_prefix q p)) refl)

    replaces : (v : Option ℕ) → graph.child st.dest.node (last_of q) ≡ v → Replaces graph st (last_of q)
    replaces None i = inl i
    replaces (Some v) i =
        let u : (s : Shape) × (graph.shape v ≡ Some s) = is.to_used st.dest.node v (last_of q) i in
        let entry : entry_shape graph st.dest.node (last_of q) ≡ Some u.0 = ap (λ (n : Option ℕ). then_at n graph.shape) i ∙ u.1 in
        let row : to_row w.moved (Some u.0) (is_end (after_prefix (parent_of p) (parent_of q)) || not (is_full most (graph.shape st.dest.node))) ≡ None =
        ap (λ (t : Option Shape). to_row w.moved t (is_end (after_prefix (parent_of p) (parent_of q)) || not (is_full most (graph.shape st.dest.node)))) (sym (ap₂ there_by no_prefix entry)) ∙ w.to in
        let l : (same_kind (Some w.moved) (Some u.0) ≡ true) × Leaf (Some u.0) = to_leaf w.moved u.0 (is_end (after_prefix (parent_of p) (parent_of q)) || not (is_full most (graph.shape st.dest.node))) row in
        let want : (same_kind (entry_shape graph st.source.node (last_of p)) (entry_shape graph st.dest.node (last_of q)) && not (is_end (after_prefix p q)) && not (has_more (after_prefix q p))) ≡ true =
        all_true (same_kind (entry_shape graph st.source.node (last_of p)) (entry_shape graph st.dest.node (last_of q))) (is_end (after_prefix p q)) (has_more (after_prefix q p)) (ap₂ same_kind w.is entry ∙ l.0) w.other no_prefix in
        inr (v, i, victim_held graph most p q st o v victim (at_entries graph is (pairs.Rename most) p q st o f w.source w.dest e) i want, subst Leaf (sym u.1) l.1)

-- from where a call stands, by the keys of both entries
pub can_move : (graph : Graph) (most : ℕ) (k p q : Key) (st : Holdings) → Located (numbers graph) k st → Fits (AtPair (pairs.Rename most) p q) → (real : Real graph p q st) → CanMove graph (k ++ st.source.walked) st.source.node (last_of p) (k ++ st.dest.walked) st.dest.node (last_of q) real.moved.0
can_move graph most k p q st loc fits real = record { from_at = loc.head Source; to_at = loc.head Dest; there = real.moved.1; aside = (ap₂ after_prefix s_is t_is ∙ prefix_both k p q ∙ real.aside.0, ap₂ after_prefix t_is s_is ∙ prefix_both k q p ∙ real.aside.1) }
  where
    s_is : (k ++ st.source.walked) ++ last_of p ∷ [] ≡ k ++ p
    s_is = entry_key Source k (pairs.Rename most) p q st fits (real.path Source)

    t_is : (k ++ st.dest.walked) ++ last_of q ∷ [] ≡ k ++ q
    t_is = entry_key Dest k (pairs.Rename most) p q st fits (real.path Dest)

-- an exchange that really moves, moves both nodes
pub moves_two : (graph : Graph) → IsGraph graph → (p q : Key) (st : Holdings) (o : Moved) → Forked graph st.node p q st → (real : RealSwap graph p q st) → (exchange_at graph p q st).1 ≡ true → fork_move graph pairs.Exchange p q st ≡ Finishes o → Two real.one.0 real.other.0 ≡ o
moves_two graph is p q st o f real i e =
    let a : exchange_move graph p q st ≡ Finishes o = at_entries graph is pairs.Exchange p q st o f real.source_none real.dest_none e in
    let b : Finishes (Two real.one.0 real.other.0) ≡ exchange_move graph p q st =
    ap₂ (λ (s t : Option ℕ). Finishes (moved_nodes true s t)) (sym real.one.1) (sym real.other.1)
    ∙ ap (λ (c : Bool). Finishes (moved_nodes c (graph.child st.source.node (last_of p)) (graph.child st.dest.node (last_of q)))) (sym i) in
    let c : Finishes (Two real.one.0 real.other.0) ≡ Finishes o = b ∙ a in
    cc
