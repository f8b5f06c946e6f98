-- What the finish of a rename that really moves does.
use Rattle.std.proofs.Common.{◌≡◌, ℕ, Bool, true, false, not, ◌&&◌, List, [], ◌∷◌, ◌++◌, Option, Some, None, refl, sym, ap, ap₂, ◌∙◌, append-nil, subst, inl, inr}
use mathlib.Core.Path.{fun_ext}
use Rattle.fs_names.specs.Keys.{Key, after_prefix, parent_of, last_of, has_more, is_end}
use Rattle.fs_names.specs.Names.{Name}
use Rattle.fs_names.specs.Parts.{left, left_by}
use Rattle.fs_names.specs.Shapes.{Shape, Dir}
use Rattle.fs_laws.specs.Changes.{move_change}
use Rattle.fs_calls.specs.Forms.{Form, AtPair, Fits}
use Rattle.fs_calls.specs.Forms as pairs
use Rattle.fs_laws.specs.Maps.{Map, put, put_at, move, moved_to, moved_from}
use Rattle.fs_calls.specs.declared.reply.Reply.{Reply}
use Rattle.fs_calls.specs.Graphs.{Graph, at, numbers, entry_shape, moved_in}
use Rattle.fs_machine.specs.Finishes.{move_effect, rename_effect}
use Rattle.fs_machine.specs.Moves.{take_if, same_kind, fork_move, moved_node, dir_error, rename_at}
use Rattle.fs_machine.specs.declared.moves.Move.TheVariants.{Finish as Finishes}
use Rattle.fs_machine.specs.declared.moves.Moved.{Moved}
use Rattle.fs_machine.specs.Records.{Record, Records, Holdings, Source, Dest, head_on}
use Rattle.fs_machine.specs.States.{IsMoved}
use Rattle.fs_laws.specs.Invariants.{Forked, VictimAt}
use Rattle.fs_laws.specs.Placed.{Aside, rekey_by}
use Rattle.fs_laws.specs.CallFacts.{Located, CallFacts}
use Rattle.fs_laws.proofs.trees.Prefixes.{prefix_append}
use Rattle.fs_laws.proofs.calls.Located.{change_under}
use Rattle.fs_laws.proofs.graphs.Walks.{at_before, at_child, at_from, then_some}
use Rattle.fs_laws.proofs.trees.Commuting.{put_other}
use Rattle.fs_laws.proofs.graphs.TreesOfChanges.{CanMove, numbers_moved, move_one}
use Rattle.fs_laws.proofs.finish.Readings.{entry_key}
use Rattle.fs_laws.proofs.finish.Replies.{leaf_children}
use Rattle.fs_laws.proofs.events.OneCallChanged.{kept_move}
use Rattle.fs_laws.proofs.events.OtherChanges.{OffPlaces, kept_cut, victim_off}
use Rattle.fs_laws.proofs.helping.MovesSpareOthers.{Moves, off_heads, spares_of}
use Rattle.fs_laws.proofs.graphs.Move.{Replaced}
use Rattle.fs_laws.proofs.graphs.Alterations.{altered_moved, moved_gone}
use Rattle.fs_laws.proofs.finish.RealMoves.{can_move, Real, Replaces, real_of, at_entries}
use Rattle.fs_laws.proofs.calls.NodesHeld.{node_held}
use Rattle.fs_laws.proofs.finish.Changes.{Finisher, Does, mover_of, moves_of, own_off}

-- a move does not see what it overwrites
move_cut : (s t : Key) (tree : Map ℕ) → Aside s t → move s t (put t None tree) ≡ move s t tree
move_cut s t tree aside = fun_ext (λ key. go key (after_prefix t key) refl)
  where
    differs : (a : Key) → after_prefix t a ≡ None → a ≡ t → ⊥
    differs a e i = let z : ◌≡◌ {A = Option Key} None (Some []) = sym e ∙ ap (after_prefix t) (i ∙ sym (append-nil t)) ∙ prefix_append t [] in cc

    from : (key : Key) (o : Option Key) → after_prefix t key ≡ None → moved_from (put t None tree) key o ≡ moved_from tree key o
    from key (Some r) e = refl
    from key None e = put_other t None tree key (differs key e)

    inside : (r : Key) → put t None tree (s ++ r) ≡ tree (s ++ r)
    inside r = put_other t None tree (s ++ r) (λ i. (let z : ◌≡◌ {A = Option Key} (Some r) None = sym (prefix_append s r) ∙ ap (after_prefix s) i ∙ aside.0 in cc))

    go : (key : Key) (o : Option Key) → after_prefix t key ≡ o → moved_to s (put t None tree) key o ≡ moved_to s tree key o
    go key (Some r) e = inside r
    go key None e = from key (after_prefix s key) e

take_same : (b : Bool) (n held : Option ℕ) (m o : Moved) → take_if b n held (Finishes m) ≡ Finishes o → m ≡ o
take_same true None held m o e = cc
take_same true (Some n) None m o e = cc
take_same true (Some n) (Some v) m o e = cc
take_same false n held m o e = cc

-- a rename that really moves
does_move : (graph : Graph) (ops : Records) (key : ℕ → Key) (c : ℕ) (op : Record) (st : Holdings) (o : Moved) (most : ℕ) (p q : Key) (ws : List (Key × Option Shape)) (r : Reply) → Finisher graph ops key c op st o → op.remaining ≡ AtPair (pairs.Rename most) p q → Fits (AtPair (pairs.Rename most) p q)
    → Real graph p q st → ((m : ℕ) → graph.child st.source.node (last_of p) ≡ Some m → IsMoved o m)
    → Does graph ops key st op.reserved (change_under (key c) (move_change true ws p q)) (move_effect graph st (last_of p) (last_of q) op.reserved r true (graph.child st.source.node (last_of p)))
does_move graph ops key c op st o most p q ws r f rem fits real moved_is = subst (λ (n : Option ℕ). Does graph ops key st op.reserved (change_under (key c) (move_change true ws p q)) (move_effect graph st (last_of p) (last_of q) op.reserved r true n)) (sym real.moved.1) made
  where
    loc : Located (numbers graph) (key c) st
    loc = (f.kept.each c op st f.is f.on).located

    m : ℕ
    m = real.moved.0

    kf : Key
    kf = key c ++ st.source.walked

    kt : Key
    kt = key c ++ st.dest.walked

    s_is : (key c ++ st.source.walked) ++ last_of p ∷ [] ≡ key c ++ p
    s_is = entry_key Source (key c) (pairs.Rename most) p q st fits (real.path Source)

    t_is : (key c ++ st.dest.walked) ++ last_of q ∷ [] ≡ key c ++ q
    t_is = entry_key Dest (key c) (pairs.Rename most) p q st fits (real.path Dest)

    can : CanMove graph (key c ++ st.source.walked) st.source.node (last_of p) (key c ++ st.dest.walked) st.dest.node (last_of q) real.moved.0
    can = can_move graph most (key c) p q st loc fits real

    entry : numbers graph ((key c ++ st.dest.walked) ++ last_of q ∷ []) ≡ graph.child st.dest.node (last_of q)
    entry = at_child graph.child 0 st.dest.node (key c ++ st.dest.walked) (last_of q) (loc.head Dest)

    s_at : numbers graph ((key c ++ st.source.walked) ++ last_of p ∷ []) ≡ Some real.moved.0
    s_at = at_child graph.child 0 st.source.node (key c ++ st.source.walked) (last_of p) (loc.head Source) ∙ real.moved.1

    replaced : Replaces graph st (last_of q) → Replaced graph st.dest.node (last_of q)
    replaced (inl n) = inl n
    replaced (inr (v, n, h, leaf)) = inr (v, n, leaf_children graph f.is_graph v (graph.shape v) refl leaf)

    -- nobody stands at what is overwritten
    off : Replaces graph st (last_of q) → (d : ℕ) (x : Record) (other : Holdings) → ops d ≡ Some x → x.holdings ≡ Some other → OffPlaces ((key c ++ st.dest.walked) ++ last_of q ∷ []) (key d) other
    off (inl n) d x other e g =
        let l : Located (numbers graph) (key d) other = (f.kept.each d x other e g).located in
        let none : (a : Key) (i : ℕ) → numbers graph a ≡ Some i → a ≡ (key c ++ st.dest.walked) ++ last_of q ∷ [] → ⊥ = λ a i h j. (let z : ◌≡◌ {A = Option ℕ} (Some i) None = sym h ∙ ap (numbers graph) j ∙ entry ∙ n in cc) in
        (none (key d) other.node l.here, λ side. none (key d ++ (head_on side other).walked) (head_on side other).node (l.head side))
    off (inr (v, n, h, leaf)) d x other e g =
        victim_off (numbers graph) ops key c op st ((key c ++ st.dest.walked) ++ last_of q ∷ []) v f.kept f.is f.on h (entry ∙ n) (own_off (numbers graph) (key c) st ((key c ++ st.dest.walked) ++ last_of q ∷ []) v loc f.single h (entry ∙ n)) d x other e g

    cut : CallFacts (put ((key c ++ st.dest.walked) ++ last_of q ∷ []) None (numbers graph)) ops key
    cut = kept_cut (numbers graph) ops key ((key c ++ st.dest.walked) ++ last_of q ∷ []) f.kept (off real.replaces)

    free : (a : Key) → put ((key c ++ st.dest.walked) ++ last_of q ∷ []) None (numbers graph) (((key c ++ st.dest.walked) ++ last_of q ∷ []) ++ a) ≡ None
    free a = ap (put_at None (numbers graph) (((key c ++ st.dest.walked) ++ last_of q ∷ []) ++ a)) (prefix_append ((key c ++ st.dest.walked) ++ last_of q ∷ []) a) ∙ inside a
      where
        deep : (y : Name) (a : Key) (h : Option ℕ) → numbers graph (((key c ++ st.dest.walked) ++ last_of q ∷ []) ++ y ∷ a) ≡ h → Replaces graph st (last_of q) → h ≡ None
        deep y a None e w = refl
        deep y a (Some i) e (inl n) =
            let b : (j : ℕ) × (numbers graph ((key c ++ st.dest.walked) ++ last_of q ∷ []) ≡ Some j) × (at graph.child j (y ∷ a) ≡ Some i) = at_before graph.child 0 i ((key c ++ st.dest.walked) ++ last_of q ∷ []) (y ∷ a) e in
            let z : ◌≡◌ {A = Option ℕ} (Some b.0) None = sym b.1 ∙ entry ∙ n in cc
        deep y a (Some i) e (inr (v, n, h, leaf)) =
            let b : at graph.child v (y ∷ a) ≡ Some i = sym (at_from graph.child 0 v ((key c ++ st.dest.walked) ++ last_of q ∷ []) (y ∷ a) (entry ∙ n)) ∙ e in
            let g : (j : ℕ) × (graph.child v y ≡ Some j) × (at graph.child j a ≡ Some i) = then_some (graph.child v y) (λ j. at graph.child j a) i b in
            let z : ◌≡◌ {A = Option ℕ} (Some g.0) None = sym g.1 ∙ leaf_children graph f.is_graph v (graph.shape v) refl leaf y in cc

        inside : (a : Key) → put_at None (numbers graph) (((key c ++ st.dest.walked) ++ last_of q ∷ []) ++ a) (Some a) ≡ None
        inside [] = refl
        inside (y ∷ a) = deep y a (numbers graph (((key c ++ st.dest.walked) ++ last_of q ∷ []) ++ y ∷ a)) refl real.replaces

    moves : Moves ops key c op st Source (last_of p)
    moves = moves_of graph ops key c op st o f Source (last_of p) real.moved.0 real.moved.1 (moved_is real.moved.0 real.moved.1) (off_heads (key c) st (last_of p) (last_of q) can.aside Source)

    moved : CallFacts (move ((key c ++ st.source.walked) ++ last_of p ∷ []) ((key c ++ st.dest.walked) ++ last_of q ∷ []) (numbers graph)) ops (λ d. rekey_by ((key c ++ st.dest.walked) ++ last_of q ∷ []) (key d) (after_prefix ((key c ++ st.source.walked) ++ last_of p ∷ []) (key d)))
    moved =
        subst (λ (t : Map ℕ). CallFacts t ops (λ d. rekey_by ((key c ++ st.dest.walked) ++ last_of q ∷ []) (key d) (after_prefix ((key c ++ st.source.walked) ++ last_of p ∷ []) (key d)))) (move_cut ((key c ++ st.source.walked) ++ last_of p ∷ []) ((key c ++ st.dest.walked) ++ last_of q ∷ []) (numbers graph) can.aside)
        (kept_move (put ((key c ++ st.dest.walked) ++ last_of q ∷ []) None (numbers graph)) ops key ((key c ++ st.source.walked) ++ last_of p ∷ []) ((key c ++ st.dest.walked) ++ last_of q ∷ []) (key c ++ st.dest.walked) (last_of q) cut
        (move_one (put ((key c ++ st.dest.walked) ++ last_of q ∷ []) None (numbers graph)) ((key c ++ st.source.walked) ++ last_of p ∷ []) ((key c ++ st.dest.walked) ++ last_of q ∷ []) cut.one_key)
        (spares_of (put ((key c ++ st.dest.walked) ++ last_of q ∷ []) None (numbers graph)) ops key c op st (last_of p) (last_of q) cut (mover_of graph ops key c op st o f) moves free))

    new_kept : CallFacts (numbers (moved_in st.source.node (last_of p) st.dest.node (last_of q) real.moved.0 graph)) ops (λ d. rekey_by (key c ++ q) (key d) (after_prefix (key c ++ p) (key d)))
    new_kept =
        subst (λ (t : Map ℕ). CallFacts t ops (λ d. rekey_by (key c ++ q) (key d) (after_prefix (key c ++ p) (key d)))) (sym (numbers_moved graph f.is_graph (key c ++ st.source.walked) st.source.node (last_of p) (key c ++ st.dest.walked) st.dest.node (last_of q) real.moved.0 can))
        (subst (λ (t : Key). CallFacts (move ((key c ++ st.source.walked) ++ last_of p ∷ []) ((key c ++ st.dest.walked) ++ last_of q ∷ []) (numbers graph)) ops (λ d. rekey_by t (key d) (after_prefix (key c ++ p) (key d)))) t_is
        (subst (λ (s : Key). CallFacts (move ((key c ++ st.source.walked) ++ last_of p ∷ []) ((key c ++ st.dest.walked) ++ last_of q ∷ []) (numbers graph)) ops (λ d. rekey_by ((key c ++ st.dest.walked) ++ last_of q ∷ []) (key d) (after_prefix s (key d)))) s_is moved))

    vic : VictimAt graph (AtPair (pairs.Rename most) p q) st
    vic = subst (λ (x : Form). VictimAt graph x st) rem f.victim

    made : Does graph ops key st op.reserved (change_under (key c) (move_change true ws p q)) (record { reply = r; graph = moved_in st.source.node (last_of p) st.dest.node (last_of q) real.moved.0 graph; reserved = op.reserved; removed = st.victim })
    made = record {
      linked = None;
      altered = altered_moved graph st f.is_graph (key c ++ st.source.walked) (last_of p) (key c ++ st.dest.walked) (last_of q) real.moved.0 real.source_dir.0 real.dest_dir.0 can real.source_dir.1 real.dest_dir.1 (replaced real.replaces) (node_held Source (numbers graph) (key c) st loc) (node_held Dest (numbers graph) (key c) st loc);
      kept = new_kept;
      links = λ n j. cc;
      reserved = λ n j. j;
      removed = λ n j. (j, moved_gone graph f.is_graph (key c ++ st.source.walked) st.source.node (last_of p) (key c ++ st.dest.walked) st.dest.node (last_of q) real.moved.0 n can (vic n j).0, ((key c ++ st.dest.walked) ++ last_of q ∷ [], entry ∙ (vic n j).0));
    }

-- where it stands at both parents
pub does_rename : (graph : Graph) (ops : Records) (key : ℕ → Key) (c : ℕ) (op : Record) (st : Holdings) (o : Moved) (most : ℕ) (p q : Key) (ws : List (Key × Option Shape)) → Finisher graph ops key c op st o → op.remaining ≡ AtPair (pairs.Rename most) p q → Fits (AtPair (pairs.Rename most) p q)
    → Forked graph st.node p q st → fork_move graph (pairs.Rename most) p q st ≡ Finishes o → (rename_at graph most p q st).1 ≡ true
    → Does graph ops key st op.reserved (change_under (key c) (move_change true ws p q)) (rename_effect graph most p q st op.reserved [])
does_rename graph ops key c op st o most p q ws f rem fits w fork j =
    subst (λ (b : Bool). Does graph ops key st op.reserved (change_under (key c) (move_change true ws p q)) (move_effect graph st (last_of p) (last_of q) op.reserved (rename_at graph most p q st).0 b (graph.child st.source.node (last_of p)))) (sym j)
    (does_move graph ops key c op st o most p q ws (rename_at graph most p q st).0 f rem fits real (λ m h. subst (λ (t : Moved). IsMoved t m) (sym (ap₂ moved_node j h) ∙ same) refl))
  where
    real : Real graph p q st
    real = real_of graph f.is_graph most p q st o fits w (subst (λ (x : Form). VictimAt graph x st) rem f.victim) fork j

    error_none : (a b : Key) (t : Option Shape) → b ≡ a → (names : List Name) × (t ≡ Some (Dir names)) → dir_error (left a b) t ≡ None
    error_none a b t z n = ap₂ dir_error (ap (left a) (z ∙ sym (append-nil a)) ∙ ap left_by (prefix_append a [])) n.1

    same : moved_node (rename_at graph most p q st).1 (graph.child st.source.node (last_of p)) ≡ o
    same = take_same (same_kind (entry_shape graph st.source.node (last_of p)) (entry_shape graph st.dest.node (last_of q)) && not (is_end (after_prefix p q)) && not (has_more (after_prefix q p))) (graph.child st.dest.node (last_of q)) st.victim (moved_node (rename_at graph most p q st).1 (graph.child st.source.node (last_of p))) o
        (at_entries graph f.is_graph (pairs.Rename most) p q st o w (error_none st.source.walked (parent_of p) (graph.shape st.source.node) (real.path Source) real.source_dir) (error_none st.dest.walked (parent_of q) (graph.shape st.dest.node) (real.path Dest) real.dest_dir) fork)
