-- What a call on two entries that is about to finish reads and changes lies below no call that is to go on before it.
use Rattle.std.proofs.Common.{◌≡◌, ℕ, Bool, true, false, not, ◌&&◌, List, [], ◌∷◌, ◌++◌, Option, Some, None, refl, sym, ap, ap₂, ◌∙◌, append_assoc, append-nil, subst, ◌⊎◌, inl, inr}
use Rattle.fs_names.specs.Keys.{Key, after_prefix, parent_of, last_of, has_more, is_end}
use Rattle.fs_names.specs.Names.{Name, has_name}
use Rattle.fs_names.specs.Parts.{HasNames, common, left, left_by}
use Rattle.fs_names.specs.Shapes.{Shape, Dir, names_of}
use Rattle.fs_laws.specs.Changes.{Change, resolve_dir, move_change, rename_writes}
use Rattle.fs_calls.specs.Forms.{Form, AtNode, AtEntry, AtPair, Fits, under, PairCall}
use Rattle.fs_calls.specs.Forms as pairs
use Rattle.fs_laws.specs.Maps.{Map, below}
use Rattle.fs_calls.specs.Rows.{as_dir}
use Rattle.fs_calls.specs.declared.errno.Errno.{Errno}
use Rattle.fs_calls.specs.declared.reply.Reply.{Reply}
use Rattle.fs_calls.specs.Graphs.{Graph, at, then_at, numbers, graph_shapes, entry_shape, IsGraph}
use Rattle.fs_machine.specs.Moves.{next_on, same_kind, fork_move, dir_error, walk_errno, rename_at, exchange_at}
use Rattle.fs_machine.specs.declared.moves.Move.TheVariants.{Finish as Finishes}
use Rattle.fs_machine.specs.declared.moves.Moved.{Moved}
use Rattle.fs_machine.specs.Records.{Holds, Holdings, Side, Source, Dest, of_side, head_on}
use Rattle.fs_laws.specs.Invariants.{HeadsSound, VictimAt}
use Rattle.fs_laws.specs.Placed.{AllOff, ReadsNothingBelow, ChangesNothingBelow, Aside, looks_into}
use Rattle.fs_laws.specs.CallFacts.{Located, IsClear}
use Rattle.fs_laws.proofs.trees.Prefixes.{prefix_append, prefix_some, prefix_both}
use Rattle.fs_laws.proofs.helping.FinishPassesPlaced.{child_cases}
use Rattle.fs_laws.proofs.calls.Located.{key_is, dir_under, resolve_under, from_more, to_more, change_under}
use Rattle.fs_laws.proofs.graphs.Walks.{at_before, at_child, at_from, then_some}
use Rattle.fs_laws.proofs.graphs.TreesOfChanges.{resolve_at}
use Rattle.fs_laws.proofs.finish.Readings.{Stops, ForkAt, below_is, dir_read, pair_finish, path_walked, entry_key}
use Rattle.fs_laws.proofs.finish.PairRows.{pair_at, pair_row, pair_change, looked_pair, row_stuck, change_still}
use Rattle.fs_laws.proofs.finish.Swaps.{RealSwap, real_swap, swap_aside}
use Rattle.fs_laws.proofs.trees.Commuting.{Lies, Below_first, Below_second, Below_neither, lies}
use Rattle.fs_laws.proofs.finish.Pairs.{Standing, Stuck, At_fork, standing, stuck_path, stuck_read}
use Rattle.fs_laws.proofs.finish.Replies.{Leaf, leaf_children}
use Rattle.fs_laws.proofs.events.TwoCalls.{held_off}
use Rattle.fs_laws.proofs.helping.ReadsNothingBelow.{Front, Off, stopped_off, on_off, in_off}
use Rattle.fs_laws.proofs.finish.RealMoves.{Real, Replaces, real_of, at_entries, victim_held}
use Rattle.fs_laws.proofs.calls.NodesHeld.{node_held}

-- where a head's walk has stopped
head_off : (graph : Graph) → IsGraph graph → (k : Key) (st : Holdings) (kd : Key) (other : Holdings) (walked l whole : Key) (node : ℕ) → Front graph k st kd other → numbers graph (k ++ walked) ≡ Some node → Holds st node → IsClear (numbers graph) k walked other → Stops graph node l → whole ≡ walked ++ l
    → after_prefix kd (k ++ whole) ≡ None
head_off graph is k st kd other walked l whole node f at_h held clear stop i =
    ap (after_prefix kd) (ap (λ (z : Key). k ++ z) i ∙ sym (append_assoc k walked l))
    ∙ stopped_off graph is (k ++ walked) kd l node other.node at_h stop f.there (held_off (numbers graph) kd other st k walked node f.there f.apart at_h held clear f.off)

-- nothing is there below a node without entries
leaf_off : (graph : Graph) → IsGraph graph → (t kd : Key) (v m : ℕ) → numbers graph t ≡ Some v → Leaf (graph.shape v) → numbers graph kd ≡ Some m → (v ≡ m → ⊥) → after_prefix t kd ≡ None
leaf_off graph is t kd v m at_t leaf there differs = go (after_prefix t kd) refl
  where
    go : (o : Option Key) → after_prefix t kd ≡ o → o ≡ None
    go None e = refl
    go (Some []) e =
        let z : ◌≡◌ {A = Option ℕ} (Some v) (Some m) = sym at_t ∙ sym (ap (numbers graph) (prefix_some t kd [] e ∙ append-nil t)) ∙ there in
        absurd (differs (let y : v ≡ m = cc in y))
    go (Some (x ∷ r)) e =
        let a : at graph.child v (x ∷ r) ≡ Some m = sym (at_from graph.child 0 v t (x ∷ r) at_t) ∙ ap (numbers graph) (sym (prefix_some t kd (x ∷ r) e)) ∙ there in
        let g : (c : ℕ) × (graph.child v x ≡ Some c) × (at graph.child c r ≡ Some m) = then_some (graph.child v x) (λ c. at graph.child c r) m a in
        let z : ◌≡◌ {A = Option ℕ} None (Some g.0) = sym (leaf_children graph is v (graph.shape v) refl leaf x) ∙ g.1 in
        cc

none_off : (graph : Graph) → (t kd : Key) (m : ℕ) → numbers graph t ≡ None → numbers graph kd ≡ Some m → after_prefix t kd ≡ None
none_off graph t kd m at_t there = go (after_prefix t kd) refl
  where
    go : (o : Option Key) → after_prefix t kd ≡ o → o ≡ None
    go None e = refl
    go (Some r) e =
        let b : (q : ℕ) × (numbers graph t ≡ Some q) × (at graph.child q r ≡ Some m) = at_before graph.child 0 m t r (ap (numbers graph) (sym (prefix_some t kd r e)) ∙ there) in
        let z : ◌≡◌ {A = Option ℕ} None (Some b.0) = sym at_t ∙ b.1 in
        cc

-- both parents of a pair that is to finish lie off the position of a call that is to go on before it
record ParentsOff (graph : Graph) (k p q kd : Key) : Type 0 where
  pub first : after_prefix kd (k ++ parent_of p) ≡ None
  pub second : resolve_dir (below k (graph_shapes graph)) (parent_of p) ≡ None → after_prefix kd (k ++ parent_of q) ≡ None

-- where the walk has stopped, the first parent does not resolve
stuck_below : (graph : Graph) → IsGraph graph → (k : Key) (s : Shape) (p q : Key) (st : Holdings) (x : Name) (l : Key) → Located (numbers graph) k st → graph.shape st.node ≡ Some s → common (parent_of p) (parent_of q) ≡ x ∷ l → Stops graph st.node (x ∷ l)
    → resolve_dir (below k (graph_shapes graph)) (parent_of p) ≡ Some (walk_errno (graph.shape st.node))
stuck_below graph is k s p q st x l loc u i stop = ap (λ (t : Map Shape). resolve_dir t (parent_of p)) (below_is graph k st.node loc.here) ∙ stuck_read graph is s p q st x l u i stop

-- and at the common directory it is what the source head reads
source_below : (graph : Graph) → IsGraph graph → (k : Key) (s : Shape) (p q : Key) (st : Holdings) → Located (numbers graph) k st → graph.shape st.node ≡ Some s → ForkAt graph st.node p q st
    → resolve_dir (below k (graph_shapes graph)) (parent_of p) ≡ dir_error (left st.source.walked (parent_of p)) (graph.shape st.source.node)
source_below graph is k s p q st loc u at_c =
    ap₂ resolve_dir (below_is graph k st.node loc.here) (at_c.fork.path Source)
    ∙ sym (dir_read graph is st.node st.source.node s st.source.walked (left st.source.walked (parent_of p)) u (at_c.fork.stands Source) at_c.source_stops)

parents_off : (graph : Graph) → IsGraph graph → (k : Key) (c : PairCall) (p q : Key) (st : Holdings) (o : Moved) (kd : Key) (other : Holdings) (s : Shape) → Located (numbers graph) k st → graph.shape st.node ≡ Some s → Standing graph c p q st o → Front graph k st kd other → ParentsOff graph k p q kd
parents_off graph is k c p q st o kd other s loc u (Stuck x l i stop) f = record {
  first = let d : (r : Key) × (parent_of p ≡ x ∷ (l ++ r)) = stuck_path p q x l i in ap (λ (z : Key). after_prefix kd (k ++ z)) d.1 ∙ stopped_off graph is k kd (x ∷ (l ++ d.0)) st.node other.node loc.here stop f.there f.off;
  second = λ z. (let y : ◌≡◌ {A = Option Errno} (Some (walk_errno (graph.shape st.node))) None = sym (stuck_below graph is k s p q st x l loc u i stop) ∙ z in cc);
}
parents_off graph is k c p q st o kd other s loc u (At_fork i at_c m) f = record {
  first = head_off graph is k st kd other st.source.walked (left st.source.walked (parent_of p)) (parent_of p) st.source.node f (loc.head Source) (node_held Source (numbers graph) k st loc) (f.clear Source) at_c.source_stops (at_c.fork.path Source);
  second = λ z. head_off graph is k st kd other st.dest.walked (left st.dest.walked (parent_of q)) (parent_of q) st.dest.node f (loc.head Dest) (node_held Dest (numbers graph) k st loc) (f.clear Dest) (at_c.dest_stops (sym (source_below graph is k s p q st loc u at_c) ∙ z)) (at_c.fork.path Dest);
}

-- an entry of a directory that lies off a key lies off it, or is at it
entry_off : (kd k p : Key) → HasNames p → after_prefix kd (k ++ parent_of p) ≡ None → (after_prefix kd (k ++ p) ≡ None) ⊎ (kd ≡ k ++ p)
entry_off kd k p more off = cases (child_cases kd (k ++ parent_of p) (last_of p) off)
  where
    p_is : k ++ p ≡ (k ++ parent_of p) ++ last_of p ∷ []
    p_is = ap (λ (l : Key). k ++ l) (key_is p more) ∙ sym (append_assoc k (parent_of p) (last_of p ∷ []))

    cases : (after_prefix kd ((k ++ parent_of p) ++ last_of p ∷ []) ≡ None) ⊎ (kd ≡ (k ++ parent_of p) ++ last_of p ∷ []) → (after_prefix kd (k ++ p) ≡ None) ⊎ (kd ≡ k ++ p)
    cases (inl h) = inl (ap (after_prefix kd) p_is ∙ h)
    cases (inr h) = inr (h ∙ sym p_is)

itself : (a : Key) → after_prefix a a ≡ Some []
itself a = ap (after_prefix a) (sym (append-nil a)) ∙ prefix_append a []

-- so a key that is not below the entry lies aside of it
entry_aside : (kd k p : Key) → HasNames p → after_prefix kd (k ++ parent_of p) ≡ None → after_prefix (k ++ p) kd ≡ None → Aside (k ++ p) kd
entry_aside kd k p more off none = (none, by (entry_off kd k p more off))
  where
    by : (after_prefix kd (k ++ p) ≡ None) ⊎ (kd ≡ k ++ p) → after_prefix kd (k ++ p) ≡ None
    by (inl h) = h
    by (inr h) = let z : ◌≡◌ {A = Option Key} (Some []) None = sym (itself (k ++ p)) ∙ ap (after_prefix (k ++ p)) (sym h) ∙ none in cc

dir_none : (a b : Key) (t : Option Shape) → b ≡ a → (names : List Name) × (t ≡ Some (Dir names)) → dir_error (left a b) t ≡ None
dir_none a b t z n = ap₂ dir_error (ap (left a) (z ∙ sym (append-nil a)) ∙ ap left_by (prefix_append a [])) n.1

-- what a rename that really moves changes
rename_clear : (graph : Graph) → IsGraph graph → (k : Key) (most : ℕ) (p q : Key) (st : Holdings) (o : Moved) (kd : Key) (other : Holdings) (s : Shape) → Located (numbers graph) k st → graph.shape st.node ≡ Some s → Fits (AtPair (pairs.Rename most) p q) → VictimAt graph (AtPair (pairs.Rename most) p q) st
    → ForkAt graph st.node p q st → fork_move graph (pairs.Rename most) p q st ≡ Finishes o → (rename_at graph most p q st).1 ≡ true → ParentsOff graph k p q kd → Front graph k st kd other
    → ChangesNothingBelow (change_under k (pair_change (below k (graph_shapes graph)) (pairs.Rename most) p q true)) kd
rename_clear graph is k most p q st o kd other s loc u fits victim at_c fork j offs f = (writes (is_end (after_prefix (parent_of p) (parent_of q))), (asides, lies_at (after_prefix (k ++ p) kd) refl))
  where
    mp : HasNames p
    mp = from_more (pairs.Rename most) p q fits

    mq : HasNames q
    mq = to_more (pairs.Rename most) p q fits

    real : Real graph p q st
    real = real_of graph is most p q st o fits at_c.fork victim fork j

    off1 : after_prefix kd (k ++ parent_of q) ≡ None
    off1 = offs.second (source_below graph is k s p q st loc u at_c ∙ dir_none st.source.walked (parent_of p) (graph.shape st.source.node) (real.path Source) real.source_dir)

    writes : (b : Bool) → AllOff kd (change_under k (move_change true (rename_writes b (parent_of p) (names_of (graph_shapes graph (k ++ parent_of p))) (last_of p) (parent_of q) (names_of (graph_shapes graph (k ++ parent_of q))) (last_of q)) p q)).writes
    writes true = (offs.first, tt)
    writes false = (offs.first, (off1, tt))

    asides : Aside (k ++ p) (k ++ q)
    asides = (prefix_both k p q ∙ real.aside.0, prefix_both k q p ∙ real.aside.1)

    t_at : numbers graph (k ++ q) ≡ graph.child st.dest.node (last_of q)
    t_at = ap (numbers graph) (sym (entry_key Dest k (pairs.Rename most) p q st fits (real.path Dest))) ∙ at_child graph.child 0 st.dest.node (k ++ st.dest.walked) (last_of q) (loc.head Dest)

    t_off : after_prefix (k ++ q) kd ≡ None
    t_off = by real.replaces
      where
        by : Replaces graph st (last_of q) → after_prefix (k ++ q) kd ≡ None
        by (inl n) = none_off graph (k ++ q) kd other.node (t_at ∙ n) f.there
        by (inr (v, n, h, leaf)) = leaf_off graph is (k ++ q) kd v other.node (t_at ∙ n) leaf f.there (λ z. f.apart other.node (inl refl) (inr (inr (inr (inr (h ∙ ap Some z))))))

    lies_at : (m : Option Key) → after_prefix (k ++ p) kd ≡ m → ((r : Key) × (kd ≡ (k ++ p) ++ r)) ⊎ (Aside (k ++ p) kd × Aside (k ++ q) kd)
    lies_at (Some r) z = inl (r, prefix_some (k ++ p) kd r z)
    lies_at None z = inr (entry_aside kd k p mp offs.first z, entry_aside kd k q mq off1 t_off)

-- what an exchange that really moves changes: it moves along whoever stands at or below either entry
exchange_clear : (graph : Graph) → IsGraph graph → (k : Key) (p q : Key) (st : Holdings) (kd : Key) (s : Shape) → Located (numbers graph) k st → graph.shape st.node ≡ Some s → Fits (AtPair pairs.Exchange p q)
    → ForkAt graph st.node p q st → (exchange_at graph p q st).1 ≡ true → ParentsOff graph k p q kd
    → ChangesNothingBelow (change_under k (pair_change (below k (graph_shapes graph)) pairs.Exchange p q true)) kd
exchange_clear graph is k p q st kd s loc u fits at_c j offs = (tt, (asides, lies_at (lies (k ++ p) (k ++ q) kd)))
  where
    real : RealSwap graph p q st
    real = real_swap graph st.node p q st at_c.fork j

    apart : Aside p q
    apart = swap_aside graph p q st fits real

    asides : Aside (k ++ p) (k ++ q)
    asides = (prefix_both k p q ∙ apart.0, prefix_both k q p ∙ apart.1)

    off1 : after_prefix kd (k ++ parent_of q) ≡ None
    off1 = offs.second (source_below graph is k s p q st loc u at_c ∙ real.source_none)

    lies_at : Lies (k ++ p) (k ++ q) kd → ((r : Key) × (kd ≡ (k ++ p) ++ r)) ⊎ ((r : Key) × (kd ≡ (k ++ q) ++ r)) ⊎ (Aside (k ++ p) kd × Aside (k ++ q) kd)
    lies_at (Below_first r e) = inl (r, e)
    lies_at (Below_second r e) = inr (inl (r, e))
    lies_at (Below_neither e g) = inr (inr (entry_aside kd k p (from_more pairs.Exchange p q fits) offs.first e, entry_aside kd k q (to_more pairs.Exchange p q fits) off1 g))

-- a victim that a rename looks into is held, and so the other call does not stand there
rename_into : (graph : Graph) → IsGraph graph → (k : Key) (most : ℕ) (p q : Key) (st : Holdings) (o : Moved) (kd : Key) (other : Holdings) (s : Shape) → Located (numbers graph) k st → graph.shape st.node ≡ Some s → Fits (AtPair (pairs.Rename most) p q) → VictimAt graph (AtPair (pairs.Rename most) p q) st
    → Standing graph (pairs.Rename most) p q st o → ParentsOff graph k p q kd → Front graph k st kd other → resolve_dir (below k (graph_shapes graph)) (parent_of p) ≡ None → looks_into (graph_shapes graph) (k ++ p) (k ++ q) ≡ true → after_prefix kd (k ++ q) ≡ None
rename_into graph is k most p q st o kd other s loc u fits victim (Stuck x l i stop) offs f r look = let z : ◌≡◌ {A = Option Errno} (Some (walk_errno (graph.shape st.node))) None = sym (stuck_below graph is k s p q st x l loc u i stop) ∙ r in cc
rename_into graph is k most p q st o kd other s loc u fits victim (At_fork i at_c fork) offs f r look = by (left st.dest.walked (parent_of q)) refl
  where
    mq : HasNames q
    mq = to_more (pairs.Rename most) p q fits

    es : dir_error (left st.source.walked (parent_of p)) (graph.shape st.source.node) ≡ None
    es = sym (source_below graph is k s p q st loc u at_c) ∙ r

    want : (same_kind (graph_shapes graph (k ++ p)) (graph_shapes graph (k ++ q)) && not (is_end (after_prefix p q)) && not (has_more (after_prefix q p))) ≡ true
    want = ap₂ (λ (a b : Option Key). same_kind (graph_shapes graph (k ++ p)) (graph_shapes graph (k ++ q)) && not (is_end a) && not (has_more b)) (sym (prefix_both k p q)) (sym (prefix_both k q p)) ∙ look

    entry : (side : Side) → parent_of (of_side side p q) ≡ (head_on side st).walked → numbers graph (k ++ of_side side p q) ≡ graph.child (head_on side st).node (last_of (of_side side p q))
    entry side d = ap (numbers graph) (sym (entry_key side k (pairs.Rename most) p q st fits d)) ∙ at_child graph.child 0 (head_on side st).node (k ++ (head_on side st).walked) (last_of (of_side side p q)) (loc.head side)

    by : (l : Key) → left st.dest.walked (parent_of q) ≡ l → after_prefix kd (k ++ q) ≡ None
    by (z ∷ l) j =
        head_off graph is k st kd other st.dest.walked ((z ∷ l) ++ last_of q ∷ []) q st.dest.node f (loc.head Dest) (node_held Dest (numbers graph) k st loc) (f.clear Dest) (subst (Stops graph st.dest.node) j (at_c.dest_stops es))
        (key_is q mq ∙ ap (λ (y : Key). y ++ last_of q ∷ []) (at_c.fork.path Dest ∙ ap (λ (y : Key). st.dest.walked ++ y) j) ∙ append_assoc st.dest.walked (z ∷ l) (last_of q ∷ []))
    by [] j = ends (entry_off kd k q mq (offs.second r))
      where
        d_is : parent_of q ≡ st.dest.walked
        d_is = at_c.fork.path Dest ∙ ap (λ (y : Key). st.dest.walked ++ y) j ∙ append-nil st.dest.walked

        ends : (after_prefix kd (k ++ q) ≡ None) ⊎ (kd ≡ k ++ q) → after_prefix kd (k ++ q) ≡ None
        ends (inl h) = h
        ends (inr h) =
            let child : graph.child st.dest.node (last_of q) ≡ Some other.node = sym (entry Dest d_is) ∙ ap (numbers graph) (sym h) ∙ f.there in
            let dd : (names : List Name) × (graph.shape st.dest.node ≡ Some (Dir names)) × (has_name (last_of q) names ≡ true) = is.of_dir st.dest.node other.node (last_of q) child in
            let ed : dir_error (left st.dest.walked (parent_of q)) (graph.shape st.dest.node) ≡ None = ap₂ dir_error j dd.1 in
            let kinds : same_kind (entry_shape graph st.source.node (last_of p)) (entry_shape graph st.dest.node (last_of q)) ≡ same_kind (graph_shapes graph (k ++ p)) (graph_shapes graph (k ++ q)) =
            ap₂ (λ (a b : Option ℕ). same_kind (then_at a graph.shape) (then_at b graph.shape)) (sym (entry Source (path_walked Source graph st.node p q st at_c.fork es))) (sym (entry Dest d_is)) in
            let v : st.victim ≡ Some other.node = victim_held graph most p q st o other.node victim (at_entries graph is (pairs.Rename most) p q st o at_c.fork es ed fork) child
            (ap (λ (b : Bool). b && not (is_end (after_prefix p q)) && not (has_more (after_prefix q p))) kinds ∙ want) in
            absurd (f.apart other.node (inl refl) (inr (inr (inr (inr v)))))

-- a call on two entries
pair_off : (graph : Graph) → IsGraph graph → (k : Key) (c : PairCall) (p q : Key) (st : Holdings) (o : Moved) (kd : Key) (other : Holdings) (s : Shape) → Located (numbers graph) k st → graph.shape st.node ≡ Some s → Fits (AtPair c p q) → HeadsSound graph st.node (AtPair c p q) st → VictimAt graph (AtPair c p q) st
    → next_on graph (AtPair c p q) st ≡ Finishes o → Front graph k st kd other
    → Off graph k (AtPair c p q) kd
pair_off graph is k c p q st o kd other s loc u fits well victim e f = record {
  blind = blind c stands victim fits;
  clear = subst (λ (r : Reply × Change). ChangesNothingBelow (change_under k r.1) kd) (sym (looked_pair (below k (graph_shapes graph)) c p q)) (clear stands);
}
  where
    stands : Standing graph c p q st o
    stands = standing graph is c p q st o well e

    offs : ParentsOff graph k p q kd
    offs = parents_off graph is k c p q st o kd other s loc u stands f

    first : (c : PairCall) → Fits (AtPair c p q) → after_prefix kd (parent_of (k ++ p)) ≡ None
    first c fits = ap (after_prefix kd) (dir_under k p (from_more c p q fits)) ∙ offs.first

    resolved : (c : PairCall) → Fits (AtPair c p q) → resolve_dir (graph_shapes graph) (parent_of (k ++ p)) ≡ None → resolve_dir (below k (graph_shapes graph)) (parent_of p) ≡ None
    resolved c fits r =
        sym (ap (λ (z : Option Errno). as_dir z (graph_shapes graph (k ++ parent_of p))) (resolve_under (graph_shapes graph) k (parent_of p) (resolve_at graph is st.node k loc.here)))
        ∙ ap (resolve_dir (graph_shapes graph)) (sym (dir_under k p (from_more c p q fits))) ∙ r

    second : (c : PairCall) → Fits (AtPair c p q) → resolve_dir (graph_shapes graph) (parent_of (k ++ p)) ≡ None → after_prefix kd (parent_of (k ++ q)) ≡ None
    second c fits r = ap (after_prefix kd) (dir_under k q (to_more c p q fits)) ∙ offs.second (resolved c fits r)

    blind : (c : PairCall) → Standing graph c p q st o → VictimAt graph (AtPair c p q) st → Fits (AtPair c p q) → ReadsNothingBelow (graph_shapes graph) (under k (AtPair c p q)) kd
    blind (pairs.Rename most) stands victim fits = (first (pairs.Rename most) fits, λ r. (second (pairs.Rename most) fits r, rename_into graph is k most p q st o kd other s loc u fits victim stands offs f (resolved (pairs.Rename most) fits r)))
    blind pairs.Exchange stands victim fits = (first pairs.Exchange fits, second pairs.Exchange fits)

    still : (b : Bool) → b ≡ false → ChangesNothingBelow (change_under k (pair_change (below k (graph_shapes graph)) c p q b)) kd
    still b i = subst (λ (ch : Change). ChangesNothingBelow (change_under k ch) kd) (sym (ap (pair_change (below k (graph_shapes graph)) c p q) i ∙ change_still (below k (graph_shapes graph)) c p q)) (tt, tt)

    moves : (c : PairCall) → Fits (AtPair c p q) → VictimAt graph (AtPair c p q) st → ForkAt graph st.node p q st → fork_move graph c p q st ≡ Finishes o → (pair_at graph c p q st).1 ≡ true → ChangesNothingBelow (change_under k (pair_change (below k (graph_shapes graph)) c p q true)) kd
    moves (pairs.Rename most) fits victim at_c fork j = rename_clear graph is k most p q st o kd other s loc u fits victim at_c fork j offs f
    moves pairs.Exchange fits victim at_c fork j = exchange_clear graph is k p q st kd s loc u fits at_c j offs

    at_parents : ForkAt graph st.node p q st → fork_move graph c p q st ≡ Finishes o → (b : Bool) → (pair_at graph c p q st).1 ≡ b → ChangesNothingBelow (change_under k (pair_change (below k (graph_shapes graph)) c p q (pair_at graph c p q st).1)) kd
    at_parents at_c fork false j = still (pair_at graph c p q st).1 j
    at_parents at_c fork true j = subst (λ (b : Bool). ChangesNothingBelow (change_under k (pair_change (below k (graph_shapes graph)) c p q b)) kd) (sym j) (moves c fits victim at_c fork j)

    clear : Standing graph c p q st o → ChangesNothingBelow (change_under k (pair_change (below k (graph_shapes graph)) c p q (pair_row (below k (graph_shapes graph)) c p q).1)) kd
    clear (Stuck x l i stop) = still (pair_row (below k (graph_shapes graph)) c p q).1 (ap (λ (r : Reply × Bool). r.1) (row_stuck (below k (graph_shapes graph)) c p q (walk_errno (graph.shape st.node)) (stuck_below graph is k s p q st x l loc u i stop)))
    clear (At_fork i at_c fork) =
        subst (λ (r : Reply × Bool). ChangesNothingBelow (change_under k (pair_change (below k (graph_shapes graph)) c p q r.1)) kd)
        (pair_finish graph is st.node s c p q st (from_more c p q fits) (to_more c p q fits) u at_c ∙ ap (λ (t : Map Shape). pair_row t c p q) (sym (below_is graph k st.node loc.here)))
        (at_parents at_c fork (pair_at graph c p q st).1 refl)

-- all forms of calls
pub off_of : (graph : Graph) → IsGraph graph → (k : Key) (remaining : Form) (st : Holdings) (o : Moved) (kd : Key) (other : Holdings) (s t : Shape) → Located (numbers graph) k st → graph.shape st.node ≡ Some s → graph.shape other.node ≡ Some t → Fits remaining → HeadsSound graph st.node remaining st → VictimAt graph remaining st
    → next_on graph remaining st ≡ Finishes o → Front graph k st kd other
    → Off graph k remaining kd
off_of graph is k (AtNode c p) st o kd other s t loc u v fits well victim e f = on_off graph is k c p st o kd other loc.here e f
off_of graph is k (AtEntry c p) st o kd other s t loc u v fits well victim e f = in_off graph is k c p st o kd other t loc.here fits victim e f v
off_of graph is k (AtPair c p q) st o kd other s t loc u v fits well victim e f = pair_off graph is k c p q st o kd other s loc u fits well victim e f
