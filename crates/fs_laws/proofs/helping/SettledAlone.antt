-- The placed calls, each going on alone by its own moves, leave what they leave as present calls, and reply the same.
use Rattle.std.proofs.Common.{◌≡◌, ℕ, ◌+◌, ◌<◌, Bool, true, false, List, [], ◌∷◌, ◌++◌, Option, Some, None, refl, sym, ap, ap₂, ◌∙◌, append_assoc, subst, inl, inr, arith}
use Rattle.fs_names.specs.Keys.{Key, after_prefix, parent_of, last_of}
use Rattle.fs_names.specs.Names.{Name, inserted_name, removed_name}
use Rattle.fs_names.specs.Shapes.{Shape, Dir, names_of, File}
use Rattle.fs_laws.specs.Changes.{reply, after}
use Rattle.fs_calls.specs.Forms.{Form, AtNode, AtEntry, AtPair, under, Fits}
use Rattle.fs_calls.specs.Forms as pairs
use Rattle.fs_laws.specs.Maps.{Map}
use Rattle.fs_calls.specs.Rows.{node_row, Edit, Keep, Add, Remove, entry_row}
use Rattle.fs_calls.specs.declared.reply.Reply.{Reply}
use Rattle.fs_calls.specs.Graphs.{Graph, Children, at, numbers, graph_shapes, set_child, set_at, entry_shape, IsGraph, unlinked_in}
use Rattle.fs_machine.specs.Finishes.{Effect, node_effect, entry_effect, move_effect, rename_effect, effect_at, effect_of, finish, swap_effect, exchange_effect}
use Rattle.fs_machine.specs.Moves.{next, next_on, target, dir_error, path_error, rename_at, exchange_at}
use Rattle.fs_machine.specs.declared.moves.Move.TheVariants.{Finish as Finishes}
use Rattle.fs_machine.specs.declared.moves.Moved.{Moved}
use Rattle.fs_machine.specs.Records.{Phase, Walking, Placed, Finished, Record, Records, Holdings, Source, Dest, Side, head_on}
use Rattle.fs_laws.specs.Invariants.{remaining_of, spots, IsPlaced, AllLater, InOrder, IsIn, NumberFor, VictimAt, Invariant, HeadsSound}
use Rattle.fs_laws.specs.Settled.{names_left, alone, settled_by, settled_graph, settled_reply, settled_replies, settle, settle_replies}
use Rattle.fs_laws.specs.CallFacts.{CallFacts, Keeps, Pair, Located, IsAfter}
use Rattle.fs_machine.specs.States.{State, Run}
use Rattle.fs_laws.proofs.trees.Prefixes.{prefix_append, prefix_longer}
use Rattle.fs_laws.proofs.graphs.Walks.{at_same, at_before, at_child, at_from, set_else, then_some}
use Rattle.fs_laws.proofs.events.OneCallChanged.{Place, Here, Else, place}
use Rattle.fs_laws.proofs.events.TwoCalls.{Ends as Snoc, ends, held_off}
use Rattle.fs_laws.proofs.calls.NodesHeld.{node_held}
use Rattle.fs_laws.proofs.finish.Replies.{finish_reply}
use Rattle.fs_laws.proofs.finish.TreeAfter.{finish_tree}
use Rattle.fs_laws.proofs.events.Help.{upd_here, upd_else}
use Rattle.fs_laws.proofs.events.Commit.{placed_in}
use Rattle.fs_laws.proofs.finish.Changes.{Finisher}
use Rattle.fs_laws.proofs.finish.EachCall.{does}
use Rattle.fs_laws.proofs.calls.OwnRecord.{reached_used, well_by}
use Rattle.fs_laws.proofs.calls.HeadOrder.{neat_by}
use Rattle.fs_laws.proofs.states.Headline.{run_keeps}
use Rattle.fs_laws.proofs.states.Agreement.{StateFacts, run_accounts}
use Rattle.fs_laws.proofs.helping.NobodyEnters.{NewEntry, Same_entry, Linked, Moved_entry, finish_entries}
use Rattle.fs_laws.proofs.calls.OneUnfinishedCall.{OneUnfinished, solo_of}
use Rattle.fs_laws.proofs.calls.GoingOnAlone.{Finishing, finishes_alone, enough}

-- a node that a finish does not touch
pub record Untouched (graph new : Graph) (a : ℕ) : Type 0 where
  pub child : (y : Name) → new.child a y ≡ graph.child a y
  pub shape : new.shape a ≡ graph.shape a

untouched : (graph : Graph) (a : ℕ) → Untouched graph graph a
untouched graph a = record { child = λ y. refl; shape = refl }

on_untouched : (graph : Graph) (n a : ℕ) (r : Option ℕ) (row : Reply × Option (List ℕ)) → (a ≡ n → ⊥) → Untouched graph (node_effect graph n r row).graph a
on_untouched graph n a r (t, None) h = untouched graph a
on_untouched graph n a r (t, Some bytes) h = record { child = λ y. refl; shape = upd_else n (Some (File bytes)) graph.shape a h }

in_untouched : (graph : Graph) (n a : ℕ) (x : Name) (r : Option ℕ) (row : Reply × Edit) → (a ≡ n → ⊥) → Untouched graph (entry_effect graph n x r row).graph a
in_untouched graph n a x r (t, Keep) h = untouched graph a
in_untouched graph n a x None (t, Add shape) h = untouched graph a
in_untouched graph n a x (Some m) (t, Add shape) h = record { child = λ y. set_else n x (Some m) graph.child a y (λ i j. h i); shape = upd_else n _ graph.shape a h }
in_untouched graph n a x None (t, Remove) h = record { child = λ y. set_else n x None graph.child a y (λ i j. h i); shape = upd_else n _ graph.shape a h }
in_untouched graph n a x (Some m) (t, Remove) h = record { child = λ y. set_else n x None graph.child a y (λ i j. h i); shape = upd_else n _ graph.shape a h }

moved_untouched : (graph : Graph) (st : Holdings) (a : ℕ) (x y : Name) (reserved : Option ℕ) (r : Reply) (b : Bool) (s : Option ℕ) → (a ≡ st.source.node → ⊥) → (a ≡ st.dest.node → ⊥) → Untouched graph (move_effect graph st x y reserved r b s).graph a
moved_untouched graph st a x y reserved r false s h g = untouched graph a
moved_untouched graph st a x y reserved r true None h g = untouched graph a
moved_untouched graph st a x y reserved r true (Some m) h g = record {
  child = λ z. set_else st.dest.node y (Some m) (set_child st.source.node x None graph.child) a z (λ i j. g i) ∙ set_else st.source.node x None graph.child a z (λ i j. h i);
  shape = upd_else st.dest.node (Some (Dir (inserted_name y (names_of ((unlinked_in st.source.node x graph).shape st.dest.node))))) (unlinked_in st.source.node x graph).shape a g ∙ upd_else st.source.node (Some (Dir (removed_name x (names_of (graph.shape st.source.node))))) graph.shape a h;
}

swapped_untouched : (graph : Graph) (st : Holdings) (a : ℕ) (x y : Name) (reserved : Option ℕ) (r : Reply) (b : Bool) (s t : Option ℕ) → (a ≡ st.source.node → ⊥) → (a ≡ st.dest.node → ⊥) → Untouched graph (swap_effect graph st x y reserved r b s t).graph a
swapped_untouched graph st a x y reserved r false s t h g = untouched graph a
swapped_untouched graph st a x y reserved r true None t h g = untouched graph a
swapped_untouched graph st a x y reserved r true (Some s) None h g = untouched graph a
swapped_untouched graph st a x y reserved r true (Some s) (Some t) h g = record {
  child = λ z. set_else st.source.node x (Some t) (set_child st.dest.node y (Some s) graph.child) a z (λ i j. h i) ∙ set_else st.dest.node y (Some s) graph.child a z (λ i j. g i);
  shape = refl;
}

made_untouched : (graph : Graph) (remaining : Form) (st : Holdings) (reserved : Option ℕ) (a : ℕ) → (a ≡ st.node → ⊥) → (a ≡ st.source.node → ⊥) → (a ≡ st.dest.node → ⊥) → Untouched graph (effect_at graph remaining st reserved).graph a
made_untouched graph (AtNode c p) st reserved a h g i = on_untouched graph st.node a reserved (node_row c (path_error p (graph.shape st.node)) (graph.shape st.node)) h
made_untouched graph (AtEntry c p) st reserved a h g i = in_untouched graph st.node a (last_of p) reserved (entry_row c (dir_error (parent_of p) (graph.shape st.node)) (graph.shape st.node) (entry_shape graph st.node (last_of p))) h
made_untouched graph (AtPair (pairs.Rename most) p q) st reserved a h g i = go (target (AtPair (pairs.Rename most) p q))
  where
    go : (l : Key) → Untouched graph (rename_effect graph most p q st reserved l).graph a
    go [] = moved_untouched graph st a (last_of p) (last_of q) reserved (rename_at graph most p q st).0 (rename_at graph most p q st).1 (graph.child st.source.node (last_of p)) g i
    go (x ∷ l) = untouched graph a
made_untouched graph (AtPair pairs.Exchange p q) st reserved a h g i = go (target (AtPair pairs.Exchange p q))
  where
    go : (l : Key) → Untouched graph (exchange_effect graph p q st reserved l).graph a
    go [] = swapped_untouched graph st a (last_of p) (last_of q) reserved (exchange_at graph p q st).0 (exchange_at graph p q st).1 (graph.child st.source.node (last_of p)) (graph.child st.dest.node (last_of q)) g i
    go (x ∷ l) = untouched graph a

-- a placed call that has gone on alone: what it made, against the old graph
pub record Gone (graph : Graph) (k : Key) (op : Record) (made : Effect) : Type 0 where
  pub is_graph : IsGraph made.graph
  pub tree : graph_shapes made.graph ≡ after (graph_shapes graph) (under k op.remaining)
  pub replied : made.reply ≡ reply (graph_shapes graph) (under k op.remaining)
  -- nodes that are reached by keys that do not begin with k are not touched
  pub untouched : (u : Key) (a : ℕ) → numbers graph u ≡ Some a → after_prefix k u ≡ None → Untouched graph made.graph a
  -- a number in no use by others to which nothing leads stays so
  pub loose : (m : ℕ) → ((u : Key) → numbers graph u ≡ Some m → ⊥) → (op.reserved ≡ Some m → ⊥) → ((u : Key) → numbers made.graph u ≡ Some m → ⊥) × (made.graph.shape m ≡ graph.shape m)

-- the call by itself
only : (op : Record) (c : ℕ) (q : Record) → set_at 0 (Some op) (λ d. None) c ≡ Some q → (c ≡ 0) × (op ≡ q)
only op c q e = go (place 0 (Some op) (λ d. None) c)
  where
    go : Place (Option Record) 0 (Some op) (λ d. None) c → (c ≡ 0) × (op ≡ q)
    go (Here i j) = let z : ◌≡◌ {A = Option Record} (Some op) (Some q) = sym j ∙ e in (i, (let y : op ≡ q = cc in y))
    go (Else n j) = let z : ◌≡◌ {A = Option Record} None (Some q) = sym j ∙ e in cc

-- it stands alone in the graph
lone_kept : (graph : Graph) → IsGraph graph → (k : Key) (op : Record) (st : Holdings) (i : ℕ) → op.phase ≡ Placed i → OneUnfinished graph k op st → CallFacts (numbers graph) (set_at 0 (Some op) (λ d. None)) (λ d. k)
lone_kept graph is k op st i ph s = record { one_key = is.one_key; each = each; pairs = pairs }
  where
    each : (c : ℕ) (q : Record) (other : Holdings) → set_at 0 (Some op) (λ d. None) c ≡ Some q → q.holdings ≡ Some other → Keeps (numbers graph) k q other
    each c q other e on =
        let o : (c ≡ 0) × (op ≡ q) = only op c q e in
        let z : ◌≡◌ {A = Option Holdings} (Some st) (Some other) = sym s.on ∙ ap (λ (x : Record). x.holdings) o.1 ∙ on in
        let y : st ≡ other = cc in
        record {
          located = subst (Located (numbers graph) k) y s.loc;
          walking = λ w. (let x : ◌≡◌ {A = Phase} (Placed i) Walking = sym ph ∙ ap (λ (x : Record). x.phase) o.1 ∙ w in cc);
          fits = subst (λ (x : Record). Fits x.remaining) o.1 s.fits;
        }

    pairs : (c d : ℕ) (p q : Record) (a b : Holdings) → (c ≡ d → ⊥) → set_at 0 (Some op) (λ d. None) c ≡ Some p → set_at 0 (Some op) (λ d. None) d ≡ Some q → p.holdings ≡ Some a → q.holdings ≡ Some b → Pair (numbers graph) k a p.phase k b q.phase
    pairs c d p q a b differs e f g h = absurd (differs ((only op c p e).0 ∙ sym (only op d q f).0))

lone_finisher : (graph : Graph) → IsGraph graph → (k : Key) (op : Record) (st : Holdings) (i : ℕ) (o : Moved) → op.phase ≡ Placed i → OneUnfinished graph k op st → next_on graph op.remaining st ≡ Finishes o → Finisher graph (set_at 0 (Some op) (λ d. None)) (λ d. k) 0 op st o
lone_finisher graph is k op st i o ph s m = record {
  is_graph = is;
  kept = lone_kept graph is k op st i ph s;
  is = upd_here 0 (Some op) (λ d. None);
  on = s.on;
  unfinished = inr (i, ph);
  well = s.well;
  victim = s.victim;
  single = s.single;
  number = s.number;
  next = m;
  none_below = λ w. (let z : ◌≡◌ {A = Phase} (Placed i) Walking = sym ph ∙ w in cc);
  places = λ d q a b differs e. absurd (differs (sym (only op d q e).0));
}

-- a finish of a call that stands alone
gone_made : (graph : Graph) → IsGraph graph → (k r : Key) (op last : Record) (st : Holdings) (i : ℕ) (o : Moved) → last.phase ≡ Placed i → OneUnfinished graph (k ++ r) last st → next_on graph last.remaining st ≡ Finishes o → next graph last ≡ Finishes o
    → under (k ++ r) last.remaining ≡ under k op.remaining → last.reserved ≡ op.reserved → Gone graph k op (effect_at graph last.remaining st last.reserved)
gone_made graph is k r op last st i o ph s m n same reserved = record {
  is_graph = new_graph;
  tree = finish_tree graph is (k ++ r) used.0 last.remaining st last.reserved o s.loc.here used.1 s.fits s.well s.number m ∙ ap (after (graph_shapes graph)) same;
  replied = finish_reply graph is (k ++ r) used.0 last.remaining st last.reserved o s.loc.here used.1 s.fits s.well m ∙ ap (reply (graph_shapes graph)) same;
  untouched = λ u a e off. made_untouched graph last.remaining st last.reserved a (outside u a e off r st.node s.loc.here) (outside u a e off (r ++ st.source.walked) st.source.node (below st.source.walked st.source.node (s.loc.head Source))) (outside u a e off (r ++ st.dest.walked) st.dest.node (below st.dest.walked st.dest.node (s.loc.head Dest)));
  loose = λ v free mine. (stays v free mine, shape v free);
}
  where
    used : (t : Shape) × (graph.shape st.node ≡ Some t)
    used = reached_used graph is (k ++ r) st.node s.loc.here

    new_graph : IsGraph (effect_at graph last.remaining st last.reserved).graph
    new_graph = (does graph (set_at 0 (Some last) (λ d. None)) (λ d. k ++ r) 0 last st o used.0 (lone_finisher graph is (k ++ r) last st i o ph s m) s.fits used.1).altered.is_graph

    below : (w : Key) (b : ℕ) → numbers graph ((k ++ r) ++ w) ≡ Some b → numbers graph (k ++ (r ++ w)) ≡ Some b
    below w b e = ap (numbers graph) (sym (append_assoc k r w)) ∙ e

    outside : (u : Key) (a : ℕ) → numbers graph u ≡ Some a → after_prefix k u ≡ None → (w : Key) (b : ℕ) → numbers graph (k ++ w) ≡ Some b → a ≡ b → ⊥
    outside u a e off w b f j =
        let z : u ≡ k ++ w = is.one_key u (k ++ w) b (e ∙ ap (λ (x : ℕ). Some x) j) f in
        let y : ◌≡◌ {A = Option Key} None (Some w) = sym off ∙ ap (after_prefix k) z ∙ prefix_append k w in
        cc

    made_is : finish graph last ≡ effect_at graph last.remaining st last.reserved
    made_is = ap₂ (effect_of graph last) s.text s.on

    shape : (v : ℕ) → ((u : Key) → numbers graph u ≡ Some v → ⊥) → (effect_at graph last.remaining st last.reserved).graph.shape v ≡ graph.shape v
    shape v free = (made_untouched graph last.remaining st last.reserved v (λ j. free (k ++ r) (s.loc.here ∙ ap (λ (x : ℕ). Some x) (sym j))) (λ j. free ((k ++ r) ++ st.source.walked) ((s.loc.head Source) ∙ ap (λ (x : ℕ). Some x) (sym j))) (λ j. free ((k ++ r) ++ st.dest.walked) ((s.loc.head Dest) ∙ ap (λ (x : ℕ). Some x) (sym j)))).shape

    -- no entry leads to it
    entry : (v a : ℕ) (x : Name) → ((u : Key) → numbers graph u ≡ Some v → ⊥) → (op.reserved ≡ Some v → ⊥) → NewEntry graph last o a v x → ⊥
    entry v a x free mine (Same_entry e) = let l : (key : Key) × (numbers graph key ≡ Some a) = is.loose a v x e in free (l.0 ++ x ∷ []) (at_child graph.child 0 a l.0 x l.1 ∙ e)
    entry v a x free mine (Linked e) = mine (sym reserved ∙ e)
    entry v a x free mine (Moved_entry holdings w on e g) =
        let z : ◌≡◌ {A = Option Holdings} (Some holdings) (Some st) = sym on ∙ s.on in
        let y : holdings ≡ st = cc in
        free ((k ++ r) ++ w) (at_from graph.child 0 st.node (k ++ r) w s.loc.here ∙ ap (λ (b : Holdings). at graph.child b.node w) (sym y) ∙ e)

    stays : (v : ℕ) → ((u : Key) → numbers graph u ≡ Some v → ⊥) → (op.reserved ≡ Some v → ⊥) → (u : Key) → numbers (effect_at graph last.remaining st last.reserved).graph u ≡ Some v → ⊥
    stays v free mine [] e = free [] e
    stays v free mine (y ∷ u) e =
        let d : Snoc (y ∷ u) = ends (y ∷ u) tt in
        let child : Children = (effect_at graph last.remaining st last.reserved).graph.child in
        let b : (a : ℕ) × (at child 0 d.front ≡ Some a) × (at child a (d.last ∷ []) ≡ Some v) = at_before child 0 v d.front (d.last ∷ []) (ap (at child 0) (sym d.is) ∙ e) in
        let g : (c : ℕ) × (child b.0 d.last ≡ Some c) × (◌≡◌ {A = Option ℕ} (Some c) (Some v)) = then_some (child b.0 d.last) (λ c. Some c) v b.2 in
        let h : (finish graph last).graph.child b.0 d.last ≡ Some v = ap (λ (t : Effect). t.graph.child b.0 d.last) made_is ∙ g.1 ∙ g.2 in
        entry v b.0 d.last free mine (finish_entries graph is last o (λ other on. well_there other on) n b.0 v d.last h)
      where
        well_there : (other : Holdings) → last.holdings ≡ Some other → HeadsSound graph other.node last.remaining other
        well_there other on = let z : ◌≡◌ {A = Option Holdings} (Some st) (Some other) = sym s.on ∙ on in subst (λ (x : Holdings). HeadsSound graph x.node last.remaining x) (let y : st ≡ other = cc in y) s.well

pub gone : (graph : Graph) → IsGraph graph → (k : Key) (op : Record) (st : Holdings) (i : ℕ) → op.phase ≡ Placed i → OneUnfinished graph k op st → Gone graph k op (alone graph op)
gone graph is k op st i ph s =
    let f : Finishing graph k op (names_left op.remaining + names_left op.remaining + 4) = finishes_alone (names_left op.remaining + names_left op.remaining + 4) graph is k op st s (enough op.remaining st) in
    let e : alone graph op ≡ effect_at graph f.last.remaining f.st f.last.reserved = f.made ∙ ap₂ (effect_of graph f.last) f.solo.text f.solo.on in
    subst (Gone graph k op) (sym e) (gone_made graph is k f.r op f.last f.st i f.o (f.phase ∙ ph) f.solo f.move f.ends f.same f.reserved)

-- another call whose keys do not begin with k
pub record OffKeys (k kd : Key) (st : Holdings) : Type 0 where
  pub here : after_prefix k kd ≡ None
  pub head : (side : Side) → after_prefix k (kd ++ (head_on side st).walked) ≡ None

-- stays where it is
numbers_stay : (graph : Graph) (made : Effect) (k : Key) (op : Record) → Gone graph k op made → (u : Key) → after_prefix k u ≡ None → numbers made.graph u ≡ numbers graph u
numbers_stay graph made k op g u off = sym (at_same graph.child made.graph.child 0 u (λ v w x m i j. sym ((g.untouched v m j (front v (x ∷ w) i)).child x)))
  where
    front : (v w : Key) → u ≡ v ++ w → after_prefix k v ≡ None
    front v w i = go (after_prefix k v) refl
      where
        go : (o : Option Key) → after_prefix k v ≡ o → o ≡ None
        go None e = refl
        go (Some r) e = let z : ◌≡◌ {A = Option Key} None (Some (r ++ w)) = sym off ∙ ap (after_prefix k) i ∙ prefix_longer k v w r e in cc

solo_stays : (graph : Graph) (made : Effect) (k : Key) (op : Record) → Gone graph k op made → (kd : Key) (q : Record) (st : Holdings) → OffKeys k kd st → ((n : ℕ) → op.reserved ≡ Some n → q.reserved ≡ Some n → ⊥) → OneUnfinished graph kd q st → OneUnfinished made.graph kd q st
solo_stays graph made k op g kd q st off apart s = record {
  on = s.on;
  unfinished = s.unfinished;
  text = s.text;
  loc = loc;
  fits = s.fits;
  well = well_by graph made.graph kd st q.remaining loc s.well;
  number = number q.remaining s.number;
  victim = victim q.remaining s.victim;
  single = s.single;
  neat = neat_by graph made.graph q.remaining st (λ names e. (names, (g.untouched (kd ++ st.source.walked) st.source.node (s.loc.head Source) (off.head Source)).shape ∙ e)) s.neat;
}
  where
    loc : Located (numbers made.graph) kd st
    loc = record {
      here = numbers_stay graph made k op g kd off.here ∙ s.loc.here;
      head = λ side. numbers_stay graph made k op g (kd ++ (head_on side st).walked) (off.head side) ∙ s.loc.head side;
    }

    number : (f : Form) → NumberFor graph f q.reserved → NumberFor made.graph f q.reserved
    number (AtNode c p) w = w
    number (AtEntry c p) w = λ shape e.
        (let h : (m : ℕ) × (q.reserved ≡ Some m) × (graph.shape m ≡ Some shape) × ((key : Key) → numbers graph key ≡ Some m → ⊥) = w shape e in
        let l : ((u : Key) → numbers made.graph u ≡ Some h.0 → ⊥) × (made.graph.shape h.0 ≡ graph.shape h.0) = g.loose h.0 h.3 (λ i. apart h.0 i h.1) in
        (h.0, h.1, l.1 ∙ h.2, l.0))
    number (AtPair pair a b) w = w

    victim : (f : Form) → VictimAt graph f st → VictimAt made.graph f st
    victim (AtNode c p) w = w
    victim (AtEntry c p) w = λ v e. (g.untouched kd st.node s.loc.here off.here).child (last_of p) ∙ w v e
    victim (AtPair pair a b) w = λ v e. ((g.untouched (kd ++ st.dest.walked) st.dest.node (s.loc.head Dest) (off.head Dest)).child (last_of b) ∙ (w v e).0, (w v e).1, (w v e).2)

-- placed calls in their order, each where it stands, and the later ones off its keys
pub record PlacedSolo (graph : Graph) (ops : Records) (key : ℕ → Key) (c : ℕ) : Type 0 where
  pub op : Record
  pub st : Holdings
  pub place_no : ℕ
  pub is : ops c ≡ Some op
  pub phase : op.phase ≡ Placed place_no
  pub solo : OneUnfinished graph (key c) op st

abbrev pub Ahead : Records → (ℕ → Key) → ℕ → Record → List ℕ → Type 0
Ahead ops key c op cs = (d : ℕ) (q : Record) (st : Holdings) → IsIn d cs → ops d ≡ Some q → q.holdings ≡ Some st → OffKeys (key c) (key d) st × ((n : ℕ) → op.reserved ≡ Some n → q.reserved ≡ Some n → ⊥)

abbrev pub Stack : Graph → Records → (ℕ → Key) → List ℕ → Type 0
Stack graph ops key [] = Unit {0}
Stack graph ops key (c ∷ cs) = (p : PlacedSolo graph ops key c) × Ahead ops key c p.op cs × Stack graph ops key cs

stack_stays : (graph : Graph) (made : Effect) (ops : Records) (key : ℕ → Key) (k : Key) (op : Record) → Gone graph k op made → (cs : List ℕ)
    → ((d : ℕ) (q : Record) (st : Holdings) → IsIn d cs → ops d ≡ Some q → q.holdings ≡ Some st → OffKeys k (key d) st × ((n : ℕ) → op.reserved ≡ Some n → q.reserved ≡ Some n → ⊥))
    → Stack graph ops key cs → Stack made.graph ops key cs
stack_stays graph made ops key k op g [] off s = tt
stack_stays graph made ops key k op g (d ∷ cs) off s =
    let p : PlacedSolo graph ops key d = s.0 in
    let o : OffKeys k (key d) p.st × ((n : ℕ) → op.reserved ≡ Some n → p.op.reserved ≡ Some n → ⊥) = off d p.op p.st (inl refl) p.is p.solo.on in
    (record { op = p.op; st = p.st; place_no = p.place_no; is = p.is; phase = p.phase; solo = solo_stays graph made k op g (key d) p.op p.st o.0 o.1 p.solo }, s.1, stack_stays graph made ops key k op g cs (λ e q st i. off e q st (inr i)) s.2)

-- the placed calls alone, one after another
pub settles_alone : (graph : Graph) → IsGraph graph → (ops : Records) (key : ℕ → Key) (cs : List ℕ) → Stack graph ops key cs
    → (graph_shapes (settled_graph graph ops cs) ≡ settle (graph_shapes graph) (spots ops key cs)) × (settled_replies graph ops cs ≡ settle_replies (graph_shapes graph) (spots ops key cs))
settles_alone graph is ops key [] s = (refl, refl)
settles_alone graph is ops key (c ∷ cs) s =
    let p : PlacedSolo graph ops key c = s.0 in
    let g : Gone graph (key c) p.op (alone graph p.op) = gone graph is (key c) p.op p.st p.place_no p.phase p.solo in
    let rest : (graph_shapes (settled_graph (alone graph p.op).graph ops cs) ≡ settle (graph_shapes (alone graph p.op).graph) (spots ops key cs)) × (settled_replies (alone graph p.op).graph ops cs ≡ settle_replies (graph_shapes (alone graph p.op).graph) (spots ops key cs)) =
    settles_alone (alone graph p.op).graph g.is_graph ops key cs (stack_stays graph (alone graph p.op) ops key (key c) p.op g cs s.1 s.2) in
    let call : under (key c) p.op.remaining ≡ under (key c) (remaining_of (ops c)) = ap (λ (o : Option Record). under (key c) (remaining_of o)) (sym p.is) in (
      ap (λ (o : Option Record). graph_shapes (settled_graph (settled_by graph o) ops cs)) p.is ∙ rest.0 ∙ ap (λ (t : Map Shape). settle t (spots ops key cs)) (g.tree ∙ ap (after (graph_shapes graph)) call),
      ap (λ (o : Option Record). settled_reply graph o (settled_replies (settled_by graph o) ops cs)) p.is
          ∙ ap₂ (λ (r : Reply) (rs : List Reply). r ∷ rs) (g.replied ∙ ap (reply (graph_shapes graph)) call) (rest.1 ∙ ap (λ (t : Map Shape). settle_replies t (spots ops key cs)) (g.tree ∙ ap (after (graph_shapes graph)) call)),
    )

-- those of a run
later_in : (ops : Records) (i : ℕ) (d : ℕ) (cs : List ℕ) → AllLater ops i cs → IsIn d cs → (p : IsPlaced ops d) → i < p.place
later_in ops i d [] l j p = absurd j
later_in ops i d (c ∷ cs) l (inl e) p = subst (λ (x : ℕ). (p : IsPlaced ops x) → i < p.place) (sym e) l.0 p
later_in ops i d (c ∷ cs) l (inr j) p = later_in ops i d cs l.1 j p

run_stack : (s : State) (inv : Invariant s) (acc : StateFacts s) (cs : List ℕ) → InOrder s.ops cs → Stack s.graph s.ops inv.key cs
run_stack s inv acc [] o = tt
run_stack s inv acc (c ∷ cs) o = (first, ahead, run_stack s inv acc cs o.2)
  where
    p : IsPlaced s.ops c
    p = o.0

    first : PlacedSolo s.graph s.ops inv.key c
    first = record { op = o.0.op; st = o.0.holdings; place_no = o.0.place; is = o.0.is; phase = o.0.phase; solo = solo_of s inv acc c o.0.op o.0.holdings o.0.is (λ r e. (let z : ◌≡◌ {A = Phase} (Placed o.0.place) (Finished r) = sym o.0.phase ∙ e in cc)) o.0.on }

    ahead : Ahead s.ops inv.key c o.0.op cs
    ahead d q st i is on = (off, λ n e f. inv.apart c d n o.0.op q differs o.0.is is (inl e) (inl f))
      where
        h : IsPlaced s.ops d
        h = placed_in s.ops d cs o.2 i

        q_is : h.op ≡ q
        q_is = let z : ◌≡◌ {A = Option Record} (Some h.op) (Some q) = sym h.is ∙ is in cc

        less : o.0.place < h.place
        less = later_in s.ops o.0.place d cs o.1 i h

        q_phase : q.phase ≡ Placed h.place
        q_phase = ap (λ (x : Record). x.phase) (sym q_is) ∙ h.phase

        differs : c ≡ d → ⊥
        differs e =
            let z : ◌≡◌ {A = Option Record} (Some o.0.op) (Some q) = sym o.0.is ∙ ap s.ops e ∙ is in
            let y : o.0.op ≡ q = cc in
            let x : ◌≡◌ {A = Phase} (Placed o.0.place) (Placed h.place) = sym o.0.phase ∙ ap (λ (x : Record). x.phase) y ∙ q_phase in
            let w : o.0.place ≡ h.place = cc in
            omega (arith, less, w)

        pair : Pair (numbers s.graph) (inv.key c) o.0.holdings o.0.op.phase (inv.key d) st q.phase
        pair = inv.kept.pairs c d o.0.op q o.0.holdings st differs o.0.is is o.0.on on

        back : Pair (numbers s.graph) (inv.key d) st q.phase (inv.key c) o.0.holdings o.0.op.phase
        back = inv.kept.pairs d c q o.0.op st o.0.holdings (λ e. differs (sym e)) is o.0.is on o.0.on

        mine : Located (numbers s.graph) (inv.key c) o.0.holdings
        mine = (inv.kept.each c o.0.op o.0.holdings o.0.is o.0.on).located

        its : Located (numbers s.graph) (inv.key d) st
        its = (inv.kept.each d q st is on).located

        none : after_prefix (inv.key c) (inv.key d) ≡ None
        none = pair.after (subst (λ (x : Phase). IsAfter x q.phase) (sym o.0.phase) (subst (IsAfter (Placed o.0.place)) (sym q_phase) less))

        off : OffKeys (inv.key c) (inv.key d) st
        off = record {
          here = none;
          head = λ side. held_off (numbers s.graph) (inv.key c) o.0.holdings st (inv.key d) (head_on side st).walked (head_on side st).node mine.here pair.apart (its.head side) (node_held side (numbers s.graph) (inv.key d) st its) (back.clear side) none;
        }

pub run_settles_alone : (s : State) (run : Run s)
    → (graph_shapes (settled_graph s.graph s.ops (run_keeps s run).order) ≡ settle (graph_shapes s.graph) (spots s.ops (run_keeps s run).key (run_keeps s run).order))
    × (settled_replies s.graph s.ops (run_keeps s run).order ≡ settle_replies (graph_shapes s.graph) (spots s.ops (run_keeps s run).key (run_keeps s run).order))
run_settles_alone s run = settles_alone s.graph (run_keeps s run).is_graph s.ops (run_keeps s run).key (run_keeps s run).order (run_stack s (run_keeps s run) (run_accounts s run) (run_keeps s run).order (run_keeps s run).in_order)
