-- What a finish does to the graph and to where all calls stand.
use Rattle.std.proofs.Common.{◌≡◌, ℕ, Bool, true, false, List, [], ◌∷◌, ◌++◌, Option, Some, None, refl, sym, ap, ◌∙◌, append-nil, subst, ◌⊎◌}
use Rattle.fs_names.specs.Keys.{Key, after_prefix, last_of}
use Rattle.fs_names.specs.Names.{Name}
use Rattle.fs_names.specs.Shapes.{Shape, Dir, File, is_full}
use Rattle.fs_laws.specs.Changes.{Rekeying, Stay, Change, content_change, edit_change}
use Rattle.fs_calls.specs.Forms.{NodeCall, Form, AtEntry, new_shape, EntryCall, Mkdir, Mknod, Unlink, Rmdir}
use Rattle.fs_laws.specs.Maps.{Map, put}
use Rattle.fs_calls.specs.Rows.{node_row, Edit, Keep, Add, Remove, entry_row}
use Rattle.fs_calls.proofs.RowNames.{on_dir}
use Rattle.fs_calls.specs.declared.errno.Errno.{Errno}
use Rattle.fs_calls.specs.declared.reply.Reply.{Reply}
use Rattle.fs_calls.specs.Graphs.{Graph, at, then_at, numbers, entry_shape, IsGraph, linked_in, unlinked_in}
use Rattle.fs_machine.specs.Finishes.{Effect, no_effect, node_effect, entry_effect}
use Rattle.fs_machine.specs.Moves.{take_if, next_on, victim_of, entry_move}
use Rattle.fs_machine.specs.declared.moves.Move.TheVariants.{Finish as Finishes}
use Rattle.fs_machine.specs.declared.moves.Moved.{Moved}
use Rattle.fs_machine.specs.declared.moves.Moved.TheVariants.{Nothing}
use Rattle.fs_machine.specs.Records.{Walking, Placed, Record, Records, Holdings, Side, head_on}
use Rattle.fs_machine.specs.States.{IsMoved}
use Rattle.fs_laws.specs.Invariants.{HeadsSound, VictimAt, NumberFor, HasNumber, IsSingle, At_node, At_head, At_victim, if_walked}
use Rattle.fs_laws.specs.Placed.{rekey, rekey_move}
use Rattle.fs_laws.specs.CallFacts.{Located, CallFacts}
use Rattle.fs_laws.proofs.calls.Located.{change_under}
use Rattle.fs_laws.proofs.graphs.Walks.{at_before, at_child, at_from}
use Rattle.fs_laws.proofs.graphs.TreesOfChanges.{CanLink, CanUnlink, numbers_linked, numbers_unlinked, put_one}
use Rattle.fs_laws.proofs.finish.RowParts.{made}
use Rattle.fs_laws.proofs.finish.Replies.{Leaf, leaf_children, add_of, remove_of, no_entry}
use Rattle.fs_laws.proofs.events.OtherChanges.{OffPlaces, kept_put, kept_cut, victim_off}
use Rattle.fs_laws.proofs.graphs.Alterations.{Altered, Reached, altered_same, altered_content, altered_linked, altered_unlinked, unlinked_gone}
use Rattle.fs_laws.proofs.helping.ReadsNothingBelow.{take_done}
use Rattle.fs_laws.proofs.helping.MovesSpareOthers.{Mover, Moves, entry_of}
use Rattle.fs_laws.proofs.calls.NodesHeld.{node_held}
use Rattle.fs_laws.proofs.trees.Prefixes.{prefix_some}

-- a call that stands somewhere and whose next move is to finish
pub record Finisher (graph : Graph) (ops : Records) (key : ℕ → Key) (c : ℕ) (op : Record) (st : Holdings) (o : Moved) : Type 0 where
  pub is_graph : IsGraph graph
  pub kept : CallFacts (numbers graph) ops key
  pub is : ops c ≡ Some op
  pub on : op.holdings ≡ Some st
  pub unfinished : (op.phase ≡ Walking) ⊎ ((j : ℕ) × (op.phase ≡ Placed j))
  pub well : HeadsSound graph st.node op.remaining st
  pub victim : VictimAt graph op.remaining st
  pub single : IsSingle st
  pub number : NumberFor graph op.remaining op.reserved
  pub next : next_on graph op.remaining st ≡ Finishes o
  -- while it walks, no walking call is below what it would move
  pub none_below : op.phase ≡ Walking → (s d : ℕ) (q : Record) (other : Holdings) (r : Key) → IsMoved o s → ops d ≡ Some q → q.holdings ≡ Some other → q.phase ≡ Walking → at graph.child s r ≡ Some other.node → ⊥
  -- no two calls have one place
  pub places : (d : ℕ) (q : Record) (i j : ℕ) → (c ≡ d → ⊥) → ops d ≡ Some q → q.phase ≡ Placed i → op.phase ≡ Placed j → i ≡ j → ⊥

-- such a call, and an entry that it moves, towards all others
pub mover_of : (graph : Graph) (ops : Records) (key : ℕ → Key) (c : ℕ) (op : Record) (st : Holdings) (o : Moved) → Finisher graph ops key c op st o → Mover ops c op st
mover_of graph ops key c op st o f = record {
  is = f.is;
  on = f.on;
  unfinished = f.unfinished;
  held = λ side. node_held side (numbers graph) (key c) st (f.kept.each c op st f.is f.on).located;
  places = f.places;
}

pub moves_of : (graph : Graph) (ops : Records) (key : ℕ → Key) (c : ℕ) (op : Record) (st : Holdings) (o : Moved) → Finisher graph ops key c op st o → (side : Side) (x : Name) (m : ℕ) → graph.child (head_on side st).node x ≡ Some m → IsMoved o m
    → ((a : Side) → after_prefix (entry_of (key c) st side x) (key c ++ (head_on a st).walked) ≡ None) → Moves ops key c op st side x
moves_of graph ops key c op st o f side x m child one off = record { off_head = off; none_below = λ w d q other n e g i. below w d q other e g i (after_prefix (entry_of (key c) st side x) (key d)) refl }
  where
    at_entry : numbers graph ((key c ++ (head_on side st).walked) ++ x ∷ []) ≡ Some m
    at_entry = at_child graph.child 0 (head_on side st).node (key c ++ (head_on side st).walked) x ((f.kept.each c op st f.is f.on).located.head side) ∙ child

    below : op.phase ≡ Walking → (d : ℕ) (q : Record) (other : Holdings) → ops d ≡ Some q → q.holdings ≡ Some other → q.phase ≡ Walking → (a : Option Key) → after_prefix ((key c ++ (head_on side st).walked) ++ x ∷ []) (key d) ≡ a → a ≡ None
    below w d q other e g i None j = refl
    below w d q other e g i (Some a) j =
        let there : at graph.child m a ≡ Some other.node = sym (at_from graph.child 0 m (entry_of (key c) st side x) a at_entry) ∙ ap (numbers graph) (sym (prefix_some (entry_of (key c) st side x) (key d) a j)) ∙ (f.kept.each d q other e g).located.here in
        absurd (f.none_below w m d q other a one e g i there)

-- what its finish does
pub record Does (graph : Graph) (ops : Records) (key : ℕ → Key) (st : Holdings) (number : Option ℕ) (ch : Change) (made : Effect) : Type 0 where
  pub linked : Option ℕ
  pub altered : Altered graph made.graph linked st
  pub kept : CallFacts (numbers made.graph) ops (λ d. rekey ch (key d))
  pub links : (n : ℕ) → linked ≡ Some n → (number ≡ Some n) × (made.reserved ≡ None)
  pub reserved : (n : ℕ) → made.reserved ≡ Some n → number ≡ Some n
  pub removed : (n : ℕ) → made.removed ≡ Some n → (st.victim ≡ Some n) × ((l : Key) → numbers made.graph l ≡ Some n → ⊥) × Reached graph n

kept_still : (tree : Map ℕ) (ops : Records) (key : ℕ → Key) (ch : Change) → ch.moves ≡ Stay → CallFacts tree ops key → CallFacts tree ops (λ d. rekey ch (key d))
kept_still tree ops key ch e k = subst (λ (m : Rekeying). CallFacts tree ops (λ d. rekey_move m (key d))) (sym e) k

pub does_nothing : (graph : Graph) (ops : Records) (key : ℕ → Key) (st : Holdings) (reserved : Option ℕ) (ch : Change) (r : Reply) → IsGraph graph → CallFacts (numbers graph) ops key → ch.moves ≡ Stay → Does graph ops key st reserved ch (no_effect r graph reserved)
does_nothing graph ops key st reserved ch r is kept e = record {
  linked = None;
  altered = altered_same graph st is;
  kept = kept_still (numbers graph) ops key ch e kept;
  links = λ n i. cc;
  reserved = λ n i. i;
  removed = λ n i. cc;
}

-- a call on a node
no_bytes : (r : Reply) (x : Reply × Option (List ℕ)) (bytes : List ℕ) → x ≡ (r, None) → x.1 ≡ Some bytes → ⊥
no_bytes r x bytes e f = let z : ◌≡◌ {A = Option (List ℕ)} None (Some bytes) = sym (ap (λ (o : Reply × Option (List ℕ)). o.1) e) ∙ f in cc

no_some : (bytes : List ℕ) → ◌≡◌ {A = Option (List ℕ)} None (Some bytes) → ⊥
no_some bytes e = cc

pub content_of : (c : NodeCall) (e : Option Errno) (s : Option Shape) (bytes : List ℕ) → (node_row c e s).1 ≡ Some bytes → (old : List ℕ) × (s ≡ Some (File old))
content_of c (Some e) s bytes i = cc
content_of c None None bytes i = cc
content_of c None (Some (Dir names)) bytes i = absurd (no_some bytes (sym (on_dir c names) ∙ i))
content_of c None (Some (File old)) bytes i = (old, refl)

pub does_on : (graph : Graph) (ops : Records) (key : ℕ → Key) (st : Holdings) (reserved : Option ℕ) (k p : Key) (b : Option (List ℕ)) (row : Reply × Option (List ℕ)) → IsGraph graph → CallFacts (numbers graph) ops key → numbers graph k ≡ Some st.node
    → ((bytes : List ℕ) → row.1 ≡ Some bytes → (old : List ℕ) × (graph.shape st.node ≡ Some (File old)))
    → Does graph ops key st reserved (change_under k (content_change p b)) (node_effect graph st.node reserved row)
does_on graph ops key st reserved k p b (r, None) is kept at_k file = does_nothing graph ops key st reserved (change_under k (content_change p b)) r is kept (none b)
  where
    none : (b : Option (List ℕ)) → (change_under k (content_change p b)).moves ≡ Stay
    none None = refl
    none (Some bytes) = refl
does_on graph ops key st reserved k p b (r, Some bytes) is kept at_k file = record {
  linked = None;
  altered = let f : (old : List ℕ) × (graph.shape st.node ≡ Some (File old)) = file bytes refl in altered_content graph st k bytes f.0 is at_k f.1;
  kept = kept_still (numbers graph) ops key (change_under k (content_change p b)) (none b) kept;
  links = λ n i. cc;
  reserved = λ n i. i;
  removed = λ n i. cc;
}
  where
    none : (b : Option (List ℕ)) → (change_under k (content_change p b)).moves ≡ Stay
    none None = refl
    none (Some bytes) = refl

-- a call that makes a node removes none
never_removed : (new : Shape) (full : Bool) (there : Option Shape) → (made new full there).1 ≡ Remove → ⊥
never_removed new true None i = cc
never_removed new false None i = cc
never_removed new full (Some s) i = cc

-- an entry is removed where its victim is a right one
pub remove_victim : (c : EntryCall) (e : Option Errno) (parent there : Option Shape) → (entry_row c e parent there).1 ≡ Remove → (e ≡ None) × (victim_of c there ≡ true)
remove_victim c (Some e) parent there i = cc
remove_victim (Mkdir most) None parent there i = absurd (never_removed (Dir []) (is_full most parent) there i)
remove_victim (Mknod most) None parent there i = absurd (never_removed (File []) (is_full most parent) there i)
remove_victim Unlink None parent None i = cc
remove_victim Unlink None parent (Some (Dir names)) i = cc
remove_victim Unlink None parent (Some (File bytes)) i = (refl, refl)
remove_victim Rmdir None parent None i = cc
remove_victim Rmdir None parent (Some (File bytes)) i = cc
remove_victim Rmdir None parent (Some (Dir [])) i = (refl, refl)
remove_victim Rmdir None parent (Some (Dir (x ∷ names))) i = cc

-- a victim that the call holds is none of its own places
pub own_off : (tree : Map ℕ) (k : Key) (st : Holdings) (t : Key) (v : ℕ) → Located tree k st → IsSingle st → st.victim ≡ Some v → tree t ≡ Some v
    → OffPlaces t k st
own_off tree k st t v loc single vic at_t = (here, λ side. head side (head_on side st).walked refl)
  where
    node_is : (l : Key) (n : ℕ) → tree l ≡ Some n → l ≡ t → n ≡ v
    node_is l n e f = let z : ◌≡◌ {A = Option ℕ} (Some n) (Some v) = sym e ∙ ap tree f ∙ at_t in cc

    here : k ≡ t → ⊥
    here e = let z : At_node ≡ At_victim = single At_node At_victim v (ap Some (node_is k st.node loc.here e)) vic in cc

    head : (side : Side) (w : Key) → (head_on side st).walked ≡ w → k ++ (head_on side st).walked ≡ t → ⊥
    head side [] i e = here (sym (append-nil k) ∙ ap (λ (l : Key). k ++ l) (sym i) ∙ e)
    head side (x ∷ w) i e = let z : At_head side ≡ At_victim = single (At_head side) At_victim v (ap (λ (l : Key). if_walked l (Some (head_on side st).node)) i ∙ ap Some (node_is (k ++ (head_on side st).walked) (head_on side st).node (loc.head side) e)) vic in cc

none_moves : (k d : Key) (names : List Name) (x : Name) (p : Key) (e : Edit) → (change_under k (edit_change d names x p e)).moves ≡ Stay
none_moves k d names x p Keep = refl
none_moves k d names x p (Add s) = refl
none_moves k d names x p Remove = refl

closed_of : (graph : Graph) (a b : Key) (m : ℕ) → numbers graph (a ++ b) ≡ Some m → (q : ℕ) × (numbers graph a ≡ Some q)
closed_of graph a b m e = let g : (q : ℕ) × (numbers graph a ≡ Some q) × (at graph.child q b ≡ Some m) = at_before graph.child 0 m a b e in (g.0, g.1)

-- the leaf that a removal takes out is the victim that the call holds
pub removed_leaf : (graph : Graph) (st : Holdings) (o : Moved) (e : EntryCall) (p : Key) (ed : Option Errno) (parent : Option Shape)
    → VictimAt graph (AtEntry e p) st → (done : ed ≡ None → entry_move graph e (last_of p) st ≡ Finishes o)
    → (r : Reply) → entry_row e ed parent (entry_shape graph st.node (last_of p)) ≡ (r, Remove)
    → (v : ℕ) × (graph.child st.node (last_of p) ≡ Some v) × Leaf (graph.shape v) × (st.victim ≡ Some v)
removed_leaf graph st o e p ed parent vic done r i = (v.0, v.1, v.2, held)
  where
    want : (ed ≡ None) × (victim_of e (entry_shape graph st.node (last_of p)) ≡ true)
    want = remove_victim e ed parent (entry_shape graph st.node (last_of p)) (ap (λ (x : Reply × Edit). x.1) i)

    leaf_of : (v : Option ℕ) → Leaf (then_at v graph.shape) → (m : ℕ) × (v ≡ Some m) × Leaf (graph.shape m)
    leaf_of None l = absurd l
    leaf_of (Some m) l = (m, refl, l)

    v : (m : ℕ) × (graph.child st.node (last_of p) ≡ Some m) × Leaf (graph.shape m)
    v = leaf_of (graph.child st.node (last_of p)) (remove_of e ed parent (entry_shape graph st.node (last_of p)) r i)

    held : st.victim ≡ Some v.0
    held =
        let t : take_if (victim_of e (entry_shape graph st.node (last_of p))) (Some v.0) st.victim (Finishes Nothing) ≡ Finishes o = ap (λ (n : Option ℕ). take_if (victim_of e (entry_shape graph st.node (last_of p))) n st.victim (Finishes Nothing)) (sym v.1) ∙ done want.0 in
        let w : (w : ℕ) × (st.victim ≡ Some w) = take_done (victim_of e (entry_shape graph st.node (last_of p))) v.0 st.victim o Nothing want.1 t in
        w.1 ∙ sym (vic w.0 w.1) ∙ v.1

pub does_in : (graph : Graph) (ops : Records) (key : ℕ → Key) (c : ℕ) (op : Record) (st : Holdings) (o : Moved) (e : EntryCall) (p d : Key) (names : List Name) (z : Name) (pp : Key) (change : Edit) (ed : Option Errno) (parent : Option Shape)
    → Finisher graph ops key c op st o → op.remaining ≡ AtEntry e p
    → (dir : ed ≡ None → (ns : List Name) × (graph.shape st.node ≡ Some (Dir ns)))
    → (done : ed ≡ None → entry_move graph e (last_of p) st ≡ Finishes o)
    → (row : Reply × Edit) → entry_row e ed parent (entry_shape graph st.node (last_of p)) ≡ row
    → Does graph ops key st op.reserved (change_under (key c) (edit_change d names z pp change)) (entry_effect graph st.node (last_of p) op.reserved row)
does_in graph ops key c op st o e p d names z pp change ed parent f rem dir done (r, Keep) i = does_nothing graph ops key st op.reserved (change_under (key c) (edit_change d names z pp change)) r f.is_graph f.kept (none_moves (key c) d names z pp change)
does_in graph ops key c op st o e p d names z pp change ed parent f rem dir done (r, Add shape) i = subst (λ (n : Option ℕ). Does graph ops key st n (change_under (key c) (edit_change d names z pp change)) (entry_effect graph st.node (last_of p) n (r, Add shape))) (sym has.1) made
  where
    add : (ed ≡ None) × (new_shape e ≡ Some shape) × (entry_shape graph st.node (last_of p) ≡ None)
    add = add_of e ed parent (entry_shape graph st.node (last_of p)) r shape i

    number : HasNumber graph e op.reserved
    number = subst (λ (x : Form). NumberFor graph x op.reserved) rem f.number

    has : (m : ℕ) × (op.reserved ≡ Some m) × (graph.shape m ≡ Some shape) × ((key : Key) → numbers graph key ≡ Some m → ⊥)
    has = number shape add.1

    here : numbers graph (key c) ≡ Some st.node
    here = (f.kept.each c op st f.is f.on).located.here

    can : CanLink graph (key c) st.node (last_of p) has.0
    can = record { dir_at = here; free = no_entry graph f.is_graph st.node (last_of p) add.2; used = (shape, has.2); unlinked = has.3 }

    ns : (ns : List Name) × (graph.shape st.node ≡ Some (Dir ns))
    ns = dir add.0

    free : numbers graph (key c ++ last_of p ∷ []) ≡ None
    free = at_child graph.child 0 st.node (key c) (last_of p) here ∙ can.free

    put_kept : CallFacts (put (key c ++ last_of p ∷ []) (Some has.0) (numbers graph)) ops key
    put_kept = kept_put (numbers graph) ops key (key c ++ last_of p ∷ []) has.0 f.kept free (closed_of graph) (put_one (numbers graph) (key c ++ last_of p ∷ []) has.0 has.3 f.is_graph.one_key)

    made : Does graph ops key st (Some has.0) (change_under (key c) (edit_change d names z pp change)) (entry_effect graph st.node (last_of p) (Some has.0) (r, Add shape))
    made = record {
      linked = Some has.0;
      altered = altered_linked graph st (key c) (last_of p) has.0 ns.0 f.is_graph can ns.1;
      kept = kept_still (numbers (linked_in st.node (last_of p) has.0 graph)) ops key (change_under (key c) (edit_change d names z pp change)) (none_moves (key c) d names z pp change)
          (subst (λ (t : Map ℕ). CallFacts t ops key) (sym (numbers_linked graph f.is_graph (key c) st.node (last_of p) has.0 can)) put_kept);
      links = λ n j. (j, refl);
      reserved = λ n j. cc;
      removed = λ n j. cc;
    }
does_in graph ops key c op st o e p d names z pp change ed parent f rem dir done (r, Remove) i = reserved_either op.reserved refl
  where
    want : (ed ≡ None) × (victim_of e (entry_shape graph st.node (last_of p)) ≡ true)
    want = remove_victim e ed parent (entry_shape graph st.node (last_of p)) (ap (λ (x : Reply × Edit). x.1) i)

    v : (v : ℕ) × (graph.child st.node (last_of p) ≡ Some v) × Leaf (graph.shape v) × (st.victim ≡ Some v)
    v = removed_leaf graph st o e p ed parent (subst (λ (x : Form). VictimAt graph x st) rem f.victim) done r i

    held : st.victim ≡ Some v.0
    held = v.3

    loc : Located (numbers graph) (key c) st
    loc = (f.kept.each c op st f.is f.on).located

    can : CanUnlink graph (key c) st.node (last_of p) v.0
    can = record { dir_at = loc.here; there = v.1; leaf = leaf_children graph f.is_graph v.0 (graph.shape v.0) refl v.2 }

    at_t : numbers graph (key c ++ last_of p ∷ []) ≡ Some v.0
    at_t = at_child graph.child 0 st.node (key c) (last_of p) loc.here ∙ v.1

    ns : (ns : List Name) × (graph.shape st.node ≡ Some (Dir ns))
    ns = dir want.0

    cut : CallFacts (put (key c ++ last_of p ∷ []) None (numbers graph)) ops key
    cut = kept_cut (numbers graph) ops key (key c ++ last_of p ∷ []) f.kept
        (victim_off (numbers graph) ops key c op st (key c ++ last_of p ∷ []) v.0 f.kept f.is f.on held at_t (own_off (numbers graph) (key c) st (key c ++ last_of p ∷ []) v.0 loc f.single held at_t))

    made : (n : Option ℕ) → Does graph ops key st n (change_under (key c) (edit_change d names z pp change)) (record { reply = r; graph = unlinked_in st.node (last_of p) graph; reserved = n; removed = graph.child st.node (last_of p) })
    made n = record {
      linked = None;
      altered = altered_unlinked graph st (key c) (last_of p) v.0 ns.0 f.is_graph can ns.1;
      kept = kept_still (numbers (unlinked_in st.node (last_of p) graph)) ops key (change_under (key c) (edit_change d names z pp change)) (none_moves (key c) d names z pp change)
          (subst (λ (t : Map ℕ). CallFacts t ops key) (sym (numbers_unlinked graph f.is_graph (key c) st.node (last_of p) v.0 can)) cut);
      links = λ m j. cc;
      reserved = λ m j. j;
      removed = λ m j.
          (let q : ◌≡◌ {A = Option ℕ} (Some v.0) (Some m) = sym v.1 ∙ j in
          let y : v.0 ≡ m = cc in
          (held ∙ q, (λ l h. unlinked_gone graph f.is_graph (key c) st.node (last_of p) v.0 can l (h ∙ sym q)), (key c ++ last_of p ∷ [], at_t ∙ q)));
    }

    reserved_either : (n : Option ℕ) → op.reserved ≡ n → Does graph ops key st op.reserved (change_under (key c) (edit_change d names z pp change)) (entry_effect graph st.node (last_of p) op.reserved (r, Remove))
    reserved_either None j = subst (λ (n : Option ℕ). Does graph ops key st n (change_under (key c) (edit_change d names z pp change)) (entry_effect graph st.node (last_of p) n (r, Remove))) (sym j) (made None)
    reserved_either (Some m) j = subst (λ (n : Option ℕ). Does graph ops key st n (change_under (key c) (edit_change d names z pp change)) (entry_effect graph st.node (last_of p) n (r, Remove))) (sym j) (made (Some m))
