-- What a call that is about to finish reads and changes lies below no call that is to go on before it.
use Rattle.std.proofs.Common.{◌≡◌, ℕ, Bool, true, false, List, [], ◌∷◌, ◌++◌, Option, Some, None, refl, sym, ap, ap₂, ◌∙◌, append_assoc, append-nil, subst, ◌⊎◌, inl, inr}
use Rattle.fs_names.specs.Keys.{Key, after_prefix, parent_of, last_of}
use Rattle.fs_names.specs.Names.{Name, has_name}
use Rattle.fs_names.specs.Parts.{HasNames}
use Rattle.fs_names.specs.Shapes.{Shape, Dir, File, names_of}
use Rattle.fs_laws.specs.Changes.{resolve, resolve_dir, looked, edit_change, content_change}
use Rattle.fs_calls.specs.Forms.{NodeCall, Form, AtNode, AtEntry, under, Fits, EntryCall, Mkdir, Mknod, Unlink, Rmdir}
use Rattle.fs_calls.specs.Rows.{node_row, Edit, Keep, Add, Remove, entry_row}
use Rattle.fs_calls.specs.declared.errno.Errno.{Errno}
use Rattle.fs_calls.specs.Graphs.{Graph, at, then_at, numbers, graph_shapes, entry_shape, IsGraph}
use Rattle.fs_machine.specs.Moves.{take_if, target_move, next_on, walk_move, victim_of, entry_move}
use Rattle.fs_machine.specs.declared.moves.Move.TheVariants.{Finish as Finishes}
use Rattle.fs_machine.specs.declared.moves.Moved.{Moved}
use Rattle.fs_machine.specs.declared.moves.Moved.TheVariants.{Nothing}
use Rattle.fs_machine.specs.Records.{Holds, Holdings, Side, head_on}
use Rattle.fs_laws.specs.Invariants.{VictimAt}
use Rattle.fs_laws.specs.Placed.{ReadsNothingBelow, ChangesNothingBelow}
use Rattle.fs_laws.specs.CallFacts.{IsClear}
use Rattle.fs_laws.proofs.trees.Prefixes.{prefix_append, prefix_some}
use Rattle.fs_laws.proofs.helping.FinishPassesPlaced.{child_cases}
use Rattle.fs_laws.proofs.calls.Located.{key_is, dir_under, in_more, change_under}
use Rattle.fs_laws.proofs.graphs.Walks.{at_child, at_from, then_some}
use Rattle.fs_laws.proofs.finish.Readings.{Stops}
use Rattle.fs_laws.proofs.calls.Behind.{finish_on}
use Rattle.fs_laws.proofs.finish.Pairs.{step_stops}
use Rattle.fs_laws.proofs.events.TwoCalls.{Parted, parted}

-- where a walk has stopped, no node is there below by the names that are left
pub stops_here : (graph : Graph) → IsGraph graph → (h m : ℕ) (x : Name) (l : Key) → walk_move (graph.shape h) (graph.child h x) ≡ Finishes Nothing → at graph.child h (x ∷ l) ≡ Some m → ⊥
stops_here graph is h m x l stop there =
    let g : (q : ℕ) × (graph.child h x ≡ Some q) × (at graph.child q l ≡ Some m) = then_some (graph.child h x) (λ q. at graph.child q l) m there in
    let d : (names : List Name) × (graph.shape h ≡ Some (Dir names)) × (has_name x names ≡ true) = is.of_dir h g.0 x g.1 in
    let z : walk_move (Some (Dir d.0)) (Some g.0) ≡ Finishes Nothing = ap₂ walk_move (sym d.1) (sym g.1) ∙ stop in
    cc

-- a call that stands, and does not have our walk below it, lies off all that a stopped walk would come to
pub stopped_off : (graph : Graph) → IsGraph graph → (k kd l : Key) (h m : ℕ) → numbers graph k ≡ Some h → Stops graph h l → numbers graph kd ≡ Some m → after_prefix kd k ≡ None → after_prefix kd (k ++ l) ≡ None
stopped_off graph is k kd [] h m at_h stop at_m off = ap (after_prefix kd) (append-nil k) ∙ off
stopped_off graph is k kd (x ∷ l) h m at_h stop at_m off = go (after_prefix kd (k ++ x ∷ l)) refl
  where
    between : (r : Key) (p : Parted k kd (x ∷ l) r) (mid : Key) → p.mid ≡ mid → ⊥
    between r p [] e = absurd (subst HasNames e p.more)
    between r p (y ∷ mid) e =
        let i : x ∷ l ≡ y ∷ (mid ++ r) = p.right ∙ ap (λ (z : Key). z ++ r) e in
        let s : x ≡ y = cc in
        let j : numbers graph (k ++ y ∷ mid) ≡ Some m = ap (numbers graph) (sym (p.left ∙ ap (λ (z : Key). k ++ z) e)) ∙ at_m in
        stops_here graph is h m x mid stop (ap (λ (n : Name). at graph.child h (n ∷ mid)) s ∙ sym (at_from graph.child 0 h k (y ∷ mid) at_h) ∙ j)

    go : (o : Option Key) → after_prefix kd (k ++ x ∷ l) ≡ o → o ≡ None
    go None e = refl
    go (Some r) e = let p : Parted k kd (x ∷ l) r = parted k (x ∷ l) kd r (prefix_some kd (k ++ x ∷ l) r e) off in absurd (between r p p.mid refl)

-- a call on a node
pub on_clear : (k kd p : Key) (o : Option (List ℕ)) → after_prefix kd (k ++ p) ≡ None → ChangesNothingBelow (change_under k (content_change p o)) kd
on_clear k kd p None off = (tt, tt)
on_clear k kd p (Some bytes) off = ((off, tt), tt)

-- a call on an entry that is there and is no victim leaves it
edit_keeps : (c : EntryCall) (e : Option Errno) (parent : Option Shape) (s : Shape) → victim_of c (Some s) ≡ false → (entry_row c e parent (Some s)).1 ≡ Keep
edit_keeps c (Some e) parent s v = refl
edit_keeps (Mkdir most) None parent s v = refl
edit_keeps (Mknod most) None parent s v = refl
edit_keeps Unlink None parent (Dir names) v = refl
edit_keeps Unlink None parent (File bytes) v = cc
edit_keeps Rmdir None parent (Dir names) v = cc
edit_keeps Rmdir None parent (File bytes) v = refl

edit_clear : (k kd d : Key) (names : List Name) (x : Name) (p : Key) (e : Edit) → after_prefix kd (k ++ d) ≡ None → after_prefix kd (k ++ p) ≡ None → ChangesNothingBelow (change_under k (edit_change d names x p e)) kd
edit_clear k kd d names x p Keep off on = (tt, tt)
edit_clear k kd d names x p (Add s) off on = ((off, (on, tt)), tt)
edit_clear k kd d names x p Remove off on = ((off, (on, tt)), tt)

kept_clear : (k kd d : Key) (names : List Name) (x : Name) (p : Key) (e : Edit) → e ≡ Keep → ChangesNothingBelow (change_under k (edit_change d names x p e)) kd
kept_clear k kd d names x p e i = subst (λ (z : Edit). ChangesNothingBelow (change_under k (edit_change d names x p z)) kd) (sym i) (tt, tt)

-- a victim that is wanted and there is held where the next move is to finish
pub take_done : (b : Bool) (n : ℕ) (held : Option ℕ) (o m : Moved) → b ≡ true → take_if b (Some n) held (Finishes m) ≡ Finishes o → (v : ℕ) × (held ≡ Some v)
take_done true n None o m e f = cc
take_done true n (Some v) o m e f = (v, refl)
take_done false n held o m e f = cc

-- what is to go on before a call that finishes
pub record Front (graph : Graph) (k : Key) (st : Holdings) (kd : Key) (other : Holdings) : Type 0 where
  pub there : numbers graph kd ≡ Some other.node
  pub off : after_prefix kd k ≡ None
  pub apart : (n : ℕ) → Holds other n → Holds st n → ⊥
  pub clear : (side : Side) → IsClear (numbers graph) k (head_on side st).walked other

-- an entry's parent has its own names before the entry's
parent_cases : (p : Key) → HasNames p → (l : Key) → parent_of p ≡ l → ((y : Name) × (p ≡ y ∷ [])) ⊎ ((y : Name) × (z : Key) × (r : Key) × (p ≡ y ∷ r) × (parent_of p ≡ y ∷ z))
parent_cases [] m l e = absurd m
parent_cases (x ∷ []) m l e = inl (x, refl)
parent_cases (x ∷ y ∷ p) m l e = inr (x, parent_of (y ∷ p), y ∷ p, refl, refl)

pub in_blind : (graph : Graph) → IsGraph graph → (k : Key) (c : EntryCall) (p : Key) (st : Holdings) (o : Moved) (kd : Key) (other : Holdings) → numbers graph k ≡ Some st.node → Fits (AtEntry c p) → VictimAt graph (AtEntry c p) st → next_on graph (AtEntry c p) st ≡ Finishes o → Front graph k st kd other
    → (after_prefix kd (k ++ parent_of p) ≡ None) × (victim_of c (graph_shapes graph (k ++ p)) ≡ true → after_prefix kd (k ++ p) ≡ None)
in_blind graph is k c [] st o kd other at_k fits victim e f = absurd (in_more c [] fits)
in_blind graph is k c (x ∷ []) st o kd other at_k fits victim e f = (ap (after_prefix kd) (append-nil k) ∙ f.off, λ v. go v (child_cases kd k x f.off))
  where
    read : graph_shapes graph (k ++ x ∷ []) ≡ entry_shape graph st.node x
    read = ap (λ (n : Option ℕ). then_at n graph.shape) (at_child graph.child 0 st.node k x at_k)

    go : victim_of c (graph_shapes graph (k ++ x ∷ [])) ≡ true → (after_prefix kd (k ++ x ∷ []) ≡ None) ⊎ (kd ≡ k ++ x ∷ []) → after_prefix kd (k ++ x ∷ []) ≡ None
    go v (inl h) = h
    go v (inr h) =
        let child : graph.child st.node x ≡ Some other.node = sym (at_child graph.child 0 st.node k x at_k) ∙ ap (numbers graph) (sym h) ∙ f.there in
        let m : entry_move graph c x st ≡ Finishes o = (step_stops graph st.node [] (entry_move graph c x st) o (finish_on graph (AtEntry c (x ∷ [])) st o e)).1 refl in
        let t : take_if (victim_of c (entry_shape graph st.node x)) (Some other.node) st.victim (Finishes Nothing) ≡ Finishes o = ap (λ (n : Option ℕ). take_if (victim_of c (entry_shape graph st.node x)) n st.victim (Finishes Nothing)) (sym child) ∙ m in
        let w : (w : ℕ) × (st.victim ≡ Some w) = take_done (victim_of c (entry_shape graph st.node x)) other.node st.victim o Nothing (ap (victim_of c) (sym read) ∙ v) t in
        let z : ◌≡◌ {A = Option ℕ} (Some w.0) (Some other.node) = sym (victim w.0 w.1) ∙ child in
        let y : w.0 ≡ other.node = cc in
        absurd (f.apart other.node (inl refl) (inr (inr (inr (inr (w.1 ∙ ap Some y))))))
in_blind graph is k c (x ∷ y ∷ p) st o kd other at_k fits victim e f =
    let stop : Stops graph st.node (x ∷ parent_of (y ∷ p)) = (step_stops graph st.node (x ∷ parent_of (y ∷ p)) (target_move graph (AtEntry c (x ∷ y ∷ p)) st) o (finish_on graph (AtEntry c (x ∷ y ∷ p)) st o e)).0 in
    (stopped_off graph is k kd (x ∷ parent_of (y ∷ p)) st.node other.node at_k stop f.there f.off, λ v. stopped_off graph is k kd (x ∷ y ∷ p) st.node other.node at_k stop f.there f.off)

-- what a call reads and changes
pub record Off (graph : Graph) (k : Key) (remaining : Form) (kd : Key) : Type 0 where
  pub blind : ReadsNothingBelow (graph_shapes graph) (under k remaining) kd
  pub clear : ChangesNothingBelow (change_under k (looked (λ r. graph_shapes graph (k ++ r)) remaining).1) kd

pub in_off : (graph : Graph) → IsGraph graph → (k : Key) (c : EntryCall) (p : Key) (st : Holdings) (o : Moved) (kd : Key) (other : Holdings) (s : Shape) → numbers graph k ≡ Some st.node → Fits (AtEntry c p) → VictimAt graph (AtEntry c p) st → next_on graph (AtEntry c p) st ≡ Finishes o → Front graph k st kd other → graph.shape other.node ≡ Some s
    → Off graph k (AtEntry c p) kd
in_off graph is k c p st o kd other s at_k fits victim e f in_use = record { blind = (ap (after_prefix kd) (dir_under k p more) ∙ both.0, both.1); clear = go (child_cases kd (k ++ parent_of p) (last_of p) both.0) }
  where
    more : HasNames p
    more = in_more c p fits

    both : (after_prefix kd (k ++ parent_of p) ≡ None) × (victim_of c (graph_shapes graph (k ++ p)) ≡ true → after_prefix kd (k ++ p) ≡ None)
    both = in_blind graph is k c p st o kd other at_k fits victim e f

    key : (k ++ parent_of p) ++ last_of p ∷ [] ≡ k ++ p
    key = append_assoc k (parent_of p) (last_of p ∷ []) ∙ ap (λ (l : Key). k ++ l) (sym (key_is p more))

    row : Edit
    row = (entry_row c (resolve_dir (λ r. graph_shapes graph (k ++ r)) (parent_of p)) (graph_shapes graph (k ++ parent_of p)) (graph_shapes graph (k ++ p))).1

    itself : kd ≡ k ++ p → after_prefix kd (k ++ p) ≡ None → ⊥
    itself h z = let w : after_prefix kd kd ≡ Some [] = ap (after_prefix kd) (sym (append-nil kd)) ∙ prefix_append kd [] in let y : ◌≡◌ {A = Option Key} (Some []) None = sym w ∙ ap (after_prefix kd) h ∙ z in cc

    by : (b : Bool) → kd ≡ k ++ p → victim_of c (graph_shapes graph (k ++ p)) ≡ b → ChangesNothingBelow (change_under k (edit_change (parent_of p) (names_of (graph_shapes graph (k ++ parent_of p))) (last_of p) p row)) kd
    by true h v = absurd (itself h (both.1 v))
    by false h v =
        let there : graph_shapes graph (k ++ p) ≡ Some s = ap (graph_shapes graph) (sym h) ∙ ap (λ (n : Option ℕ). then_at n graph.shape) f.there ∙ in_use in
        kept_clear k kd (parent_of p) (names_of (graph_shapes graph (k ++ parent_of p))) (last_of p) p row
        (ap (λ (t : Option Shape). (entry_row c (resolve_dir (λ r. graph_shapes graph (k ++ r)) (parent_of p)) (graph_shapes graph (k ++ parent_of p)) t).1) there
        ∙ edit_keeps c (resolve_dir (λ r. graph_shapes graph (k ++ r)) (parent_of p)) (graph_shapes graph (k ++ parent_of p)) s (ap (victim_of c) (sym there) ∙ v))

    go : (after_prefix kd ((k ++ parent_of p) ++ last_of p ∷ []) ≡ None) ⊎ (kd ≡ (k ++ parent_of p) ++ last_of p ∷ []) → ChangesNothingBelow (change_under k (edit_change (parent_of p) (names_of (graph_shapes graph (k ++ parent_of p))) (last_of p) p row)) kd
    go (inl h) = edit_clear k kd (parent_of p) (names_of (graph_shapes graph (k ++ parent_of p))) (last_of p) p row both.0 (ap (after_prefix kd) (sym key) ∙ h)
    go (inr h) = by (victim_of c (graph_shapes graph (k ++ p))) (h ∙ key) refl

pub on_off : (graph : Graph) → IsGraph graph → (k : Key) (c : NodeCall) (p : Key) (st : Holdings) (o : Moved) (kd : Key) (other : Holdings) → numbers graph k ≡ Some st.node → next_on graph (AtNode c p) st ≡ Finishes o → Front graph k st kd other → Off graph k (AtNode c p) kd
on_off graph is k c p st o kd other at_k e f =
    let off : after_prefix kd (k ++ p) ≡ None = stopped_off graph is k kd p st.node other.node at_k (step_stops graph st.node p (Finishes Nothing) o (finish_on graph (AtNode c p) st o e)).0 f.there f.off in
    record { blind = off; clear = on_clear k kd p (node_row c (resolve (λ r. graph_shapes graph (k ++ r)) p) (graph_shapes graph (k ++ p))).1 off }
