-- A finish leaves each reached number reached, or removes it; and a reserved number stays reserved, or is reached.
use Rattle.std.proofs.Common.{◌≡◌, ℕ, Bool, true, false, List, [], ◌∷◌, ◌++◌, Option, Some, None, refl, sym, ap, ◌∙◌, append-nil, subst, ◌⊎◌, inl, inr}
use Rattle.fs_names.specs.Keys.{Key, after_prefix, parent_of, last_of}
use Rattle.fs_names.specs.Names.{Name}
use Rattle.fs_names.specs.Parts.{common}
use Rattle.fs_calls.specs.Forms.{Form, AtNode, AtEntry, AtPair, Fits, new_shape, EntryCall, PairCall}
use Rattle.fs_calls.specs.Forms as pairs
use Rattle.fs_laws.specs.Maps.{Map, put_at, move, swapped}
use Rattle.fs_calls.specs.Rows.{node_row, Edit, Keep, Add, Remove, entry_row}
use Rattle.fs_calls.specs.declared.errno.Errno.{Errno}
use Rattle.fs_calls.specs.declared.reply.Reply.{Reply}
use Rattle.fs_calls.specs.declared.reply.Reply.TheVariants.{Failed}
use Rattle.fs_calls.specs.Graphs.{Graph, at, numbers, entry_shape, IsGraph, linked_in, unlinked_in, moved_in, swapped_in}
use Rattle.fs_machine.specs.Finishes.{Effect, no_effect, node_effect, entry_effect, move_effect, swap_effect, effect_at}
use Rattle.fs_machine.specs.Moves.{next_on, entry_move, fork_move, walk_errno, path_error, dir_error, rename_at, exchange_at}
use Rattle.fs_machine.specs.declared.moves.Move.TheVariants.{Finish as Finishes}
use Rattle.fs_machine.specs.Records.{Holdings}
use Rattle.fs_machine.specs.declared.moves.Moved.{Moved}
use Rattle.fs_laws.specs.Invariants.{Forked, HeadsSound, VictimAt, NumberFor, HasNumber}
use Rattle.fs_laws.specs.CallFacts.{Located}
use Rattle.fs_laws.proofs.trees.Prefixes.{prefix_append, prefix_some}
use Rattle.fs_laws.proofs.graphs.Walks.{at_before, at_child, at_from, then_some}
use Rattle.fs_laws.proofs.trees.Commuting.{move_to, move_else, swapped_twice}
use Rattle.fs_laws.proofs.graphs.TreesOfChanges.{CanLink, CanUnlink, CanMove, numbers_linked, numbers_unlinked, numbers_moved}
use Rattle.fs_laws.proofs.calls.Behind.{finish_on}
use Rattle.fs_laws.proofs.graphs.Swap.{CanSwap, numbers_swapped}
use Rattle.fs_laws.proofs.finish.PairRows.{pair_at, pair_effect, effect_pair, effect_stuck, effect_still}
use Rattle.fs_laws.proofs.finish.Pairs.{step_stops, Standing, Stuck, At_fork, standing}
use Rattle.fs_laws.proofs.finish.Swaps.{RealSwap, real_swap, can_swap}
use Rattle.fs_laws.proofs.finish.Replies.{Leaf, leaf_children, add_of, no_entry}
use Rattle.fs_laws.proofs.finish.Changes.{removed_leaf}
use Rattle.fs_laws.proofs.finish.Readings.{arrived}
use Rattle.fs_laws.proofs.finish.RealMoves.{can_move, Real, Replaces, real_of}
use Rattle.fs_laws.specs.Numbers.{IsReached}
use Rattle.fs_names.specs.Shapes.{Shape}

-- number is the one that the call has reserved
pub record Stays (old : Graph) (st : Holdings) (number : Option ℕ) (made : Effect) : Type 0 where
  pub reached : (n : ℕ) → IsReached old n → IsReached made.graph n ⊎ (made.removed ≡ Some n)
  pub reserved : (n : ℕ) → number ≡ Some n → (made.reserved ≡ Some n) ⊎ IsReached made.graph n
  pub victim : (n : ℕ) → made.removed ≡ Some n → st.victim ≡ Some n

stays_same : (graph : Graph) (st : Holdings) (number : Option ℕ) (r : Reply) → Stays graph st number (no_effect r graph number)
stays_same graph st number r = record { reached = λ n e. inl e; reserved = λ n e. inl e; victim = λ n e. cc }

-- a call on a node
stays_on : (graph : Graph) (st : Holdings) (number : Option ℕ) (row : Reply × Option (List ℕ)) → Stays graph st number (node_effect graph st.node number row)
stays_on graph st number (r, None) = stays_same graph st number r
stays_on graph st number (r, Some bytes) = record { reached = λ n e. inl e; reserved = λ n e. inl e; victim = λ n e. cc }

-- a link
linked_reached : (graph : Graph) → IsGraph graph → (k : Key) (dir : ℕ) (x : Name) (m : ℕ) → CanLink graph k dir x m → (n : ℕ) → IsReached graph n → IsReached (linked_in dir x m graph) n
linked_reached graph is k dir x m can n (l, e) = (l, ap (λ (t : Map ℕ). t l) (numbers_linked graph is k dir x m can) ∙ go (after_prefix (k ++ x ∷ []) l) refl)
  where
    go : (o : Option Key) → after_prefix (k ++ x ∷ []) l ≡ o → put_at (Some m) (numbers graph) l o ≡ Some n
    go None i = e
    go (Some (y ∷ r)) i = e
    go (Some []) i =
        let j : l ≡ k ++ x ∷ [] = prefix_some (k ++ x ∷ []) l [] i ∙ append-nil (k ++ x ∷ []) in
        let free : numbers graph (k ++ x ∷ []) ≡ None = at_child graph.child 0 dir k x can.dir_at ∙ can.free in
        let z : ◌≡◌ {A = Option ℕ} None (Some n) = sym free ∙ ap (numbers graph) (sym j) ∙ e in
        cc

linked_there : (graph : Graph) → IsGraph graph → (k : Key) (dir : ℕ) (x : Name) (m : ℕ) → CanLink graph k dir x m → IsReached (linked_in dir x m graph) m
linked_there graph is k dir x m can = (
  k ++ x ∷ [],
  ap (λ (t : Map ℕ). t (k ++ x ∷ [])) (numbers_linked graph is k dir x m can)
      ∙ ap (put_at (Some m) (numbers graph) (k ++ x ∷ [])) (ap (after_prefix (k ++ x ∷ [])) (sym (append-nil (k ++ x ∷ []))) ∙ prefix_append (k ++ x ∷ []) []),
)

-- a removal
unlinked_reached : (graph : Graph) → IsGraph graph → (k : Key) (dir : ℕ) (x : Name) (v : ℕ) → CanUnlink graph k dir x v → (n : ℕ) → IsReached graph n → IsReached (unlinked_in dir x graph) n ⊎ (graph.child dir x ≡ Some n)
unlinked_reached graph is k dir x v can n (l, e) = go (after_prefix (k ++ x ∷ []) l) refl
  where
    by : (o : Option Key) → after_prefix (k ++ x ∷ []) l ≡ o → put_at None (numbers graph) l o ≡ Some n → IsReached (unlinked_in dir x graph) n
    by o i f = (l, ap (λ (t : Map ℕ). t l) (numbers_unlinked graph is k dir x v can) ∙ ap (put_at None (numbers graph) l) i ∙ f)

    go : (o : Option Key) → after_prefix (k ++ x ∷ []) l ≡ o → IsReached (unlinked_in dir x graph) n ⊎ (graph.child dir x ≡ Some n)
    go None i = inl (by None i e)
    go (Some (y ∷ r)) i = inl (by (Some (y ∷ r)) i e)
    go (Some []) i =
        let j : l ≡ k ++ x ∷ [] = prefix_some (k ++ x ∷ []) l [] i ∙ append-nil (k ++ x ∷ []) in
        inr (sym (at_child graph.child 0 dir k x can.dir_at) ∙ ap (numbers graph) (sym j) ∙ e)

-- a call on an entry
stays_in : (graph : Graph) → IsGraph graph → (k : Key) (st : Holdings) (o : Moved) (e : EntryCall) (p : Key) (number : Option ℕ) (ed : Option Errno) (parent : Option Shape) → numbers graph k ≡ Some st.node → HasNumber graph e number → VictimAt graph (AtEntry e p) st
    → (ed ≡ None → entry_move graph e (last_of p) st ≡ Finishes o)
    → (row : Reply × Edit) → entry_row e ed parent (entry_shape graph st.node (last_of p)) ≡ row → Stays graph st number (entry_effect graph st.node (last_of p) number row)
stays_in graph is k st o e p number ed parent here has vic done (r, Keep) i = stays_same graph st number r
stays_in graph is k st o e p number ed parent here has vic done (r, Add shape) i = subst (λ (n : Option ℕ). Stays graph st n (entry_effect graph st.node (last_of p) n (r, Add shape))) (sym m.1)
    (record {
      reached = λ n reached. inl (linked_reached graph is k st.node (last_of p) m.0 can n reached);
      reserved = λ n f. inr (let y : m.0 ≡ n = cc in subst (IsReached (linked_in st.node (last_of p) m.0 graph)) y (linked_there graph is k st.node (last_of p) m.0 can));
      victim = λ n f. cc;
    })
  where
    add : (ed ≡ None) × (new_shape e ≡ Some shape) × (entry_shape graph st.node (last_of p) ≡ None)
    add = add_of e ed parent (entry_shape graph st.node (last_of p)) r shape i

    m : (m : ℕ) × (number ≡ Some m) × (graph.shape m ≡ Some shape) × ((key : Key) → numbers graph key ≡ Some m → ⊥)
    m = has shape add.1

    can : CanLink graph k st.node (last_of p) m.0
    can = record { dir_at = here; free = no_entry graph is st.node (last_of p) add.2; used = (shape, m.2); unlinked = m.3 }
stays_in graph is k st o e p number ed parent here has vic done (r, Remove) i = either number refl
  where
    v : (v : ℕ) × (graph.child st.node (last_of p) ≡ Some v) × Leaf (graph.shape v) × (st.victim ≡ Some v)
    v = removed_leaf graph st o e p ed parent vic done r i

    can : CanUnlink graph k st.node (last_of p) v.0
    can = record { dir_at = here; there = v.1; leaf = leaf_children graph is v.0 (graph.shape v.0) refl v.2 }

    made : (n : Option ℕ) → Stays graph st n (record { reply = r; graph = unlinked_in st.node (last_of p) graph; reserved = n; removed = graph.child st.node (last_of p) })
    made n = record {
      reached = λ m reached. unlinked_reached graph is k st.node (last_of p) v.0 can m reached;
      reserved = λ m f. inl f;
      victim = λ m f. v.3 ∙ sym v.1 ∙ f;
    }

    either : (n : Option ℕ) → number ≡ n → Stays graph st number (entry_effect graph st.node (last_of p) number (r, Remove))
    either None j = subst (λ (n : Option ℕ). Stays graph st n (entry_effect graph st.node (last_of p) n (r, Remove))) (sym j) (made None)
    either (Some m) j = subst (λ (n : Option ℕ). Stays graph st n (entry_effect graph st.node (last_of p) n (r, Remove))) (sym j) (made (Some m))

-- a move
moved_reached : (graph : Graph) → IsGraph graph → (kf : Key) (from : ℕ) (x : Name) (kt : Key) (st : Holdings) (y : Name) (m : ℕ) → CanMove graph kf from x kt st.dest.node y m → Replaces graph st y → (n : ℕ) → IsReached graph n → IsReached (moved_in from x st.dest.node y m graph) n ⊎ (st.victim ≡ Some n)
moved_reached graph is kf from x kt st y m can replaces n (l, e) = go (after_prefix (kt ++ y ∷ []) l) refl
  where
    new : (key : Key) → move (kf ++ x ∷ []) (kt ++ y ∷ []) (numbers graph) key ≡ Some n → IsReached (moved_in from x st.dest.node y m graph) n
    new key f = (key, ap (λ (t : Map ℕ). t key) (numbers_moved graph is kf from x kt st.dest.node y m can) ∙ f)

    entry : numbers graph (kt ++ y ∷ []) ≡ graph.child st.dest.node y
    entry = at_child graph.child 0 st.dest.node kt y can.to_at

    over : (r : Key) → numbers graph ((kt ++ y ∷ []) ++ r) ≡ Some n → Replaces graph st y → st.victim ≡ Some n
    over r f (inl none) =
        let b : (j : ℕ) × (numbers graph (kt ++ y ∷ []) ≡ Some j) × (at graph.child j r ≡ Some n) = at_before graph.child 0 n (kt ++ y ∷ []) r f in
        let z : ◌≡◌ {A = Option ℕ} (Some b.0) None = sym b.1 ∙ entry ∙ none in cc
    over [] f (inr (v, there, held, leaf)) = held ∙ sym (entry ∙ there) ∙ ap (numbers graph) (sym (append-nil (kt ++ y ∷ []))) ∙ f
    over (w ∷ r) f (inr (v, there, held, leaf)) =
        let b : at graph.child v (w ∷ r) ≡ Some n = sym (at_from graph.child 0 v (kt ++ y ∷ []) (w ∷ r) (entry ∙ there)) ∙ f in
        let g : (j : ℕ) × (graph.child v w ≡ Some j) × (at graph.child j r ≡ Some n) = then_some (graph.child v w) (λ j. at graph.child j r) n b in
        let z : ◌≡◌ {A = Option ℕ} (Some g.0) None = sym g.1 ∙ leaf_children graph is v (graph.shape v) refl leaf w in cc

    aside : (o : Option Key) → after_prefix (kf ++ x ∷ []) l ≡ o → after_prefix (kt ++ y ∷ []) l ≡ None → IsReached (moved_in from x st.dest.node y m graph) n
    aside None i j = new l (move_else (kf ++ x ∷ []) (kt ++ y ∷ []) (numbers graph) l j i ∙ e)
    aside (Some r) i j = new ((kt ++ y ∷ []) ++ r) (move_to (kf ++ x ∷ []) (kt ++ y ∷ []) (numbers graph) r ∙ ap (numbers graph) (sym (prefix_some (kf ++ x ∷ []) l r i)) ∙ e)

    go : (o : Option Key) → after_prefix (kt ++ y ∷ []) l ≡ o → IsReached (moved_in from x st.dest.node y m graph) n ⊎ (st.victim ≡ Some n)
    go None j = inl (aside (after_prefix (kf ++ x ∷ []) l) refl j)
    go (Some r) j = inr (over r (ap (numbers graph) (sym (prefix_some (kt ++ y ∷ []) l r j)) ∙ e) replaces)

-- a rename that really moves
stays_moved : (graph : Graph) → IsGraph graph → (k : Key) (st : Holdings) (most : ℕ) (p q : Key) (number : Option ℕ) (r : Reply) → Located (numbers graph) k st → Fits (AtPair (pairs.Rename most) p q) → Real graph p q st
    → Stays graph st number (move_effect graph st (last_of p) (last_of q) number r true (graph.child st.source.node (last_of p)))
stays_moved graph is k st most p q number r loc fits real = subst (λ (n : Option ℕ). Stays graph st number (move_effect graph st (last_of p) (last_of q) number r true n)) (sym real.moved.1)
    (record { reached = λ n reached. moved_reached graph is (k ++ st.source.walked) st.source.node (last_of p) (k ++ st.dest.walked) st (last_of q) real.moved.0 (can_move graph most k p q st loc fits real) real.replaces n reached; reserved = λ n f. inl f; victim = λ n f. f })

-- an exchange brings each number that is reached to where it then is
swapped_reached : (graph : Graph) → IsGraph graph → (kf : Key) (from : ℕ) (x : Name) (n : ℕ) (kt : Key) (to : ℕ) (y : Name) (m : ℕ) → CanSwap graph kf from x n kt to y m → (v : ℕ) → IsReached graph v → IsReached (swapped_in from x n to y m graph) v
swapped_reached graph is kf from x n kt to y m can v (l, e) = (
  swapped (kf ++ x ∷ []) (kt ++ y ∷ []) l,
  ap (λ (t : Map ℕ). t (swapped (kf ++ x ∷ []) (kt ++ y ∷ []) l)) (numbers_swapped graph is kf from x n kt to y m can) ∙ ap (numbers graph) (swapped_twice (kf ++ x ∷ []) (kt ++ y ∷ []) l can.aside.0 can.aside.1) ∙ e,
)

-- one that really moves
stays_swapped : (graph : Graph) → IsGraph graph → (k : Key) (st : Holdings) (p q : Key) (number : Option ℕ) (r : Reply) → Located (numbers graph) k st → Fits (AtPair pairs.Exchange p q) → RealSwap graph p q st
    → Stays graph st number (swap_effect graph st (last_of p) (last_of q) number r true (graph.child st.source.node (last_of p)) (graph.child st.dest.node (last_of q)))
stays_swapped graph is k st p q number r loc fits real =
    subst (λ (n : Option ℕ). Stays graph st number (swap_effect graph st (last_of p) (last_of q) number r true n (graph.child st.dest.node (last_of q)))) (sym real.one.1)
    (subst (λ (m : Option ℕ). Stays graph st number (swap_effect graph st (last_of p) (last_of q) number r true (Some real.one.0) m)) (sym real.other.1)
    (record {
      reached = λ n reached. inl (swapped_reached graph is (k ++ st.source.walked) st.source.node (last_of p) real.one.0 (k ++ st.dest.walked) st.dest.node (last_of q) real.other.0 (can_swap graph k p q st loc.head fits real) n reached);
      reserved = λ n f. inl f;
      victim = λ n f. cc;
    }))

-- a call on two entries
stays_pair : (graph : Graph) → IsGraph graph → (k : Key) (st : Holdings) (o : Moved) (c : PairCall) (p q : Key) (number : Option ℕ) → Located (numbers graph) k st → Fits (AtPair c p q) → HeadsSound graph st.node (AtPair c p q) st → VictimAt graph (AtPair c p q) st
    → next_on graph (AtPair c p q) st ≡ Finishes o → Stays graph st number (effect_at graph (AtPair c p q) st number)
stays_pair graph is k st o c p q number loc fits well vic m = subst (Stays graph st number) (sym (effect_pair graph c p q st number)) (by (standing graph is c p q st o well m))
  where
    real : (c : PairCall) → Fits (AtPair c p q) → VictimAt graph (AtPair c p q) st → Forked graph st.node p q st → fork_move graph c p q st ≡ Finishes o → (pair_at graph c p q st).1 ≡ true → Stays graph st number (pair_effect graph c p q st number [])
    real (pairs.Rename most) fits vic w fork j =
        subst (λ (b : Bool). Stays graph st number (move_effect graph st (last_of p) (last_of q) number (rename_at graph most p q st).0 b (graph.child st.source.node (last_of p)))) (sym j)
        (stays_moved graph is k st most p q number (rename_at graph most p q st).0 loc fits (real_of graph is most p q st o fits w vic fork j))
    real pairs.Exchange fits vic w fork j =
        subst (λ (b : Bool). Stays graph st number (swap_effect graph st (last_of p) (last_of q) number (exchange_at graph p q st).0 b (graph.child st.source.node (last_of p)) (graph.child st.dest.node (last_of q)))) (sym j)
        (stays_swapped graph is k st p q number (exchange_at graph p q st).0 loc fits (real_swap graph st.node p q st w j))

    at_parents : Forked graph st.node p q st → fork_move graph c p q st ≡ Finishes o → (b : Bool) → (pair_at graph c p q st).1 ≡ b → Stays graph st number (pair_effect graph c p q st number [])
    at_parents w fork false j = subst (Stays graph st number) (sym (effect_still graph c p q st number j)) (stays_same graph st number (pair_at graph c p q st).0)
    at_parents w fork true j = real c fits vic w fork j

    by : Standing graph c p q st o → Stays graph st number (pair_effect graph c p q st number (common (parent_of p) (parent_of q)))
    by (Stuck x l i stop) = subst (λ (z : Key). Stays graph st number (pair_effect graph c p q st number z)) (sym i) (subst (Stays graph st number) (sym (effect_stuck graph c p q st number x l)) (stays_same graph st number (Failed (walk_errno (graph.shape st.node)))))
    by (At_fork i at_c fork) = subst (λ (z : Key). Stays graph st number (pair_effect graph c p q st number z)) (sym i) (at_parents at_c.fork fork (pair_at graph c p q st).1 refl)

-- each form of call
pub stays : (graph : Graph) → IsGraph graph → (k : Key) (st : Holdings) (o : Moved) (number : Option ℕ) (remaining : Form) → Located (numbers graph) k st → Fits remaining → HeadsSound graph st.node remaining st → VictimAt graph remaining st → NumberFor graph remaining number
    → next_on graph remaining st ≡ Finishes o → Stays graph st number (effect_at graph remaining st number)
stays graph is k st o number (AtNode c p) loc fits well vic has m = stays_on graph st number (node_row c (path_error p (graph.shape st.node)) (graph.shape st.node))
stays graph is k st o number (AtEntry c p) loc fits well vic has m =
    stays_in graph is k st o c p number (dir_error (parent_of p) (graph.shape st.node)) (graph.shape st.node) loc.here has vic
    (λ h. (step_stops graph st.node (parent_of p) (entry_move graph c (last_of p) st) o (finish_on graph (AtEntry c p) st o m)).1 (arrived (parent_of p) (graph.shape st.node) h))
    (entry_row c (dir_error (parent_of p) (graph.shape st.node)) (graph.shape st.node) (entry_shape graph st.node (last_of p))) refl
stays graph is k st o number (AtPair c p q) loc fits well vic has m = stays_pair graph is k st o c p q number loc fits well vic m
