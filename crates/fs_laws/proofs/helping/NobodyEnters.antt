-- While a rename or an exchange is about to move a node, no event brings a walking call below it.
use Rattle.std.proofs.Common.{◌≡◌, ℕ, Bool, true, false, cond, eqb, not, ◌&&◌, ◌||◌, List, [], ◌∷◌, ◌++◌, Option, Some, None, refl, sym, ap, ap₂, ◌∙◌, subst, ◌⊎◌, inl, inr}
use Rattle.fs_names.specs.Keys.{Key, after_prefix, parent_of, last_of, has_more, is_end}
use Rattle.fs_names.specs.Names.{Name, same_name}
use Rattle.fs_names.specs.Parts.{common, left}
use Rattle.fs_names.specs.Shapes.{Shape, Dir, File, is_full}
use Rattle.fs_calls.specs.Forms.{Form, AtNode, AtEntry, AtPair, by_paths, PairCall}
use Rattle.fs_calls.specs.Forms as pairs
use Rattle.fs_calls.specs.Rows.{node_row, Edit, Keep, Add, Remove, entry_row}
use Rattle.fs_calls.specs.declared.errno.Errno.{Errno}
use Rattle.fs_calls.specs.declared.reply.Reply.{Reply}
use Rattle.fs_calls.specs.Graphs.{Graph, Children, at, set_child, entry_shape, IsGraph}
use Rattle.fs_machine.specs.Finishes.{Effect, node_effect, entry_effect, move_effect, swap_effect, effect_at, effect_of, finish}
use Rattle.fs_machine.specs.Moves.{next, next_by, next_on, first_of, step_move, walk_move, take_if, target, target_move, fork_move, rename_move, rename_at, moved_node, exchange_at, moved_nodes, parents_move, dir_then, dir_error, path_error, there_by, victim_of}
use Rattle.fs_machine.specs.declared.moves.Move.{Move}
use Rattle.fs_machine.specs.declared.moves.Move.TheVariants.{Finish as Finishes}
use Rattle.fs_machine.specs.declared.moves.Moved.{Moved}
use Rattle.fs_machine.specs.declared.moves.Moved.TheVariants.{Nothing, One, Two}
use Rattle.fs_machine.specs.Records.{Phase, Walking, Placed, Finished, Record, Holdings, Source, Dest, Side, of_side, head_on}
use Rattle.fs_machine.specs.States.{IsMoved}
use Rattle.fs_laws.specs.Invariants.{Forked, HeadsSound}
use Rattle.fs_laws.proofs.graphs.Walks.{at_child}
use Rattle.fs_laws.proofs.finish.RealMoves.{at_entries, moves_two}
use Rattle.fs_laws.proofs.finish.TreeAfter.{Really, really}
use Rattle.fs_laws.proofs.calls.Behind.{finish_on}
use Rattle.fs_laws.proofs.finish.PairRows.{pair_effect, effect_pair, effect_stuck}
use Rattle.fs_laws.proofs.finish.Pairs.{Standing, Stuck, At_fork, standing}
use Rattle.fs_laws.proofs.finish.Swaps.{RealSwap, real_swap}
use Rattle.fs_laws.proofs.calls.Takes.{wants}

-- the node that a move to finish moves at the end of each path
abbrev pub moved_on : Moved → Side → Option ℕ
moved_on Nothing side = None
moved_on (One n) side = of_side side (Some n) None
moved_on (Two n m) side = of_side side (Some n) (Some m)

-- a call on two entries that is to move a node, at both parents
pub record ToMove (graph : Graph) (op : Record) (side : Side) (moved : ℕ) : Type 0 where
  pub st : Holdings
  pub pair : PairCall
  pub p : Key
  pub q : Key
  pub on : op.holdings ≡ Some st
  pub remaining : op.remaining ≡ AtPair pair p q
  pub way : common (parent_of p) (parent_of q) ≡ []
  pub child : graph.child (head_on side st).node (last_of (of_side side p q)) ≡ Some moved

-- each moved node is at the end of one of the paths
pub side_of : (all : Moved) (n : ℕ) → IsMoved all n → (side : Side) × (moved_on all side ≡ Some n)
side_of Nothing n i = absurd i
side_of (One m) n i = (Source, ap Some (sym i))
side_of (Two m k) n (inl i) = (Source, ap Some (sym i))
side_of (Two m k) n (inr i) = (Dest, ap Some (sym i))

is_moved : (all : Moved) (side : Side) (n : ℕ) → moved_on all side ≡ Some n → IsMoved all n
is_moved Nothing side n e = cc
is_moved (One m) Source n e = cc
is_moved (One m) Dest n e = cc
is_moved (Two m k) Source n e = inl (cc)
is_moved (Two m k) Dest n e = inr (cc)

-- a finish that moves nothing moves no node
nothing_moves : (t : Moved) (m : ℕ) → Finishes Nothing ≡ Finishes t → IsMoved t m → ⊥
nothing_moves Nothing m e i = i
nothing_moves (One n) m e i = cc
nothing_moves (Two n k) m e i = cc

node_on : (b : Bool) (s : Option ℕ) (side : Side) (m : ℕ) → moved_on (moved_node b s) side ≡ Some m → (side ≡ Source) × (s ≡ Some m)
node_on true (Some n) Source m e = (refl, e)
node_on true (Some n) Dest m e = cc
node_on true None side m e = cc
node_on false s side m e = cc

nodes_on : (b : Bool) (s t : Option ℕ) (side : Side) (m : ℕ) → moved_on (moved_nodes b s t) side ≡ Some m → of_side side s t ≡ Some m
nodes_on true (Some n) (Some k) side m e = e
nodes_on true (Some n) None side m e = cc
nodes_on true None t side m e = cc
nodes_on false s t side m e = cc

walk_some : (s : Option Shape) (k : Option ℕ) (t : Moved) (m : ℕ) → walk_move s k ≡ Finishes t → IsMoved t m → ⊥
walk_some None k t m e i = nothing_moves t m e i
walk_some (Some (File bytes)) k t m e i = nothing_moves t m e i
walk_some (Some (Dir names)) None t m e i = nothing_moves t m e i
walk_some (Some (Dir names)) (Some n) t m e i = cc

take_over : (b : Bool) (k v : Option ℕ) (o m : Moved) → take_if b k v (Finishes o) ≡ Finishes m → Finishes o ≡ Finishes m
take_over true None v o m e = e
take_over true (Some n) None o m e = cc
take_over true (Some n) (Some v) o m e = e
take_over false k v o m e = e

first_some : (graph : Graph) (n : ℕ) (l : Key) (rest : Move) (t : Moved) (m : ℕ) → first_of (step_move graph n l) rest ≡ Finishes t → IsMoved t m → (l ≡ []) × (rest ≡ Finishes t)
first_some graph n [] rest t m e i = (refl, e)
first_some graph n (x ∷ l) rest t m e i = absurd (walk_some (graph.shape n) (graph.child n x) t m e i)

dir_some : (s : Option Shape) (rest : Move) (t : Moved) (m : ℕ) → dir_then s rest ≡ Finishes t → IsMoved t m → rest ≡ Finishes t
dir_some None rest t m e i = absurd (nothing_moves t m e i)
dir_some (Some (File bytes)) rest t m e i = absurd (nothing_moves t m e i)
dir_some (Some (Dir names)) rest t m e i = e

-- at both parents
parents_child : (graph : Graph) (pair : PairCall) (p q : Key) (st : Holdings) (all : Moved) (side : Side) (m : ℕ) → parents_move graph pair p q st ≡ Finishes all → moved_on all side ≡ Some m → graph.child (head_on side st).node (last_of (of_side side p q)) ≡ Some m
parents_child graph (pairs.Rename most) p q st all side m e i =
    let f : Finishes (moved_node (rename_at graph most p q st).1 (graph.child st.source.node (last_of p))) ≡ Finishes all = take_over (wants graph p q st) (graph.child st.dest.node (last_of q)) st.victim (moved_node (rename_at graph most p q st).1 (graph.child st.source.node (last_of p))) all e in
    let g : moved_node (rename_at graph most p q st).1 (graph.child st.source.node (last_of p)) ≡ all = cc in
    let h : (side ≡ Source) × (graph.child st.source.node (last_of p) ≡ Some m) = node_on (rename_at graph most p q st).1 (graph.child st.source.node (last_of p)) side m (ap (λ (t : Moved). moved_on t side) g ∙ i) in
    subst (λ (x : Side). graph.child (head_on x st).node (last_of (of_side x p q)) ≡ Some m) (sym h.0) h.1
parents_child graph pairs.Exchange p q st all side m e i = go side (nodes_on (exchange_at graph p q st).1 (graph.child st.source.node (last_of p)) (graph.child st.dest.node (last_of q)) side m (ap (λ (t : Moved). moved_on t side) g ∙ i))
  where
    g : moved_nodes (exchange_at graph p q st).1 (graph.child st.source.node (last_of p)) (graph.child st.dest.node (last_of q)) ≡ all
    g = cc

    go : (side : Side) → of_side side (graph.child st.source.node (last_of p)) (graph.child st.dest.node (last_of q)) ≡ Some m → graph.child (head_on side st).node (last_of (of_side side p q)) ≡ Some m
    go Source h = h
    go Dest h = h

pub to_move : (graph : Graph) (op : Record) (all : Moved) (side : Side) (moved : ℕ) → next graph op ≡ Finishes all → moved_on all side ≡ Some moved → ToMove graph op side moved
to_move graph op all side moved e on_side = go op.phase (by_paths op.call) op.holdings refl e
  where
    one : IsMoved all moved
    one = is_moved all side moved on_side

    at_fork : (st : Holdings) (pair : PairCall) (p q : Key) → op.holdings ≡ Some st → op.remaining ≡ AtPair pair p q → common (parent_of p) (parent_of q) ≡ [] → fork_move graph pair p q st ≡ Finishes all → ToMove graph op side moved
    at_fork st pair p q on rem way f =
        let at_dest : Move = dir_then (graph.shape st.dest.node) (parents_move graph pair p q st) in
        let rest : Move = dir_then (graph.shape st.source.node) (first_of (step_move graph st.dest.node (left st.dest.walked (parent_of q))) at_dest) in
        let a : (left st.source.walked (parent_of p) ≡ []) × (rest ≡ Finishes all) = first_some graph st.source.node (left st.source.walked (parent_of p)) rest all moved (dir_some (graph.shape st.node) (first_of (step_move graph st.source.node (left st.source.walked (parent_of p))) rest) all moved f one) one in
        let b : (left st.dest.walked (parent_of q) ≡ []) × (at_dest ≡ Finishes all) = first_some graph st.dest.node (left st.dest.walked (parent_of q)) at_dest all moved (dir_some (graph.shape st.source.node) (first_of (step_move graph st.dest.node (left st.dest.walked (parent_of q))) at_dest) all moved a.1 one) one in
        record { st = st; pair = pair; p = p; q = q; on = on; remaining = rem; way = way; child = parents_child graph pair p q st all side moved (dir_some (graph.shape st.dest.node) (parents_move graph pair p q st) all moved b.1 one) on_side }

    none_is : Finishes Nothing ≡ Finishes all → ⊥
    none_is f = nothing_moves all moved f one

    there : (st : Holdings) (rem : Form) → op.holdings ≡ Some st → op.remaining ≡ rem → target rem ≡ [] → target_move graph rem st ≡ Finishes all → ToMove graph op side moved
    there st (AtNode c p) on i w f = absurd (none_is f)
    there st (AtEntry c p) on i w f = absurd (none_is (take_over (victim_of c (entry_shape graph st.node (last_of p))) (graph.child st.node (last_of p)) st.victim Nothing all f))
    there st (AtPair pair p q) on i w f = at_fork st pair p q on i w f

    stands : (st : Holdings) → op.holdings ≡ Some st → next_on graph op.remaining st ≡ Finishes all → ToMove graph op side moved
    stands st on f =
        let a : (target op.remaining ≡ []) × (target_move graph op.remaining st ≡ Finishes all) = first_some graph st.node (target op.remaining) (target_move graph op.remaining st) all moved (finish_on graph op.remaining st all f) one in
        there st op.remaining on refl a.0 a.1

    go : (p : Phase) (t : Option Errno) (s : Option Holdings) → op.holdings ≡ s → next_by graph op t p s ≡ Finishes all → ToMove graph op side moved
    go (Finished r) t None i f = cc
    go (Finished r) t (Some st) i f = cc
    go Walking (Some x) s i f = absurd (none_is f)
    go (Placed k) (Some x) s i f = absurd (none_is f)
    go Walking None None i f = cc
    go (Placed k) None None i f = cc
    go Walking None (Some st) i f = stands st i f
    go (Placed k) None (Some st) i f = stands st i f

-- an entry that was set: the new one, or an old one
set_or : (dir : ℕ) (x : Name) (v : Option ℕ) (child : Children) (a : ℕ) (y : Name) (b : ℕ) → set_child dir x v child a y ≡ Some b → (v ≡ Some b) ⊎ (child a y ≡ Some b)
set_or dir x v child a y b e = go (eqb a dir && same_name y x) e
  where
    go : (t : Bool) → cond t v (child a y) ≡ Some b → (v ≡ Some b) ⊎ (child a y ≡ Some b)
    go true f = inl f
    go false f = inr f

-- an entry after a finish: an old one, or that of the reserved number, or of a moved node
pub data NewEntry (graph : Graph) (op : Record) (o : Moved) (a b : ℕ) (x : Name) : Type 0 where
  Same_entry : graph.child a x ≡ Some b → NewEntry graph op o a b x
  Linked : op.reserved ≡ Some b → NewEntry graph op o a b x
  Moved_entry : (st : Holdings) (w : Key) → op.holdings ≡ Some st → at graph.child st.node w ≡ Some b → IsMoved o b → NewEntry graph op o a b x

some_is : (m b : ℕ) → ◌≡◌ {A = Option ℕ} (Some m) (Some b) → m ≡ b
some_is m b e = cc

on_entries : (graph : Graph) (n : ℕ) (r : Option ℕ) (row : Reply × Option (List ℕ)) → (node_effect graph n r row).graph.child ≡ graph.child
on_entries graph n r (t, None) = refl
on_entries graph n r (t, Some bytes) = refl

in_entries : (graph : Graph) (op : Record) (o : Moved) (n : ℕ) (y : Name) (row : Reply × Edit) (r : Option ℕ) → op.reserved ≡ r → (a b : ℕ) (x : Name) → (entry_effect graph n y r row).graph.child a x ≡ Some b → NewEntry graph op o a b x
in_entries graph op o n y (t, Keep) r i a b x e = Same_entry e
in_entries graph op o n y (t, Add shape) None i a b x e = Same_entry e
in_entries graph op o n y (t, Add shape) (Some m) i a b x e = go (set_or n y (Some m) graph.child a x b e)
  where
    go : (Some m ≡ Some b) ⊎ (graph.child a x ≡ Some b) → NewEntry graph op o a b x
    go (inl f) = Linked (i ∙ f)
    go (inr f) = Same_entry f
in_entries graph op o n y (t, Remove) None i a b x e = go (set_or n y None graph.child a x b e)
  where
    go : (None ≡ Some b) ⊎ (graph.child a x ≡ Some b) → NewEntry graph op o a b x
    go (inl f) = cc
    go (inr f) = Same_entry f
in_entries graph op o n y (t, Remove) (Some m) i a b x e = go (set_or n y None graph.child a x b e)
  where
    go : (None ≡ Some b) ⊎ (graph.child a x ≡ Some b) → NewEntry graph op o a b x
    go (inl f) = cc
    go (inr f) = Same_entry f

-- a rename at both parents
rename_entries : (graph : Graph) → IsGraph graph → (op : Record) (o : Moved) (most : ℕ) (p q : Key) (st : Holdings) → op.holdings ≡ Some st → Forked graph st.node p q st → fork_move graph (pairs.Rename most) p q st ≡ Finishes o → (t : Bool) → (rename_at graph most p q st).1 ≡ t → (s : Option ℕ) → graph.child st.source.node (last_of p) ≡ s
    → (r : Reply) (a b : ℕ) (x : Name) → (move_effect graph st (last_of p) (last_of q) op.reserved r t s).graph.child a x ≡ Some b → NewEntry graph op o a b x
rename_entries graph is op o most p q st on f fork false i s j r a b x e = Same_entry e
rename_entries graph is op o most p q st on f fork true i None j r a b x e = Same_entry e
rename_entries graph is op o most p q st on f fork true i (Some m) j r a b x e = go (set_or st.dest.node (last_of q) (Some m) (set_child st.source.node (last_of p) None graph.child) a x b e)
  where
    real : Really (dir_error (left st.source.walked (parent_of p)) (graph.shape st.source.node)) (dir_error (left st.dest.walked (parent_of q)) (graph.shape st.dest.node)) (entry_shape graph st.source.node (last_of p)) (is_end (after_prefix p q)) (there_by (has_more (after_prefix q p)) (entry_shape graph st.dest.node (last_of q))) (is_end (after_prefix (parent_of p) (parent_of q)) || not (is_full most (graph.shape st.dest.node)))
    real = really (dir_error (left st.source.walked (parent_of p)) (graph.shape st.source.node)) (dir_error (left st.dest.walked (parent_of q)) (graph.shape st.dest.node)) (entry_shape graph st.source.node (last_of p)) (is_end (after_prefix p q)) (there_by (has_more (after_prefix q p)) (entry_shape graph st.dest.node (last_of q))) (is_end (after_prefix (parent_of p) (parent_of q)) || not (is_full most (graph.shape st.dest.node))) i

    o_is : One m ≡ o
    o_is =
        let mv : rename_move graph most p q st ≡ Finishes o = at_entries graph is (pairs.Rename most) p q st o f real.source real.dest fork in
        let z : Finishes (moved_node (rename_at graph most p q st).1 (graph.child st.source.node (last_of p))) ≡ Finishes o = take_over (wants graph p q st) (graph.child st.dest.node (last_of q)) st.victim (moved_node (rename_at graph most p q st).1 (graph.child st.source.node (last_of p))) o mv in
        let y : Finishes (One m) ≡ Finishes o = sym (ap₂ (λ (c : Bool) (k : Option ℕ). Finishes (moved_node c k)) i j) ∙ z in
        let w : One m ≡ o = cc in w

    rest : (None ≡ Some b) ⊎ (graph.child a x ≡ Some b) → NewEntry graph op o a b x
    rest (inl g) = cc
    rest (inr g) = Same_entry g

    go : (Some m ≡ Some b) ⊎ (set_child st.source.node (last_of p) None graph.child a x ≡ Some b) → NewEntry graph op o a b x
    go (inl g) = let y : m ≡ b = some_is m b g in
        Moved_entry st (st.source.walked ++ last_of p ∷ []) on (at_child graph.child st.node st.source.node st.source.walked (last_of p) (f.stands Source) ∙ j ∙ g) (subst (λ (t : Moved). IsMoved t b) o_is (sym y))
    go (inr g) = rest (set_or st.source.node (last_of p) None graph.child a x b g)

-- an exchange at both parents
exchange_entries : (graph : Graph) → IsGraph graph → (op : Record) (o : Moved) (p q : Key) (st : Holdings) → op.holdings ≡ Some st → Forked graph st.node p q st → fork_move graph pairs.Exchange p q st ≡ Finishes o → (t : Bool) → (exchange_at graph p q st).1 ≡ t
    → (a b : ℕ) (x : Name) → (swap_effect graph st (last_of p) (last_of q) op.reserved (exchange_at graph p q st).0 t (graph.child st.source.node (last_of p)) (graph.child st.dest.node (last_of q))).graph.child a x ≡ Some b → NewEntry graph op o a b x
exchange_entries graph is op o p q st on f fork false i a b x e = Same_entry e
exchange_entries graph is op o p q st on f fork true i a b x e = go (set_or st.source.node (last_of p) (Some real.other.0) (set_child st.dest.node (last_of q) (Some real.one.0) graph.child) a x b (sym (ap₂ child_after real.one.1 real.other.1) ∙ e))
  where
    real : RealSwap graph p q st
    real = real_swap graph st.node p q st f i

    child_after : Option ℕ → Option ℕ → Option ℕ
    child_after s t = (swap_effect graph st (last_of p) (last_of q) op.reserved (exchange_at graph p q st).0 true s t).graph.child a x

    two : Two real.one.0 real.other.0 ≡ o
    two = moves_two graph is p q st o f real i fork

    at_entry : (side : Side) (m : ℕ) → graph.child (head_on side st).node (last_of (of_side side p q)) ≡ Some m → Some m ≡ Some b → IsMoved (Two real.one.0 real.other.0) m → NewEntry graph op o a b x
    at_entry side m child g one =
        Moved_entry st ((head_on side st).walked ++ last_of (of_side side p q) ∷ []) on (at_child graph.child st.node (head_on side st).node (head_on side st).walked (last_of (of_side side p q)) (f.stands side) ∙ child ∙ g)
        (subst (λ (t : Moved). IsMoved t b) two (subst (IsMoved (Two real.one.0 real.other.0)) (some_is m b g) one))

    rest : (Some real.one.0 ≡ Some b) ⊎ (graph.child a x ≡ Some b) → NewEntry graph op o a b x
    rest (inl g) = at_entry Source real.one.0 real.one.1 g (inl refl)
    rest (inr g) = Same_entry g

    go : (Some real.other.0 ≡ Some b) ⊎ (set_child st.dest.node (last_of q) (Some real.one.0) graph.child a x ≡ Some b) → NewEntry graph op o a b x
    go (inl g) = at_entry Dest real.other.0 real.other.1 g (inr refl)
    go (inr g) = rest (set_or st.dest.node (last_of q) (Some real.one.0) graph.child a x b g)

pair_entries : (graph : Graph) → IsGraph graph → (op : Record) (o : Moved) (pair : PairCall) (p q : Key) (st : Holdings) → op.holdings ≡ Some st → Forked graph st.node p q st → fork_move graph pair p q st ≡ Finishes o
    → (a b : ℕ) (x : Name) → (pair_effect graph pair p q st op.reserved []).graph.child a x ≡ Some b → NewEntry graph op o a b x
pair_entries graph is op o (pairs.Rename most) p q st on f fork a b x e = rename_entries graph is op o most p q st on f fork (rename_at graph most p q st).1 refl (graph.child st.source.node (last_of p)) refl (rename_at graph most p q st).0 a b x e
pair_entries graph is op o pairs.Exchange p q st on f fork a b x e = exchange_entries graph is op o p q st on f fork (exchange_at graph p q st).1 refl a b x e

pub finish_entries : (graph : Graph) → IsGraph graph → (op : Record) (o : Moved) → ((st : Holdings) → op.holdings ≡ Some st → HeadsSound graph st.node op.remaining st) → next graph op ≡ Finishes o → (a b : ℕ) (x : Name) → (finish graph op).graph.child a x ≡ Some b → NewEntry graph op o a b x
finish_entries graph is op o well m a b x e = go op.phase (by_paths op.call) op.holdings refl m e
  where
    there : (st : Holdings) (rem : Form) → op.holdings ≡ Some st → HeadsSound graph st.node rem st → next_on graph rem st ≡ Finishes o → (effect_at graph rem st op.reserved).graph.child a x ≡ Some b → NewEntry graph op o a b x
    there st (AtNode c p) on w n f = Same_entry (sym (ap (λ (k : Children). k a x) (on_entries graph st.node op.reserved (node_row c (path_error p (graph.shape st.node)) (graph.shape st.node)))) ∙ f)
    there st (AtEntry c p) on w n f = in_entries graph op o st.node (last_of p) (entry_row c (dir_error (parent_of p) (graph.shape st.node)) (graph.shape st.node) (entry_shape graph st.node (last_of p))) op.reserved refl a b x f
    there st (AtPair pair p q) on w n f = by (standing graph is pair p q st o w n)
      where
        made : (pair_effect graph pair p q st op.reserved (common (parent_of p) (parent_of q))).graph.child a x ≡ Some b
        made = sym (ap (λ (z : Effect). z.graph.child a x) (effect_pair graph pair p q st op.reserved)) ∙ f

        by : Standing graph pair p q st o → NewEntry graph op o a b x
        by (Stuck y l i stop) = Same_entry (sym (ap (λ (k : Key). (pair_effect graph pair p q st op.reserved k).graph.child a x) i ∙ ap (λ (z : Effect). z.graph.child a x) (effect_stuck graph pair p q st op.reserved y l)) ∙ made)
        by (At_fork i at_c fork) = pair_entries graph is op o pair p q st on at_c.fork fork a b x (sym (ap (λ (k : Key). (pair_effect graph pair p q st op.reserved k).graph.child a x) i) ∙ made)

    go : (p : Phase) (t : Option Errno) (s : Option Holdings) → op.holdings ≡ s → next_by graph op t p s ≡ Finishes o → (effect_of graph op t s).graph.child a x ≡ Some b → NewEntry graph op o a b x
    go (Finished r) t None i n f = cc
    go (Finished r) t (Some st) i n f = cc
    go Walking (Some k) s i n f = Same_entry f
    go (Placed j) (Some k) s i n f = Same_entry f
    go Walking None None i n f = Same_entry f
    go (Placed j) None None i n f = Same_entry f
    go Walking None (Some st) i n f = there st op.remaining i (well st i) n f
    go (Placed j) None (Some st) i n f = there st op.remaining i (well st i) n f
