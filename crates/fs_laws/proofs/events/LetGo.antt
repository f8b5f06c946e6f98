-- A let go keeps what every state keeps.
use Rattle.std.proofs.Common.{◌≡◌, ℕ, Bool, true, false, [], ◌∷◌, ◌++◌, Option, Some, None, refl, sym, ap, ap₂, ◌∙◌, subst, ◌⊎◌, inl, inr}
use mathlib.Core.Path.{fun_ext}
use Rattle.fs_names.specs.Keys.{Key, parent_of, last_of}
use Rattle.fs_names.specs.Parts.{common, left}
use Rattle.fs_names.specs.Names.{Name}
use Rattle.fs_names.specs.Shapes.{Shape, Dir, File}
use Rattle.fs_names.specs.declared.limits.Limits.{Limits}
use Rattle.fs_calls.specs.Forms.{Form, AtNode, AtEntry, AtPair, by_paths}
use Rattle.fs_laws.specs.Maps.{Map}
use Rattle.fs_calls.specs.declared.errno.Errno.{Errno}
use Rattle.fs_calls.specs.declared.reply.Reply.{Reply}
use Rattle.fs_calls.specs.Graphs.{Graph, at, numbers, graph_shapes, entry_shape, set_at, IsGraph, released_in}
use Rattle.fs_machine.specs.Leaving.{is_removed, releasing, cleared}
use Rattle.fs_machine.specs.Moves.{next, next_by, next_on, first_of, step_move, walk_move, take_if, target, target_move, victim_of, parents_move, dir_then, last_held, first_walked, left_heads, left_last, left_holdings}
use Rattle.fs_machine.specs.declared.moves.Move.{Move}
use Rattle.fs_machine.specs.declared.moves.Move.TheVariants.{LetGo as Leaves, Finish as Finishes}
use Rattle.fs_machine.specs.declared.moves.Moved.{Moved}
use Rattle.fs_machine.specs.declared.moves.Moved.TheVariants.{Nothing}
use Rattle.fs_machine.specs.Records.{Head, Phase, Walking, Placed, Finished, Holds, Record, Holdings, Side, Source, Dest, of_side, head_on, with_head, head_at}
use Rattle.fs_laws.specs.Invariants.{ForkedAt, HeadsSound, VictimAt, HasSpare, IsSingle, IsUnfinished, Own, Invariant, StepKeeps, Slot, At_node, At_behind, At_head, At_victim, if_walked, in_slot, limits_of}
use Rattle.fs_laws.specs.CallFacts.{CallFacts, Shrinks}
use Rattle.fs_machine.specs.States.{State, letting_go}
use Rattle.fs_machine.specs.declared.answers.Stepped.TheVariants.{LetGo}
use Rattle.fs_laws.proofs.calls.Behind.{leave_past, AtParents, at_parents}
use Rattle.fs_laws.proofs.graphs.Walks.{eqb_refl}
use Rattle.fs_laws.proofs.events.OneCallChanged.{kept_shrink}
use Rattle.fs_laws.proofs.events.OtherChanges.{kept_none}
use Rattle.fs_laws.proofs.events.Help.{upd_else}
use Rattle.fs_laws.proofs.events.JustFinished.{Either, Changed, Old}
use Rattle.fs_laws.proofs.events.RecordChanged.{renewed, renews_keep}
use Rattle.fs_laws.proofs.calls.NodesHeld.{heads_with, new_head, slot_holds, holds_slot, one_holdings, none_some}
use Rattle.fs_laws.proofs.graphs.Release.{own_children, numbers_children, release_else, shapes_released, graph_released}

-- holdings that let the node n go from a slot: all others stay
pub record Lets (st new : Holdings) (n : ℕ) : Type 0 where
  pub gone : Slot
  pub was : in_slot st gone ≡ Some n
  pub empty : in_slot new gone ≡ None
  pub same : (a : Slot) → (a ≡ gone) ⊎ (in_slot new a ≡ in_slot st a)
  pub node : new.node ≡ st.node
  pub head : (side : Side) → (head_on side new ≡ head_on side st) ⊎ (head_on side new ≡ head_at st.node)

-- what a slot still has it had before, and it is not the one let go
still : (st new : Holdings) (n : ℕ) (l : Lets st new n) (a : Slot) (q : ℕ) → in_slot new a ≡ Some q → (in_slot st a ≡ Some q) × (a ≡ l.gone → ⊥)
still st new n l a q e = (by (l.same a), other)
  where
    other : a ≡ l.gone → ⊥
    other i = let z : ◌≡◌ {A = Option ℕ} None (Some q) = sym l.empty ∙ ap (in_slot new) (sym i) ∙ e in cc

    by : (a ≡ l.gone) ⊎ (in_slot new a ≡ in_slot st a) → in_slot st a ≡ Some q
    by (inl i) = absurd (other i)
    by (inr i) = sym i ∙ e

shrinks_of : (st new : Holdings) (n : ℕ) → Lets st new n → Shrinks st new
shrinks_of st new n l = record {
  node = l.node;
  holds = λ q h. (let a : (a : Slot) × (in_slot new a ≡ Some q) = holds_slot new q h in slot_holds st a.0 q (still st new n l a.0 q a.1).0);
  head = l.head;
}

pub single_of : (st new : Holdings) (n : ℕ) → Lets st new n → IsSingle st → IsSingle new
single_of st new n l s a b q e f = s a b q (still st new n l a q e).0 (still st new n l b q f).0

-- what it still holds is another node
other_of : (st new : Holdings) (n q : ℕ) → Lets st new n → IsSingle st → Holds new q → q ≡ n → ⊥
other_of st new n q l s h e =
    let a : (a : Slot) × (in_slot new a ≡ Some q) = holds_slot new q h in
    let w : (in_slot st a.0 ≡ Some q) × (a.0 ≡ l.gone → ⊥) = still st new n l a.0 q a.1 in
    w.1 (s a.0 l.gone n (w.0 ∙ ap (λ (x : ℕ). Some x) e) l.was)

-- each other node that it held
pub still_holds : (st new : Holdings) (n m : ℕ) → Lets st new n → (m ≡ n → ⊥) → Holds st m → Holds new m
still_holds st new n m l d h = go (holds_slot st m h)
  where
    go : (a : Slot) × (in_slot st a ≡ Some m) → Holds new m
    go (a, e) = by (l.same a)
      where
        by : (a ≡ l.gone) ⊎ (in_slot new a ≡ in_slot st a) → Holds new m
        by (inl i) = let z : ◌≡◌ {A = Option ℕ} (Some m) (Some n) = sym e ∙ ap (in_slot st) i ∙ l.was in absurd (d cc)
        by (inr i) = slot_holds new a m (i ∙ e)

-- what is behind
pub lets_behind : (st : Holdings) (n : ℕ) → st.behind ≡ Some n → Lets st (record st { behind = None }) n
lets_behind st n e = record { gone = At_behind; was = e; empty = refl; same = same; node = refl; head = λ side. inl refl }
  where
    same : (a : Slot) → (a ≡ At_behind) ⊎ (in_slot (record st { behind = None }) a ≡ in_slot st a)
    same At_behind = inl refl
    same At_node = inr refl
    same (At_head side) = inr refl
    same At_victim = inr refl

-- the last taken of a finished call
lets_victim : (st : Holdings) (n : ℕ) → st.victim ≡ Some n → Lets st (record st { victim = None }) n
lets_victim st n e = record { gone = At_victim; was = e; empty = refl; same = same; node = refl; head = λ side. inl refl }
  where
    same : (a : Slot) → (a ≡ At_victim) ⊎ (in_slot (record st { victim = None }) a ≡ in_slot st a)
    same At_victim = inl refl
    same At_node = inr refl
    same At_behind = inr refl
    same (At_head side) = inr refl

lets_head : (side : Side) (st : Holdings) (n : ℕ) (x : Name) (w : Key) → (head_on side st).walked ≡ x ∷ w → (head_on side st).node ≡ n → Lets st (with_head side (head_at st.node) st) n
lets_head side st n x w walked e = record {
  gone = At_head side;
  was = ap (λ (l : Key). if_walked l (Some (head_on side st).node)) walked ∙ ap (λ (m : ℕ). Some m) e;
  empty = ap (λ (h : Head). if_walked h.walked (Some h.node)) (new_head side (head_at st.node) st);
  same = same;
  node = refl;
  head = head (λ (at : Side) (h : Head). (h ≡ head_on at st) ⊎ (h ≡ head_at st.node)) (inr refl) (λ at. inl refl);
}
  where
    head : (P : Side → Head → Type 0) → P side (head_at st.node) → ((at : Side) → P at (head_on at st)) → (at : Side) → P at (head_on at (with_head side (head_at st.node) st))
    head P = heads_with P side (head_at st.node) st

    same : (a : Slot) → (a ≡ At_head side) ⊎ (in_slot (with_head side (head_at st.node) st) a ≡ in_slot st a)
    same At_node = inr refl
    same At_behind = inr refl
    same At_victim = inr refl
    same (At_head at) = head (λ (b : Side) (h : Head). (At_head b ≡ At_head side) ⊎ (if_walked h.walked (Some h.node) ≡ in_slot st (At_head b))) (inl refl) (λ b. inr refl) at

-- a finished call lets the last taken go, and what is behind stays; or it held its position alone
pub data LetsLast (st : Holdings) (n : ℕ) (left : Option Holdings) : Type 0 where
  One : (new : Holdings) → left ≡ Some new → Lets st new n → new.behind ≡ st.behind → ((v : ℕ) → st.victim ≡ Some v → v ≡ n) → LetsLast st n left
  All : left ≡ None → st.node ≡ n → st.source.walked ≡ [] → st.dest.walked ≡ [] → st.victim ≡ None → LetsLast st n left

pub lets_last : (st : Holdings) (n : ℕ) → last_held st st.victim ≡ n → LetsLast st n (left_last st st.victim)
lets_last st n e = victim st.victim refl e
  where
    head : (side : Side) (x : Name) (w : Key) → st.victim ≡ None → (head_on side st).walked ≡ x ∷ w → (head_on side st).node ≡ n → left_last st st.victim ≡ Some (with_head side (head_at st.node) st) → LetsLast st n (left_last st st.victim)
    head side x w i k f is = One (with_head side (head_at st.node) st) is (lets_head side st n x w k f) refl (λ v. none_some st.victim v i)

    source : (w : Key) → st.victim ≡ None → st.dest.walked ≡ [] → st.source.walked ≡ w → first_walked w st.source.node st.node ≡ n → LetsLast st n (left_last st st.victim)
    source (x ∷ w) i j k f = head Source x w i k f (ap (left_last st) i ∙ ap₂ (left_heads st) j k)
    source [] i j k f = All (ap (left_last st) i ∙ ap₂ (left_heads st) j k) f k j i

    dest : (w : Key) → st.victim ≡ None → st.dest.walked ≡ w → first_walked w st.dest.node (first_walked st.source.walked st.source.node st.node) ≡ n → LetsLast st n (left_last st st.victim)
    dest (x ∷ w) i j f = head Dest x w i j f (ap (left_last st) i ∙ ap (λ (l : Key). left_heads st l st.source.walked) j)
    dest [] i j f = source st.source.walked i j refl f

    victim : (o : Option ℕ) → st.victim ≡ o → last_held st o ≡ n → LetsLast st n (left_last st st.victim)
    victim (Some v) i f = One (record st { victim = None }) (ap (left_last st) i) (lets_victim st n (i ∙ ap (λ (m : ℕ). Some m) f)) refl (λ w h. (let z : ◌≡◌ {A = Option ℕ} (Some v) (Some w) = sym i ∙ h in (let y : v ≡ w = cc in sym y ∙ f)))
    victim None i f = dest st.dest.walked i refl f

-- how a call lets go
pub data LetsGo (op : Record) (n : ℕ) : Type 0 where
  On_way : (st new : Holdings) → IsUnfinished op → op.holdings ≡ Some st → left_holdings op.phase op.holdings ≡ Some new → Lets st new n → (new.victim ≡ st.victim) × (new.dest.node ≡ st.dest.node) × (new.dest.walked ≡ st.dest.walked) → LetsGo op n
  At_end : (st new : Holdings) (r : Reply) → op.phase ≡ Finished r → op.holdings ≡ Some st → left_holdings op.phase op.holdings ≡ Some new → Lets st new n → ((v : ℕ) → st.victim ≡ Some v → v ≡ n) → LetsGo op n
  Last : (st : Holdings) (r : Reply) → op.phase ≡ Finished r → op.holdings ≡ Some st → left_holdings op.phase op.holdings ≡ None → st.node ≡ n → ((v : ℕ) → st.victim ≡ Some v → v ≡ n) → LetsGo op n

never_walk : (s : Option Shape) (child : Option ℕ) (n : ℕ) → walk_move s child ≡ Leaves n → ⊥
never_walk None child n e = cc
never_walk (Some (File bytes)) child n e = cc
never_walk (Some (Dir names)) None n e = cc
never_walk (Some (Dir names)) (Some m) n e = cc

never_take : (b : Bool) (child held : Option ℕ) (m : Moved) (n : ℕ) → take_if b child held (Finishes m) ≡ Leaves n → ⊥
never_take false child held m n e = cc
never_take true None held m n e = cc
never_take true (Some k) (Some v) m n e = cc
never_take true (Some k) None m n e = cc

dir_leaves : (t : Option Shape) (m : Move) (n : ℕ) → dir_then t m ≡ Leaves n → m ≡ Leaves n
dir_leaves None m n e = cc
dir_leaves (Some (Dir names)) m n e = e
dir_leaves (Some (File bytes)) m n e = cc

step_leaves : (graph : Graph) (h : ℕ) (l : Key) (m : Move) (n : ℕ) → first_of (step_move graph h l) m ≡ Leaves n → m ≡ Leaves n
step_leaves graph h [] m n e = e
step_leaves graph h (x ∷ l) m n e = absurd (never_walk (graph.shape h) (graph.child h x) n e)

-- a call on its way lets nothing else go than what is behind
pub held_on_move : (graph : Graph) (rem : Form) (st : Holdings) (n : ℕ) → next_on graph rem st ≡ Leaves n → st.behind ≡ Some n
held_on_move graph rem st n m = go (leave_past st.behind (first_of (step_move graph st.node (target rem)) (target_move graph rem st)) n m)
  where
    there : (rem : Form) → target_move graph rem st ≡ Leaves n → ⊥
    there (AtNode c p) e = none e
      where
        none : Finishes Nothing ≡ Leaves n → ⊥
        none e = cc
    there (AtEntry c p) e = never_take (victim_of c (entry_shape graph st.node (last_of p))) (graph.child st.node (last_of p)) st.victim Nothing n e
    there (AtPair c p q) e =
        let at_dest : Move = dir_then (graph.shape st.dest.node) (parents_move graph c p q st) in
        let second : Move = first_of (step_move graph st.dest.node (left st.dest.walked (parent_of q))) at_dest in
        let rest : Move = dir_then (graph.shape st.source.node) second in
        let first : Move = first_of (step_move graph st.source.node (left st.source.walked (parent_of p))) rest in
        let a : rest ≡ Leaves n = step_leaves graph st.source.node (left st.source.walked (parent_of p)) rest n (dir_leaves (graph.shape st.node) first n e) in
        let b : at_dest ≡ Leaves n = step_leaves graph st.dest.node (left st.dest.walked (parent_of q)) at_dest n (dir_leaves (graph.shape st.source.node) second n a) in
        let both : AtParents graph c p q st = at_parents graph c p q st in
        never_take both.wanted (graph.child st.dest.node (last_of q)) st.victim both.moves n (sym both.is ∙ dir_leaves (graph.shape st.dest.node) (parents_move graph c p q st) n b)

    go : (st.behind ≡ Some n) ⊎ (first_of (step_move graph st.node (target rem)) (target_move graph rem st) ≡ Leaves n) → st.behind ≡ Some n
    go (inl e) = e
    go (inr e) = absurd (there rem (step_leaves graph st.node (target rem) (target_move graph rem st) n e))

on_way : (op : Record) (n : ℕ) (st : Holdings) → IsUnfinished op → op.holdings ≡ Some st → left_holdings op.phase op.holdings ≡ Some (record st { behind = None }) → st.behind ≡ Some n → LetsGo op n
on_way op n st u on is e = On_way st (record st { behind = None }) u on is (lets_behind st n e) (refl, refl, refl)

-- a finished call
at_end : (op : Record) (n : ℕ) (st : Holdings) (r : Reply) → op.phase ≡ Finished r → op.holdings ≡ Some st → last_held st st.victim ≡ n → LetsGo op n
at_end op n st r ph on e = go (lets_last st n e)
  where
    go : LetsLast st n (left_last st st.victim) → LetsGo op n
    go (One new is l behind only) = At_end st new r ph on (ap₂ left_holdings ph on ∙ is) l only
    go (All is node source dest victim) = Last st r ph on (ap₂ left_holdings ph on ∙ is) node (λ v. none_some st.victim v victim)

pub lets_go : (graph : Graph) (op : Record) (n : ℕ) → next graph op ≡ Leaves n → LetsGo op n
lets_go graph op n m = go op.phase (by_paths op.call) op.holdings refl refl m
  where
    no_end : (p : Phase) → op.phase ≡ p → ((r : Reply) → p ≡ Finished r → ⊥) → IsUnfinished op
    no_end p i f r e = f r (sym i ∙ e)

    leaves_is : (a b : ℕ) → Leaves a ≡ Leaves b → a ≡ b
    leaves_is a b e = cc

    go : (p : Phase) (e : Option Errno) (s : Option Holdings) → op.phase ≡ p → op.holdings ≡ s → next_by graph op e p s ≡ Leaves n → LetsGo op n
    go (Finished r) e None i j f = cc
    go (Finished r) e (Some st) i j f = at_end op n st r i j (leaves_is (last_held st st.victim) n f)
    go Walking (Some e) s i j f = cc
    go (Placed k) (Some e) s i j f = cc
    go Walking None None i j f = cc
    go (Placed k) None None i j f = cc
    go Walking None (Some st) i j f = on_way op n st (no_end Walking i (λ r e. cc)) j (ap₂ left_holdings i j) (held_on_move graph op.remaining st n f)
    go (Placed k) None (Some st) i j f = on_way op n st (no_end (Placed k) i (λ r e. cc)) j (ap₂ left_holdings i j) (held_on_move graph op.remaining st n f)

-- the record after it, and the state, by what is left and what was removed
abbrev after_left : Record → Option Holdings → Record
after_left op s = record op { holdings = s; removed = None }

abbrev let_as : State → ℕ → Record → ℕ → Option Holdings → Option ℕ → State
let_as old c op n s m = record old {
  graph = releasing (is_removed m n) n old.graph;
  holder = set_at n None old.holder;
  ops = set_at c (Some (record op { holdings = s; removed = cleared (is_removed m n) m })) old.ops;
}

own_left : {limits : Limits} (graph : Graph) (op : Record) (s : Option Holdings) → Own limits graph op
    → ((st : Holdings) → s ≡ Some st → HeadsSound graph st.node op.remaining st)
    → ((i : ℕ) → op.phase ≡ Placed i → (st : Holdings) × (s ≡ Some st))
    → (IsUnfinished op → (st : Holdings) → s ≡ Some st → VictimAt graph op.remaining st)
    → (IsUnfinished op → s ≡ None → op.walked ≡ [])
    → ((st : Holdings) → s ≡ Some st → IsSingle st)
    → Own limits graph (after_left op s)
own_left graph op s o well placed victim starts single = record {
  parts = o.parts;
  well = well;
  spare = o.spare;
  number = o.number;
  placed = placed;
  gone = λ m e. cc;
  intact = λ u. refl;
  one_spare = λ m e f. cc;
  victim = victim;
  starts = starts;
  single = single;
}

-- the state keeps all, where the graph has the same entries
let_keeps : (old : State) (inv : Invariant old) (c : ℕ) (op : Record) (n : ℕ) (s : Option Holdings) (graph : Graph) → old.ops c ≡ Some op
    → graph.child ≡ old.graph.child → IsGraph graph → graph_shapes graph ≡ graph_shapes old.graph
    → ((d m : ℕ) (q : Record) → (d ≡ c → ⊥) → old.ops d ≡ Some q → HasSpare q m → graph.shape m ≡ old.graph.shape m)
    → ((m : ℕ) → op.reserved ≡ Some m → graph.shape m ≡ old.graph.shape m)
    → CallFacts (numbers old.graph) (set_at c (Some (after_left op s)) old.ops) (set_at c (inv.key c) inv.key)
    → Own (limits_of old) old.graph (after_left op s)
    → old.holder n ≡ Some c
    → ((st : Holdings) (q : ℕ) → s ≡ Some st → Holds st q → (old.holder q ≡ Some c) × (q ≡ n → ⊥))
    → Invariant (renewed old c (after_left op s) graph (set_at n None old.holder))
let_keeps old inv c op n s graph is children is_graph spelled others mine kept own held_n holds = renews_keep old inv c op (after_left op s) graph (set_at n None old.holder) (inv.key c) (record {
  is = is;
  seat = refl;
  call = refl;
  phase = refl;
  is_graph = is_graph;
  kept = subst (λ (t : Map ℕ). CallFacts t (set_at c (Some (after_left op s)) old.ops) (set_at c (inv.key c) inv.key)) (sym (fun_ext (numbers_children old.graph graph children))) kept;
  spelled = spelled;
  under_same = λ i e. refl;
  own = own_children old.graph graph children (after_left op s) mine_shape own;
  own_other = λ d q m e. own_children old.graph graph children q (λ k h. others d k q m e h) (inv.own d q e);
  held = held;
  spares = spares;
})
  where
    mine_shape : (m : ℕ) → HasSpare (after_left op s) m → graph.shape m ≡ old.graph.shape m
    mine_shape m (inl e) = mine m e
    mine_shape m (inr e) = cc

    spares : (m : ℕ) → HasSpare (after_left op s) m → HasSpare op m
    spares m (inl e) = inl e
    spares m (inr e) = cc

    held : (d : ℕ) (q : Record) (st : Holdings) (m : ℕ) → Either old.ops c (after_left op s) d q → q.holdings ≡ Some st → Holds st m → set_at n None old.holder m ≡ Some d
    held d q st m (Changed e g) f h =
        let w : (old.holder m ≡ Some c) × (m ≡ n → ⊥) = holds st m (ap (λ (o : Record). o.holdings) g ∙ f) h in
        upd_else n None old.holder m w.1 ∙ w.0 ∙ ap (λ (x : ℕ). Some x) (sym e)
    held d q st m (Old k e) f h =
        let w : old.holder m ≡ Some d = inv.held d q st m e f h in
        upd_else n None old.holder m (λ i. (let z : ◌≡◌ {A = Option ℕ} (Some d) (Some c) = sym w ∙ ap old.holder i ∙ held_n in k (let y : d ≡ c = cc in y))) ∙ w

-- with what was removed: nothing, or the node that is let go
let_either : (old : State) (inv : Invariant old) (c : ℕ) (op : Record) (n : ℕ) (s : Option Holdings) → old.ops c ≡ Some op → left_holdings op.phase op.holdings ≡ s
    → ((m : ℕ) → op.removed ≡ Some m → m ≡ n)
    → CallFacts (numbers old.graph) (set_at c (Some (after_left op s)) old.ops) (set_at c (inv.key c) inv.key)
    → Own (limits_of old) old.graph (after_left op s)
    → old.holder n ≡ Some c
    → ((st : Holdings) (q : ℕ) → s ≡ Some st → Holds st q → (old.holder q ≡ Some c) × (q ≡ n → ⊥))
    → Invariant (letting_go old c op n)
let_either old inv c op n s is left only kept own held_n holds = go op.removed refl
  where
    released : Invariant (renewed old c (after_left op s) (released_in n old.graph) (set_at n None old.holder)) → Invariant (let_as old c op n s (Some n))
    released i = subst (λ (b : Bool). Invariant (record old { graph = releasing b n old.graph; holder = set_at n None old.holder; ops = set_at c (Some (record op { holdings = s; removed = cleared b (Some n) })) old.ops })) (sym (eqb_refl n)) i

    go : (m : Option ℕ) → op.removed ≡ m → Invariant (letting_go old c op n)
    go None e = subst Invariant (sym (ap₂ (let_as old c op n) left e))
        (let_keeps old inv c op n s old.graph is refl inv.is_graph refl (λ d m q k f h. refl) (λ m f. refl) kept own held_n holds)
    go (Some m) e =
        let i : m ≡ n = only m e in
        let r : op.removed ≡ Some n = e ∙ ap (λ (x : ℕ). Some x) i in
        let loose : (key : Key) → numbers old.graph key ≡ Some n → ⊥ = ((inv.own c op is).gone n r).1 in
        subst Invariant (sym (ap₂ (let_as old c op n) left r))
        (released (let_keeps old inv c op n s (released_in n old.graph) is refl
        (graph_released old.graph inv.is_graph n loose) (shapes_released old.graph n loose)
        (λ d k q differs f h. release_else old.graph n k (λ j. inv.apart c d n op q (λ z. differs (sym z)) is f (inr r) (subst (HasSpare q) j h)))
        (λ k f. release_else old.graph n k (λ j. (inv.own c op is).one_spare n (f ∙ ap (λ (x : ℕ). Some x) j) r))
        kept own held_n holds))

-- a head that stays, or is back where it set out
head_well : (graph : Graph) (n : ℕ) (before after : Head) (whole : Key) → (after ≡ before) ⊎ (after ≡ head_at n) → at graph.child n before.walked ≡ Some before.node → whole ≡ before.walked ++ left before.walked whole
    → (at graph.child n after.walked ≡ Some after.node) × (whole ≡ after.walked ++ left after.walked whole)
head_well graph n before after whole (inl i) e f = subst (λ (h : Head). (at graph.child n h.walked ≡ Some h.node) × (whole ≡ h.walked ++ left h.walked whole)) (sym i) (e, f)
head_well graph n before after whole (inr i) e f = subst (λ (h : Head). (at graph.child n h.walked ≡ Some h.node) × (whole ≡ h.walked ++ left h.walked whole)) (sym i) (refl, refl)

pub well_left : (graph : Graph) (st new : Holdings) (n : ℕ) (remaining : Form) → Lets st new n → HeadsSound graph st.node remaining st → HeadsSound graph new.node remaining new
well_left graph st new n (AtNode c p) l w = w
well_left graph st new n (AtEntry c p) l w = w
well_left graph st new n (AtPair c p q) l w = subst (λ (m : ℕ). HeadsSound graph m (AtPair c p q) new) (sym l.node) (go (common (parent_of p) (parent_of q)) w)
  where
    go : (k : Key) → ForkedAt graph st.node p q st k → ForkedAt graph st.node p q new k
    go (x ∷ k) w = w
    go [] w =
        let kept : (side : Side) → (at graph.child st.node (head_on side new).walked ≡ Some (head_on side new).node) × (parent_of (of_side side p q) ≡ (head_on side new).walked ++ left (head_on side new).walked (parent_of (of_side side p q))) =
        λ (side : Side). head_well graph st.node (head_on side st) (head_on side new) (parent_of (of_side side p q)) (l.head side) (w.stands side) (w.path side) in
        record { stands = λ side. (kept side).0; path = λ side. (kept side).1 }

pub victim_left : (graph : Graph) (st new : Holdings) (remaining : Form) → new.node ≡ st.node → (new.victim ≡ st.victim) × (new.dest.node ≡ st.dest.node) × (new.dest.walked ≡ st.dest.walked) → VictimAt graph remaining st → VictimAt graph remaining new
victim_left graph st new (AtNode c p) node same w = w
victim_left graph st new (AtEntry c p) node same w = λ v e. ap (λ (m : ℕ). graph.child m (last_of p)) node ∙ w v (sym same.0 ∙ e)
victim_left graph st new (AtPair c p q) node same w = λ v e. (ap (λ (m : ℕ). graph.child m (last_of q)) same.1 ∙ (w v (sym same.0 ∙ e)).0, (w v (sym same.0 ∙ e)).1 ∙ sym same.2, (w v (sym same.0 ∙ e)).2)

pub keeps_let_go : (n : ℕ) → StepKeeps (LetGo n)
keeps_let_go n old new seat inv (c, op, moves, same) = subst Invariant (sym same) (go (lets_go old.graph op n moves.2))
  where
    is : old.ops c ≡ Some op
    is = moves.1

    own : Own (limits_of old) old.graph op
    own = inv.own c op moves.1

    -- where the call still stands somewhere
    in_place : (st left : Holdings) → op.holdings ≡ Some st → left_holdings op.phase op.holdings ≡ Some left → Lets st left n
        → ((m : ℕ) → op.removed ≡ Some m → m ≡ n) → ((i : ℕ) → op.phase ≡ Placed i → (s : Holdings) × (◌≡◌ {A = Option Holdings} (Some left) (Some s))) → (IsUnfinished op → VictimAt old.graph op.remaining left) → Invariant (letting_go old c op n)
    in_place st left on left_is l only placed victim =
        let held_n : old.holder n ≡ Some c = inv.held c op st n moves.1 on (slot_holds st l.gone n l.was) in
        let kept : CallFacts (numbers old.graph) (set_at c (Some (after_left op (Some left))) old.ops) (set_at c (inv.key c) inv.key) =
        kept_shrink (numbers old.graph) old.ops inv.key c op (after_left op (Some left)) st left inv.kept moves.1 on refl refl refl refl (shrinks_of st left n l) in
        let own_new : Own (limits_of old) old.graph (after_left op (Some left)) = own_left old.graph op (Some left) own
        (λ s e. subst (λ (x : Holdings). HeadsSound old.graph x.node op.remaining x) (one_holdings refl e) (well_left old.graph st left n op.remaining l (own.well st on)))
        placed
        (λ u s e. subst (VictimAt old.graph op.remaining) (one_holdings refl e) (victim u))
        (λ u e. cc)
        (λ s e. subst IsSingle (one_holdings refl e) (single_of st left n l (own.single st on))) in
        let_either old inv c op n (Some left) moves.1 left_is only kept own_new held_n
        (λ s q e h. (let w : Holds left q = subst (λ (x : Holdings). Holds x q) (sym (one_holdings refl e)) h in (inv.held c op st q moves.1 on ((shrinks_of st left n l).holds q w), other_of st left n q l (own.single st on) w)))

    -- what is removed is the victim
    removed_is : (st : Holdings) → op.holdings ≡ Some st → ((v : ℕ) → st.victim ≡ Some v → v ≡ n) → (m : ℕ) → op.removed ≡ Some m → m ≡ n
    removed_is st on f m e =
        let g : (s : Holdings) × (op.holdings ≡ Some s) × (s.victim ≡ Some m) = (own.gone m e).0 in
        f m (ap (λ (s : Holdings). s.victim) (one_holdings on g.1) ∙ g.2)

    go : LetsGo op n → Invariant (letting_go old c op n)
    go (On_way st left u on left_is l same) =
        in_place st left on left_is l (λ m e. (let z : ◌≡◌ {A = Option ℕ} None (Some m) = sym (own.intact u) ∙ e in cc)) (λ i e. (left, refl)) (λ v. victim_left old.graph st left op.remaining l.node same (own.victim u st on))
    go (At_end st left r ph on left_is l only) =
        in_place st left on left_is l (removed_is st on only) (λ i e. (let z : ◌≡◌ {A = Phase} (Finished r) (Placed i) = sym ph ∙ e in cc)) (λ u. absurd (u r ph))
    go (Last st r ph on left_is node only) =
        let held_n : old.holder n ≡ Some c = inv.held c op st n moves.1 on (inl node) in
        let_either old inv c op n None moves.1 left_is (removed_is st on only)
        (kept_none (numbers old.graph) old.ops inv.key c (after_left op None) inv.kept refl)
        (own_left old.graph op None own (λ s e. cc) (λ i e. (let z : ◌≡◌ {A = Phase} (Finished r) (Placed i) = sym ph ∙ e in cc)) (λ u. absurd (u r ph)) (λ u. absurd (u r ph)) (λ s e. cc))
        held_n (λ s q e h. cc)
