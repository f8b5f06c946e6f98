-- A take at the target: of a victim, or of the next node of a head.
use Rattle.std.proofs.Common.{◌≡◌, ℕ, [], ◌∷◌, ◌++◌, Some, None, refl, sym, ap, ◌∙◌, append_assoc, append-nil, subst, ◌⊎◌, inl, inr}
use Rattle.fs_names.specs.Keys.{Key, after_prefix, parent_of, last_of}
use Rattle.fs_names.specs.Names.{Name}
use Rattle.fs_names.specs.Parts.{common, left, left_by}
use Rattle.fs_names.specs.declared.limits.Limits.{Limits}
use Rattle.fs_calls.specs.Forms.{Form, AtPair, PairCall}
use Rattle.fs_calls.specs.Forms as pairs
use Rattle.fs_calls.specs.Graphs.{Graph, at, numbers, set_at}
use Rattle.fs_machine.specs.Moves.{head_took, took, victim_took, stepped}
use Rattle.fs_machine.specs.Records.{Holds, Record, Holdings, Side, Source, Dest, of_side, head_on, Head}
use Rattle.fs_laws.specs.Invariants.{Forked, ForkedAt, HeadsSound, VictimAt, IsSingle, IsUnfinished, Own, Invariant, StepKeeps, limits_of}
use Rattle.fs_laws.specs.CallFacts.{IsFree, Keeps, Located}
use Rattle.fs_machine.specs.States.{State, taking}
use Rattle.fs_machine.specs.declared.answers.Stepped.TheVariants.{Took}
use Rattle.fs_laws.proofs.trees.Prefixes.{prefix_append}
use Rattle.fs_laws.proofs.graphs.Walks.{at_child, at_from}
use Rattle.fs_laws.proofs.events.OneCallChanged.{kept_take, takes_head, takes_victim, Takes as Taken}
use Rattle.fs_laws.proofs.calls.NodesHeld.{heads_with, node_held, single_grow, one_holdings, none_some}
use Rattle.fs_laws.proofs.calls.Takes.{AtTarget, Entry, Of_head, Replaced, Take, Walk, There, stands, grown, none_left, with_holdings, takes_by}
use Rattle.fs_laws.proofs.events.RecordChanged.{renewed}
use Rattle.fs_laws.proofs.events.Take.{TakesFrom, From_nowhere, From_holdings, takes_from, Taker, is_free, take_keeps, take_root, take_walk}

-- the same call at a new stand
own_holdings : {limits : Limits} (graph : Graph) (op : Record) (new : Holdings) → Own limits graph op → IsUnfinished op → HeadsSound graph new.node op.remaining new → VictimAt graph op.remaining new → IsSingle new → Own limits graph (record op { holdings = Some new })
own_holdings graph op new o unf well victim single = record {
  parts = o.parts;
  well = λ st e. subst (λ (s : Holdings). HeadsSound graph s.node op.remaining s) (one_holdings refl e) well;
  spare = o.spare;
  number = o.number;
  placed = λ i e. (new, refl);
  gone = λ m e. none_some op.removed m (o.intact unf) e;
  intact = o.intact;
  one_spare = o.one_spare;
  victim = λ u st e. subst (λ (s : Holdings). VictimAt graph op.remaining s) (one_holdings refl e) victim;
  starts = λ u e. cc;
  single = λ st e. subst IsSingle (one_holdings refl e) single;
}

-- what is left behind one more name
pub left_on : (w l whole : Key) (x : Name) → whole ≡ w ++ x ∷ l → whole ≡ (w ++ x ∷ []) ++ left (w ++ x ∷ []) whole
left_on w l whole x e =
    let i : whole ≡ (w ++ x ∷ []) ++ l = e ∙ sym (append_assoc w (x ∷ []) l) in
    let j : left (w ++ x ∷ []) whole ≡ l = ap left_by (ap (after_prefix (w ++ x ∷ [])) i ∙ prefix_append (w ++ x ∷ []) l) in
    i ∙ ap (λ (k : Key). (w ++ x ∷ []) ++ k) (sym j)

pub forked_of : (graph : Graph) (n : ℕ) (c : PairCall) (p q : Key) (st : Holdings) (remaining : Form) → remaining ≡ AtPair c p q → common (parent_of p) (parent_of q) ≡ [] → HeadsSound graph n remaining st → Forked graph n p q st
forked_of graph n c p q st remaining rem way well = subst (ForkedAt graph n p q st) way (subst (λ (f : Form). HeadsSound graph n f st) rem well)

well_of : (graph : Graph) (n : ℕ) (c : PairCall) (p q : Key) (st : Holdings) (remaining : Form) → remaining ≡ AtPair c p q → common (parent_of p) (parent_of q) ≡ [] → Forked graph n p q st → HeadsSound graph n remaining st
well_of graph n c p q st remaining rem way f = subst (λ (g : Form). HeadsSound graph n g st) (sym rem) (subst (ForkedAt graph n p q st) (sym way) f)

-- what a call keeps where it stands after a take at its target
pub record KeptThere (graph : Graph) (k : Key) (op : Record) (n : ℕ) (st new : Holdings) : Type 0 where
  pub taken : Taken (numbers graph) k st k new n
  pub located : Located (numbers graph) k new
  pub well : HeadsSound graph new.node op.remaining new
  pub victim : VictimAt graph op.remaining new

-- the next node of a head
head_there : (side : Side) (graph : Graph) (k : Key) (op : Record) (n : ℕ) (st : Holdings) (c : PairCall) (p q : Key) (x : Name) (l : Key) → Located (numbers graph) k st → HeadsSound graph st.node op.remaining st → VictimAt graph op.remaining st → st.behind ≡ None
    → op.remaining ≡ AtPair c p q → common (parent_of p) (parent_of q) ≡ [] → left (head_on side st).walked (parent_of (of_side side p q)) ≡ x ∷ l → graph.child (head_on side st).node x ≡ Some n
    → KeptThere graph k op n st (stepped side st x n)
head_there side graph k op n st c p q x l loc well victim b rem way at_left child = record {
  taken = takes_head side (numbers graph) k st x n b (loc.head side) (node_held side (numbers graph) k st loc) at_n;
  located = record { here = loc.here; head = heads_with (λ (at : Side) (h : Head). numbers graph (k ++ h.walked) ≡ Some h.node) side (head_took (head_on side st) x n) st at_longer loc.head };
  well = well_of graph st.node c p q (stepped side st x n) op.remaining rem way (record {
    stands = heads_with (λ (side : Side) (h : Head). at graph.child st.node h.walked ≡ Some h.node) side (head_took (head_on side st) x n) st (sym (at_from graph.child 0 st.node k (walked ++ x ∷ []) loc.here) ∙ at_longer) f.stands;
    path = heads_with (λ (side : Side) (h : Head). parent_of (of_side side p q) ≡ h.walked ++ left h.walked (parent_of (of_side side p q))) side (head_took (head_on side st) x n) st (left_on walked l (parent_of (of_side side p q)) x (f.path side ∙ ap (λ (y : Key). walked ++ y) at_left)) f.path;
  });
  victim = subst (λ (g : Form). VictimAt graph g (stepped side st x n)) (sym rem) (kept side at_left);
}
  where
    walked : Key
    walked = (head_on side st).walked

    f : Forked graph st.node p q st
    f = forked_of graph st.node c p q st op.remaining rem way well

    at_n : numbers graph ((k ++ walked) ++ x ∷ []) ≡ Some n
    at_n = at_child graph.child 0 (head_on side st).node (k ++ walked) x (loc.head side) ∙ child

    at_longer : numbers graph (k ++ (walked ++ x ∷ [])) ≡ Some n
    at_longer = ap (numbers graph) (sym (append_assoc k walked (x ∷ []))) ∙ at_n

    vic : VictimAt graph (AtPair c p q) st
    vic = subst (λ (g : Form). VictimAt graph g st) rem victim

    -- a pair holds a victim only once the destination head has arrived
    none_yet : (v : ℕ) → st.victim ≡ Some v → left st.dest.walked (parent_of q) ≡ x ∷ l → ⊥
    none_yet v e left_is = let z : ◌≡◌ {A = Key} [] (x ∷ l) = sym (none_left st.dest.walked (parent_of q) (vic v e).1) ∙ left_is in cc

    kept : (side : Side) → left (head_on side st).walked (parent_of (of_side side p q)) ≡ x ∷ l → VictimAt graph (AtPair c p q) (stepped side st x n)
    kept Source e = vic
    kept Dest e = λ v i. absurd (none_yet v i e)

pub kept_there : (graph : Graph) (k : Key) (op : Record) (n : ℕ) (st : Holdings) → Located (numbers graph) k st → HeadsSound graph st.node op.remaining st → VictimAt graph op.remaining st → st.behind ≡ None → (t : AtTarget graph op n st) → KeptThere graph k op n st (stands t)
kept_there graph k op n st loc well victim b (Of_head side c p q x l rem way turn at_left child) = head_there side graph k op n st c p q x l loc well victim b rem way at_left child
kept_there graph k op n st loc well victim b (Entry e p rem way child off) = record {
  taken = takes_victim (numbers graph) k st k st.node (last_of p) n off loc.here (inl refl) (at_child graph.child 0 st.node k (last_of p) loc.here ∙ child);
  located = record { here = loc.here; head = loc.head };
  well = subst (λ (f : Form). HeadsSound graph st.node f (victim_took st n)) (sym rem) tt;
  victim = subst (λ (f : Form). VictimAt graph f (victim_took st n)) (sym rem) (λ v i. child ∙ i);
}
kept_there graph k op n st loc well victim b (Replaced most p q rem way there at_left want child off) = record {
  taken = takes_victim (numbers graph) k st (k ++ st.dest.walked) st.dest.node (last_of q) n off (loc.head Dest) (node_held Dest (numbers graph) k st loc) (at_child graph.child 0 st.dest.node (k ++ st.dest.walked) (last_of q) (loc.head Dest) ∙ child);
  located = record { here = loc.here; head = loc.head };
  well = well_of graph st.node (pairs.Rename most) p q (victim_took st n) op.remaining rem way (record { stands = f.stands; path = f.path });
  victim = subst (λ (g : Form). VictimAt graph g (victim_took st n)) (sym rem) (λ v i. (child ∙ i, f.path Dest ∙ ap (λ (y : Key). st.dest.walked ++ y) at_left ∙ append-nil st.dest.walked, tt));
}
  where
    f : Forked graph st.node p q st
    f = forked_of graph st.node (pairs.Rename most) p q st op.remaining rem way well

-- a take that leaves the position
take_there : (old : State) (inv : Invariant old) (c : ℕ) (op : Record) (n : ℕ) (st : Holdings) → Taker old inv c op n → op.holdings ≡ Some st → (t : AtTarget old.graph op n st) → st.behind ≡ None → took op n ≡ with_holdings op (stands t) → Invariant (taking old c op n)
take_there old inv c op n st t on at_target b took_is = subst (λ (v : Record). Invariant (renewed old c v old.graph (set_at n (Some c) old.holder))) (sym took_is)
    (take_keeps old inv c op (with_holdings op new) n (inv.key c) t refl refl refl refl refl
    (kept_take (numbers old.graph) old.ops inv.key c op st n (inv.key c) new (with_holdings op new) inv.kept t.is on refl refl free there.taken (record { located = there.located; walking = keeps.walking; fits = keeps.fits }))
    (λ i e. refl)
    (own_holdings old.graph op new own t.unfinished there.well there.victim (single_grow (grown at_target b) (free c op st t.is on) (own.single st on)))
    (λ s q e h. holds s q (one_holdings refl e) h))
  where
    new : Holdings
    new = stands at_target

    own : Own (limits_of old) old.graph op
    own = inv.own c op t.is

    keeps : Keeps (numbers old.graph) (inv.key c) op st
    keeps = inv.kept.each c op st t.is on

    free : IsFree old.ops n
    free = is_free old inv n t.free

    there : KeptThere old.graph (inv.key c) op n st new
    there = kept_there old.graph (inv.key c) op n st keeps.located (own.well st on) (own.victim t.unfinished st on) b at_target

    holds : (s : Holdings) (q : ℕ) → new ≡ s → Holds s q → (q ≡ n) ⊎ (old.holder q ≡ Some c)
    holds s q e h = by (there.taken.grows q (subst (λ (y : Holdings). Holds y q) (sym e) h))
      where
        by : Holds st q ⊎ (q ≡ n) → (q ≡ n) ⊎ (old.holder q ≡ Some c)
        by (inl i) = inr (inv.held c op st q t.is on i)
        by (inr i) = inl i

pub keeps_took : (n : ℕ) → StepKeeps (Took n)
keeps_took n old new seat inv (c, op, moves, free, same) = subst Invariant (sym same) (go w.0)
  where
    w : TakesFrom old.graph op n × IsUnfinished op
    w = takes_from old.graph op n moves.2

    t : Taker old inv c op n
    t = record { is = moves.1; unfinished = (takes_from old.graph op n moves.2).1; free = free }

    from : (st : Holdings) → op.holdings ≡ Some st → Take old.graph op n st → Invariant (taking old c op n)
    from st on (Walk x l way b child is) = take_walk old inv c op n st x l t on way child
    from st on (There at_target b is) = take_there old inv c op n st t on at_target b is

    go : TakesFrom old.graph op n → Invariant (taking old c op n)
    go (From_nowhere text off z) = take_root old inv c op n t text off z
    go (From_holdings st on m) = from st on (takes_by old.graph op n st on m)
