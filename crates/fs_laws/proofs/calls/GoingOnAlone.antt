-- An unfinished call that goes on alone: each of its moves leaves fewer, and at last it finishes as what it was.
use Rattle.std.proofs.Common.{◌≡◌, ℕ, zero, suc, ◌+◌, ◌≤◌, [], ◌∷◌, ◌++◌, length, Option, Some, None, refl, sym, ap, ap₂, ◌∙◌, append_assoc, append-nil, subst, inl, arith}
use Rattle.std.proofs.lemmas.List.{length-append}
use Rattle.fs_names.specs.Keys.{Key, after_prefix, parent_of}
use Rattle.fs_names.specs.Names.{Name}
use Rattle.fs_names.specs.Parts.{common, left, left_by}
use Rattle.fs_calls.specs.Forms.{Form, AtNode, AtEntry, AtPair, under, by_paths, PairCall}
use Rattle.fs_calls.specs.declared.errno.Errno.{Errno}
use Rattle.fs_calls.specs.Graphs.{Graph, numbers, IsGraph}
use Rattle.fs_machine.specs.Moves.{next, next_by, next_on, target, took, victim_took, stepped, inner, tail_of, left_holdings}
use Rattle.fs_machine.specs.declared.moves.Move.{Move}
use Rattle.fs_machine.specs.declared.moves.Move.TheVariants.{Take as Takes, LetGo as Leaves, Finish as Finishes, Return as Ends}
use Rattle.fs_machine.specs.declared.moves.Moved.{Moved}
use Rattle.fs_machine.specs.Records.{Phase, Walking, Placed, Finished, Holds, Record, Holdings, Side, Source, Dest, of_side, head_on, holdings_at, held_on}
use Rattle.fs_laws.specs.Invariants.{IsUnfinished}
use Rattle.fs_laws.specs.Settled.{names_left, alone_by}
use Rattle.fs_laws.specs.StepsLeft.{one_if, one_unless, to_go, moves_left}
use Rattle.fs_laws.proofs.trees.Prefixes.{prefix_append, prefix_some}
use Rattle.fs_laws.proofs.graphs.Walks.{at_child}
use Rattle.fs_laws.proofs.calls.NodesHeld.{located_at, single_at, single_grow}
use Rattle.fs_laws.proofs.events.LetGo.{Lets, held_on_move, lets_behind, single_of, well_left, victim_left}
use Rattle.fs_laws.proofs.events.Take.{Inner, inner_on, number_inner, fresh_well, fresh_victim}
use Rattle.fs_laws.proofs.calls.TakesAtTarget.{forked_of, KeptThere, kept_there}
use Rattle.fs_laws.proofs.states.ComputedSteps.{on_ends}
use Rattle.fs_laws.proofs.calls.Takes.{AtTarget, Entry, Of_head, Replaced, Take, Walk, There, stands, grown, takes_by, with_holdings}
use Rattle.fs_laws.proofs.calls.HeadOrder.{HeadsInOrder, TookWell, took_well, plain_of, neat_heads, neat_fresh}
use Rattle.fs_laws.proofs.calls.OneUnfinishedCall.{OneUnfinished, solo_wants}
use Rattle.fs_machine.specs.Finishes.{finish}

parent_less : (p : Key) → length (parent_of p) ≤ length p
parent_less [] = omega arith
parent_less (x ∷ []) = omega arith
parent_less (x ∷ y ∷ p) = let k : length (parent_of (y ∷ p)) ≤ length (y ∷ p) = parent_less (y ∷ p) in omega (arith, k)

left_less : (w whole : Key) → length (left w whole) ≤ length whole
left_less w whole = go (after_prefix w whole) refl
  where
    go : (o : Option Key) → after_prefix w whole ≡ o → length (left_by o) ≤ length whole
    go None e = omega arith
    go (Some r) e = let k : length whole ≡ length w + length r = ap length (prefix_some w whole r e) ∙ length-append w r in omega (arith, k)

pub if_one : (o : Option ℕ) → one_if o ≤ 1
if_one None = omega arith
if_one (Some n) = omega arith

unless_one : (o : Option ℕ) → one_unless o ≤ 1
unless_one None = omega arith
unless_one (Some n) = omega arith

to_go_less : (remaining : Form) (st : Holdings) → to_go remaining st ≤ names_left remaining
to_go_less (AtNode c p) st = omega arith
to_go_less (AtEntry c p) st = parent_less p
to_go_less (AtPair pair p q) st =
    let a : length (left st.source.walked (parent_of p)) ≤ length (parent_of p) = left_less st.source.walked (parent_of p) in
    let b : length (left st.dest.walked (parent_of q)) ≤ length (parent_of q) = left_less st.dest.walked (parent_of q) in
    let c : length (parent_of p) ≤ length p = parent_less p in
    let d : length (parent_of q) ≤ length q = parent_less q in
    omega (arith, a, b, c, d)

-- as many moves as a call alone may make
pub enough : (remaining : Form) (st : Holdings) → moves_left remaining st ≤ names_left remaining + names_left remaining + 4
enough remaining st =
    let a : to_go remaining st ≤ names_left remaining = to_go_less remaining st in
    let b : one_if st.behind ≤ 1 = if_one st.behind in
    let e : one_unless st.victim ≤ 1 = unless_one st.victim in
    omega (arith, a, b, e)

-- the call after a move: the same, at its key or below it, with fewer moves left
pub record Advanced (graph : Graph) (k : Key) (op : Record) (st : Holdings) (v : Record) : Type 0 where
  pub new : Holdings
  pub r : Key
  pub solo : OneUnfinished graph (k ++ r) v new
  pub same : under (k ++ r) v.remaining ≡ under k op.remaining
  pub reserved : v.reserved ≡ op.reserved
  pub phase : v.phase ≡ op.phase
  pub less : moves_left v.remaining new + 1 ≤ moves_left op.remaining st

-- a step of the walk leaves a name less
parent_tail : (p : Key) (x : Name) (l : Key) → parent_of p ≡ x ∷ l → length (parent_of (tail_of p)) + 1 ≡ length (parent_of p)
parent_tail [] x l e = cc
parent_tail (y ∷ []) x l e = cc
parent_tail (y ∷ z ∷ p) x l e = omega arith

common_front : (a b : Key) (x : Name) (l : Key) → common a b ≡ x ∷ l → ((y : Name) × (r : Key) × (a ≡ y ∷ r)) × ((z : Name) × (t : Key) × (b ≡ z ∷ t))
common_front [] b x l e = cc
common_front (y ∷ a) [] x l e = cc
common_front (y ∷ a) (z ∷ b) x l e = ((y, a, refl), (z, b, refl))

walk_less : (remaining : Form) (x : Name) (l : Key) (st : Holdings) (n : ℕ) → target remaining ≡ x ∷ l → st.source.walked ≡ [] → st.dest.walked ≡ [] → to_go (inner remaining) (holdings_at n (Some st.node)) + 1 ≤ to_go remaining st
walk_less (AtNode c []) x l st n e i j = cc
walk_less (AtNode c (y ∷ p)) x l st n e i j = omega arith
walk_less (AtEntry c p) x l st n e i j = let k : length (parent_of (tail_of p)) + 1 ≡ length (parent_of p) = parent_tail p x l e in omega (arith, k)
walk_less (AtPair pair p q) x l st n e i j =
    let f : ((y : Name) × (r : Key) × (parent_of p ≡ y ∷ r)) × ((z : Name) × (t : Key) × (parent_of q ≡ z ∷ t)) = common_front (parent_of p) (parent_of q) x l e in
    let a : length (parent_of (tail_of p)) + 1 ≡ length (parent_of p) = parent_tail p f.0.0 f.0.1 f.0.2 in
    let b : length (parent_of (tail_of q)) + 1 ≡ length (parent_of q) = parent_tail q f.1.0 f.1.1 f.1.2 in
    let c : length (left st.source.walked (parent_of p)) ≡ length (parent_of p) = ap (λ (w : Key). length (left w (parent_of p))) i in
    let d : length (left st.dest.walked (parent_of q)) ≡ length (parent_of q) = ap (λ (w : Key). length (left w (parent_of q))) j in
    omega (arith, a, b, c, d)

-- what a head has left, one name on
left_next : (w l whole : Key) (x : Name) → whole ≡ w ++ x ∷ l → left (w ++ x ∷ []) whole ≡ l
left_next w l whole x e = ap left_by (ap (after_prefix (w ++ x ∷ [])) (e ∙ sym (append_assoc w (x ∷ []) l)) ∙ prefix_append (w ++ x ∷ []) l)

stay_here : (graph : Graph) (k : Key) (v : Record) (new : Holdings) → OneUnfinished graph k v new → OneUnfinished graph (k ++ []) v new
stay_here graph k v new s = subst (λ (x : Key). OneUnfinished graph x v new) (sym (append-nil k)) s

under_here : (k : Key) (f : Form) → under (k ++ []) f ≡ under k f
under_here k f = ap (λ (x : Key). under x f) (append-nil k)

-- a take
pub solo_took : (graph : Graph) → IsGraph graph → (k : Key) (op : Record) (n : ℕ) (st : Holdings) → OneUnfinished graph k op st → Take graph op n st → Advanced graph k op st (took op n)
solo_took graph is k op n st s t = go t
  where
    free : Holds st n → ⊥
    free = solo_wants graph is k op n st s t

    w : TookWell graph op n
    w = took_well graph op n st s.unfinished s.on s.neat t

    -- its heads are in order where it then stands
    neat : (new : Holdings) → took op n ≡ with_holdings op new → HeadsInOrder graph op.remaining new
    neat new e =
        let z : ◌≡◌ {A = Option Holdings} (Some w.new) (Some new) = sym w.on ∙ ap (λ (o : Record). o.holdings) e in
        subst (λ (x : Holdings). HeadsInOrder graph op.remaining x) (let y : w.new ≡ new = cc in y) (subst (λ (o : Record). HeadsInOrder graph o.remaining w.new) e (w.neat.under_way (λ r f. s.unfinished r (ap (λ (o : Record). o.phase) (sym e) ∙ f))))

    victim_less : st.victim ≡ None → (f : Form) → moves_left f (victim_took st n) + 1 ≤ moves_left f st
    victim_less off f = let z : one_unless st.victim ≡ 1 = ap one_unless off in same_go f z
      where
        same_go : (f : Form) → one_unless st.victim ≡ 1 → moves_left f (victim_took st n) + 1 ≤ moves_left f st
        same_go (AtNode c p) z = omega (arith, z)
        same_go (AtEntry c p) z = omega (arith, z)
        same_go (AtPair c p q) z = omega (arith, z)

    head_less : (side : Side) (pair : PairCall) (p q : Key) (x : Name) → length (left ((head_on side st).walked ++ x ∷ []) (parent_of (of_side side p q))) + 1 ≡ length (left (head_on side st).walked (parent_of (of_side side p q)))
        → one_if (held_on (head_on side st).walked (head_on side st).node) ≤ 1 → moves_left (AtPair pair p q) (stepped side st x n) + 1 ≤ moves_left (AtPair pair p q) st
    head_less Source pair p q x a b = omega (arith, a, b)
    head_less Dest pair p q x a b = omega (arith, a, b)

    less : (t : AtTarget graph op n st) → moves_left op.remaining (stands t) + 1 ≤ moves_left op.remaining st
    less (Entry e p rem way child off) = victim_less off op.remaining
    less (Replaced most p q rem way there at_left want child off) = victim_less off op.remaining
    less (Of_head side pair p q x l rem way turn at_left child) =
        let walked : Key = (head_on side st).walked in
        let whole : parent_of (of_side side p q) ≡ walked ++ x ∷ l = (forked_of graph st.node pair p q st op.remaining rem way s.well).path side ∙ ap (λ (y : Key). walked ++ y) at_left in
        let a : length (left (walked ++ x ∷ []) (parent_of (of_side side p q))) ≡ length l = ap length (left_next walked l (parent_of (of_side side p q)) x whole) in
        let c : length (left walked (parent_of (of_side side p q))) ≡ length (x ∷ l) = ap length at_left in
        subst (λ (g : Form). moves_left g (stepped side st x n) + 1 ≤ moves_left g st) (sym rem) (head_less side pair p q x (omega (arith, a, c)) (if_one (held_on walked (head_on side st).node)))

    go : Take graph op n st → Advanced graph k op st (took op n)
    go (Walk x l way b child e) = subst (Advanced graph k op st) (sym e) (record {
      new = holdings_at n (Some st.node);
      r = x ∷ [];
      solo = record {
        on = refl;
        unfinished = s.unfinished;
        text = s.text;
        loc = located_at (numbers graph) (k ++ x ∷ []) n (Some st.node) at_n;
        fits = step.fits s.fits;
        well = fresh_well graph n (Some st.node) (inner op.remaining);
        number = number_inner graph op.remaining op.reserved s.number;
        victim = fresh_victim graph n (Some st.node) (inner op.remaining);
        single = single_at n (Some st.node) (λ f. free (inl (let z : st.node ≡ n = cc in z)));
        neat = neat_fresh graph (inner op.remaining) n (Some st.node);
      };
      same = step.same;
      reserved = refl;
      phase = refl;
      less = (
          let a : to_go (inner op.remaining) (holdings_at n (Some st.node)) + 1 ≤ to_go op.remaining st = walk_less op.remaining x l st n way plain.0 plain.1 in
          let c : one_unless st.victim ≡ 1 = ap one_unless plain.2 in
          omega (arith, a, c));
    })
      where
        plain : (st.source.walked ≡ []) × (st.dest.walked ≡ []) × (st.victim ≡ None)
        plain = plain_of graph op.remaining st x l way s.neat

        step : Inner k (x ∷ []) op.remaining
        step = inner_on k x l op.remaining way

        at_n : numbers graph (k ++ x ∷ []) ≡ Some n
        at_n = at_child graph.child 0 st.node k x s.loc.here ∙ child
    go (There t b e) = subst (Advanced graph k op st) (sym e) (record {
      new = stands t;
      r = [];
      solo = stay_here graph k (with_holdings op (stands t)) (stands t) (record {
        on = refl;
        unfinished = s.unfinished;
        text = s.text;
        loc = there.located;
        fits = s.fits;
        well = there.well;
        number = s.number;
        victim = there.victim;
        single = single_grow (grown t b) free s.single;
        neat = neat (stands t) e;
      });
      same = under_here k op.remaining;
      reserved = refl;
      phase = refl;
      less = less t;
    })
      where
        there : KeptThere graph k op n st (stands t)
        there = kept_there graph k op n st s.loc s.well s.victim b t

-- the record after a let go, as a call alone makes it
abbrev pub left_alone : Record → Record
left_alone op = record op { holdings = left_holdings op.phase op.holdings }

unfinished_left : (op : Record) (st : Holdings) → IsUnfinished op → op.holdings ≡ Some st → left_holdings op.phase op.holdings ≡ Some (record st { behind = None })
unfinished_left op st u on = go op.phase refl
  where
    go : (p : Phase) → op.phase ≡ p → left_holdings op.phase op.holdings ≡ Some (record st { behind = None })
    go Walking e = ap₂ left_holdings e on
    go (Placed i) e = ap₂ left_holdings e on
    go (Finished r) e = absurd (u r e)

-- a let go of what is behind
pub solo_left : (graph : Graph) (k : Key) (op : Record) (n : ℕ) (st : Holdings) → OneUnfinished graph k op st → st.behind ≡ Some n → Advanced graph k op st (left_alone op)
solo_left graph k op n st s e = record {
  new = record st { behind = None };
  r = [];
  solo = stay_here graph k (left_alone op) (record st { behind = None }) (record {
    on = unfinished_left op st s.unfinished s.on;
    unfinished = s.unfinished;
    text = s.text;
    loc = record { here = s.loc.here; head = s.loc.head };
    fits = s.fits;
    well = well_left graph st (record st { behind = None }) n op.remaining lets s.well;
    number = s.number;
    victim = victim_left graph st (record st { behind = None }) op.remaining refl (refl, refl, refl) s.victim;
    single = single_of st (record st { behind = None }) n lets s.single;
    neat = neat_heads graph op.remaining st (record st { behind = None }) (record { source = refl; node = refl; dest = refl; victim = refl }) s.neat;
  });
  same = under_here k op.remaining;
  reserved = refl;
  phase = refl;
  less = less op.remaining (ap one_if e);
}
  where
    lets : Lets st (record st { behind = None }) n
    lets = lets_behind st n e

    less : (f : Form) → one_if st.behind ≡ 1 → moves_left f (record st { behind = None }) + 1 ≤ moves_left f st
    less (AtNode c p) z = omega (arith, z)
    less (AtEntry c p) z = omega (arith, z)
    less (AtPair c p q) z = omega (arith, z)

-- the call where it finishes
pub record Finishing (graph : Graph) (k : Key) (op : Record) (steps : ℕ) : Type 0 where
  pub last : Record
  pub st : Holdings
  pub r : Key
  pub o : Moved
  pub solo : OneUnfinished graph (k ++ r) last st
  pub move : next_on graph last.remaining st ≡ Finishes o
  pub ends : next graph last ≡ Finishes o
  pub same : under (k ++ r) last.remaining ≡ under k op.remaining
  pub reserved : last.reserved ≡ op.reserved
  pub phase : last.phase ≡ op.phase
  pub made : alone_by steps graph op (next graph op) ≡ finish graph last

-- the next move of a call that is under way and stands somewhere
solo_next : (graph : Graph) (k : Key) (op : Record) (st : Holdings) → OneUnfinished graph k op st → next graph op ≡ next_on graph op.remaining st
solo_next graph k op st s = go op.phase refl
  where
    go : (p : Phase) → op.phase ≡ p → next graph op ≡ next_on graph op.remaining st
    go Walking e = ap (λ (p : Phase). next_by graph op (by_paths op.call) p op.holdings) e ∙ ap₂ (λ (t : Option Errno) (x : Option Holdings). next_by graph op t Walking x) s.text s.on
    go (Placed i) e = ap (λ (p : Phase). next_by graph op (by_paths op.call) p op.holdings) e ∙ ap₂ (λ (t : Option Errno) (x : Option Holdings). next_by graph op t (Placed i) x) s.text s.on
    go (Finished r) e = absurd (s.unfinished r e)

-- the rest of the way, seen from before a move
further : (graph : Graph) (k : Key) (op v : Record) (st : Holdings) (steps more : ℕ) (a : Advanced graph k op st v) → Finishing graph (k ++ a.r) v steps → alone_by more graph op (next graph op) ≡ alone_by steps graph v (next graph v) → Finishing graph k op more
further graph k op v st steps more a f e = record {
  last = f.last;
  st = f.st;
  r = a.r ++ f.r;
  o = f.o;
  solo = subst (λ (x : Key). OneUnfinished graph x f.last f.st) (append_assoc k a.r f.r) f.solo;
  move = f.move;
  ends = f.ends;
  same = ap (λ (x : Key). under x f.last.remaining) (sym (append_assoc k a.r f.r)) ∙ f.same ∙ a.same;
  reserved = f.reserved ∙ a.reserved;
  phase = f.phase ∙ a.phase;
  made = e ∙ f.made;
}

ended_here : (graph : Graph) (k : Key) (op : Record) (st : Holdings) (steps : ℕ) (o : Moved) → OneUnfinished graph k op st → next_on graph op.remaining st ≡ Finishes o → alone_by steps graph op (next graph op) ≡ finish graph op → Finishing graph k op steps
ended_here graph k op st steps o s m e = record {
  last = op;
  st = st;
  r = [];
  o = o;
  solo = stay_here graph k op st s;
  move = m;
  ends = solo_next graph k op st s ∙ m;
  same = under_here k op.remaining;
  reserved = refl;
  phase = refl;
  made = e;
}

none_less : (a b : ℕ) → a + 1 ≤ b → b ≤ 0 → ⊥
none_less a b h g = omega (arith, h, g)

one_less : (a b n : ℕ) → a + 1 ≤ b → b ≤ suc n → a ≤ n
one_less a b n h g = omega (arith, h, g)

-- a call that goes on alone comes to its finish
pub finishes_alone : (steps : ℕ) (graph : Graph) → IsGraph graph → (k : Key) (op : Record) (st : Holdings) → OneUnfinished graph k op st → moves_left op.remaining st ≤ steps → Finishing graph k op steps
finishes_alone zero graph is k op st s few = go (next_on graph op.remaining st) refl
  where
    go : (m : Move) → next_on graph op.remaining st ≡ m → Finishing graph k op zero
    go (Takes n) e = let a : Advanced graph k op st (took op n) = solo_took graph is k op n st s (takes_by graph op n st s.on e) in absurd (none_less (moves_left (took op n).remaining a.new) (moves_left op.remaining st) a.less few)
    go (Leaves n) e = let a : Advanced graph k op st (left_alone op) = solo_left graph k op n st s (held_on_move graph op.remaining st n e) in absurd (none_less (moves_left (left_alone op).remaining a.new) (moves_left op.remaining st) a.less few)
    go (Finishes o) e = ended_here graph k op st zero o s e refl
    go Ends e = absurd (on_ends graph op.remaining st e)
finishes_alone (suc steps) graph is k op st s few = go (λ j v new t f. finishes_alone steps graph is j v new t f) (next_on graph op.remaining st) refl
  where
    by : (m : Move) → next_on graph op.remaining st ≡ m → alone_by (suc steps) graph op (next graph op) ≡ alone_by (suc steps) graph op m
    by m e = ap (alone_by (suc steps) graph op) (solo_next graph k op st s ∙ e)

    go : ((j : Key) (v : Record) (new : Holdings) → OneUnfinished graph j v new → moves_left v.remaining new ≤ steps → Finishing graph j v steps) → (m : Move) → next_on graph op.remaining st ≡ m → Finishing graph k op (suc steps)
    go rest (Takes n) e =
        let a : Advanced graph k op st (took op n) = solo_took graph is k op n st s (takes_by graph op n st s.on e) in
        further graph k op (took op n) st steps (suc steps) a (rest (k ++ a.r) (took op n) a.new a.solo (one_less (moves_left (took op n).remaining a.new) (moves_left op.remaining st) steps a.less few)) (by (Takes n) e)
    go rest (Leaves n) e =
        let a : Advanced graph k op st (left_alone op) = solo_left graph k op n st s (held_on_move graph op.remaining st n e) in
        further graph k op (left_alone op) st steps (suc steps) a (rest (k ++ a.r) (left_alone op) a.new a.solo (one_less (moves_left (left_alone op).remaining a.new) (moves_left op.remaining st) steps a.less few)) (by (Leaves n) e)
    go rest (Finishes o) e = ended_here graph k op st (suc steps) o s e (by (Finishes o) e)
    go rest Ends e = absurd (on_ends graph op.remaining st e)
