-- Who waits for a call that waits stands above it, and so somebody goes on.
use Rattle.std.proofs.Common.{◌≡◌, ℕ, zero, suc, ◌+◌, ◌≤◌, List, [], ◌∷◌, ◌++◌, length, Option, Some, None, refl, sym, ap, ◌∙◌, append-nil, subst, ◌⊎◌, inl, inr, arith}
use Rattle.std.proofs.lemmas.List.{length-append}
use Rattle.fs_names.specs.Keys.{Key, last_of}
use Rattle.fs_names.specs.Names.{Name}
use Rattle.fs_names.specs.Parts.{HasNames}
use Rattle.fs_calls.specs.Forms.{by_paths}
use Rattle.fs_calls.specs.declared.reply.Reply.{Reply}
use Rattle.fs_calls.specs.Graphs.{numbers}
use Rattle.fs_machine.specs.Moves.{next, next_on}
use Rattle.fs_machine.specs.declared.moves.Move.{Move}
use Rattle.fs_machine.specs.declared.moves.Move.TheVariants.{Take as Takes, LetGo as Leaves, Finish as Finishes, Return as Ends}
use Rattle.fs_machine.specs.declared.moves.Moved.{Moved}
use Rattle.fs_machine.specs.declared.moves.Moved.TheVariants.{Nothing, One, Two}
use Rattle.fs_machine.specs.Records.{Walking, Placed, Finished, Holds, Record, Holdings, Dest, head_on, Side, of_side, head_on, Source}
use Rattle.fs_timeline.specs.Timeline.{begins}
use Rattle.fs_laws.specs.Invariants.{IsUnfinished, Invariant}
use Rattle.fs_laws.specs.Progress.{WaitsFor, WaitsBelow, GoesOn, SomebodyGoesOn, IsNeverStuck, HasStep}
use Rattle.fs_laws.specs.CallFacts.{Located, Pair}
use Rattle.fs_machine.specs.States.{State, Run, IsMoved, NoneBelow, IsChosen, Step, taking, letting_go, helping, carrying, committing, returning}
use Rattle.fs_machine.specs.declared.answers.Stepped.{Stepped}
use Rattle.fs_machine.specs.declared.answers.Stepped.TheVariants.{Idle, Took, Busy, LetGo, Helped, Committed, CarriedOut, Returned}
use Rattle.fs_laws.proofs.graphs.Walks.{at_child, at_from}
use Rattle.fs_laws.proofs.states.WaitsForOneBelow.{Keeps_waiting, waits_below}
use Rattle.fs_laws.proofs.calls.NodesHeld.{node_held, none_some, one_holdings}
use Rattle.fs_laws.proofs.states.ComputedSteps.{by_ends}
use Rattle.fs_laws.proofs.events.Take.{TakesFrom, From_nowhere, From_holdings, takes_from}
use Rattle.fs_laws.proofs.states.Headline.{run_keeps}
use Rattle.fs_laws.proofs.calls.Takes.{Entry, Of_head, Replaced, Take, Walk, There, take_closed, takes_by}
use Rattle.fs_laws.proofs.calls.HeadOrder.{no_victim}
use Rattle.fs_laws.proofs.states.Agreement.{StateFacts, Holder, run_accounts}
use Rattle.fs_laws.proofs.calls.NextMoves.{takes_another}
use Rattle.fs_laws.proofs.states.GraphOfARun.{begun_before, call_seat, finishes_open}
use Rattle.fs_laws.proofs.helping.NobodyEnters.{moved_on, side_of, ToMove, to_move}
use Rattle.fs_laws.proofs.helping.WhomToHelp.{within_total, IsOneOf, AreKeys, chosen_or_none}
use Rattle.fs_laws.specs.StepsLeft.{total}

-- a call that wants a node holds others as its position or as its heads' nodes
holds_waiting : (s : State) (inv : Invariant s) (acc : StateFacts s) (c : ℕ) (op : Record) (m n : ℕ) (st : Holdings) → s.ops c ≡ Some op → IsUnfinished op → op.holdings ≡ Some st → Take s.graph op m st → Holds st n → Keeps_waiting st n
holds_waiting s inv acc c op m n st is u on t h = go h
  where
    go : Holds st n → Keeps_waiting st n
    go (inl i) = inl i
    go (inr (inl i)) = none_some st.behind n (take_closed t) i
    go (inr (inr (inl i))) = inr (inl i)
    go (inr (inr (inr (inl i)))) = inr (inr i)
    go (inr (inr (inr (inr i)))) = none_some st.victim n (no_victim s.graph op m st ((acc.neat c op st is on).under_way u) ((inv.own c op is).victim u st on) t) i

-- where the wanted node is: one name below a node that the call holds at its position or below
record Below (s : State) (k : Key) (st : Holdings) (n : ℕ) : Type 0 where
  pub w : Key
  pub m : ℕ
  pub x : Name
  pub at_m : numbers s.graph (k ++ w) ≡ Some m
  pub held : Holds st m
  pub at_n : numbers s.graph ((k ++ w) ++ x ∷ []) ≡ Some n

wants_below : (s : State) (inv : Invariant s) (c : ℕ) (op : Record) (n : ℕ) (st : Holdings) → s.ops c ≡ Some op → op.holdings ≡ Some st → Take s.graph op n st → Below s (inv.key c) st n
wants_below s inv c op n st is on t = go t
  where
    loc : Located (numbers s.graph) (inv.key c) st
    loc = (inv.kept.each c op st is on).located

    of : (w : Key) (m : ℕ) (x : Name) → numbers s.graph (inv.key c ++ w) ≡ Some m → Holds st m → s.graph.child m x ≡ Some n → Below s (inv.key c) st n
    of w m x e h child = record { w = w; m = m; x = x; at_m = e; held = h; at_n = at_child s.graph.child 0 m (inv.key c ++ w) x e ∙ child }

    here : numbers s.graph (inv.key c ++ []) ≡ Some st.node
    here = ap (numbers s.graph) (append-nil (inv.key c)) ∙ loc.here

    go : Take s.graph op n st → Below s (inv.key c) st n
    go (Walk x l way b child t_is) = of [] st.node x here (inl refl) child
    go (There (Entry e p rem way child off) b t_is) = of [] st.node (last_of p) here (inl refl) child
    go (There (Of_head side pair p q x l rem way turn at_left child) b t_is) = of (head_on side st).walked (head_on side st).node x (loc.head side) (node_held side (numbers s.graph) (inv.key c) st loc) child
    go (There (Replaced most p q rem way there at_left want child off) b t_is) = of st.dest.walked st.dest.node (last_of q) (loc.head Dest) (node_held Dest (numbers s.graph) (inv.key c) st loc) child

-- of two calls that wait, the first for the second, by their keys
waits_key : (s : State) (run : Run s) (c d e : ℕ) (op q : Record) (st other : Holdings) → WaitsFor s c d op → op.holdings ≡ Some st → WaitsFor s d e q → q.holdings ≡ Some other → (r : Key) × HasNames r × ((run_keeps s run).key d ≡ (run_keeps s run).key c ++ r)
waits_key s run c d e op q st other a on b on_q = go (takes_from s.graph op a.node a.wants) (takes_from s.graph q b.node b.wants) ((run_accounts s run).holds a.node d a.held)
  where
    inv : Invariant s
    inv = run_keeps s run

    differs : c ≡ d → ⊥
    differs i = takes_another s c op a.node run a.is a.wants (a.held ∙ ap (λ (x : ℕ). Some x) (sym i))

    pair : Pair (numbers s.graph) ((run_keeps s run).key c) st op.phase ((run_keeps s run).key d) other q.phase
    pair = (run_keeps s run).kept.pairs c d op q st other differs a.is b.is on on_q

    back : Pair (numbers s.graph) ((run_keeps s run).key d) other q.phase ((run_keeps s run).key c) st op.phase
    back = (run_keeps s run).kept.pairs d c q op other st (λ i. differs (sym i)) b.is a.is on_q on

    holds : Holder s a.node d → Holds other a.node
    holds (r, t, is, on_t, h) =
        let z : ◌≡◌ {A = Option Record} (Some r) (Some q) = sym is ∙ b.is in
        let y : r ≡ q = cc in
        subst (λ (x : Holdings). Holds x a.node) (one_holdings (ap (λ (o : Record). o.holdings) (sym y) ∙ on_t) on_q) h

    go : TakesFrom s.graph op a.node × IsUnfinished op → TakesFrom s.graph q b.node × IsUnfinished q → Holder s a.node d → (r : Key) × HasNames r × ((run_keeps s run).key d ≡ (run_keeps s run).key c ++ r)
    go (From_nowhere text off z, u) t h = let y : ◌≡◌ {A = Option Holdings} None (Some st) = sym off ∙ on in cc
    go (From_holdings x on_x m, u) (From_nowhere text off z, v) h = let y : ◌≡◌ {A = Option Holdings} None (Some other) = sym off ∙ on_q in cc
    go (From_holdings x on_x m, u) (From_holdings y on_y n, v) h =
        let w : Below s ((run_keeps s run).key c) st a.node = wants_below s (run_keeps s run) c op a.node st a.is on (takes_by s.graph op a.node st on (subst (λ (z : Holdings). next_on s.graph op.remaining z ≡ Takes a.node) (one_holdings on_x on) m)) in
        let keeps : Keeps_waiting other a.node = holds_waiting s (run_keeps s run) (run_accounts s run) d q b.node a.node other b.is v on_q (takes_by s.graph q b.node other on_q (subst (λ (z : Holdings). next_on s.graph q.remaining z ≡ Takes b.node) (one_holdings on_y on_q) n)) (holds h) in
        let r : (r : Key) × (HasNames r × ((run_keeps s run).key d ≡ (run_keeps s run).key c ++ r)) =
        waits_below (numbers s.graph) (run_keeps s run).is_graph.one_key ((run_keeps s run).key c) w.w st ((run_keeps s run).key d) other w.m a.node w.x
        ((run_keeps s run).kept.each c op st a.is on).located ((run_keeps s run).kept.each d q other b.is on_q).located
        w.at_m w.held w.at_n (λ k f g. pair.apart k g f) (back.clear Source) (back.clear Dest) keeps in
        (r.0, r.1.0, r.1.1)

-- a call that holds a node stands somewhere
holder_stands : (s : State) → Run s → (n d : ℕ) → s.holder n ≡ Some d → (q : Record) × (st : Holdings) × (s.ops d ≡ Some q) × (q.holdings ≡ Some st)
holder_stands s run n d e = let h : Holder s n d = (run_accounts s run).holds n d e in (h.0, h.1, h.2, h.3)

pub waits_above : (s : State) → Run s → WaitsBelow s
waits_above s run c d e op q a b =
    let h : (r : Record) × (st : Holdings) × (s.ops d ≡ Some r) × (r.holdings ≡ Some st) = holder_stands s run a.node d a.held in
    let z : ◌≡◌ {A = Option Record} (Some h.0) (Some q) = sym h.2 ∙ b.is in
    let y : h.0 ≡ q = cc in
    let on_q : q.holdings ≡ Some h.1 = ap (λ (o : Record). o.holdings) (sym y) ∙ h.3 in (
      h.1,
      on_q,
      λ st on.
          (let k : (r : Key) × HasNames r × ((run_keeps s run).key d ≡ (run_keeps s run).key c ++ r) = waits_key s run c d e op q st h.1 a on b on_q in
          let here : numbers s.graph ((run_keeps s run).key c) ≡ Some st.node = ((run_keeps s run).kept.each c op st a.is on).located.here in
          let there : numbers s.graph ((run_keeps s run).key d) ≡ Some h.1.node = ((run_keeps s run).kept.each d q h.1 b.is on_q).located.here in
          (k.0, k.1, sym (at_from s.graph.child 0 st.node ((run_keeps s run).key c) k.0 here) ∙ ap (numbers s.graph) (sym k.2) ∙ there)),
    )

-- what a call's step does: it goes on, or waits
pub data Does (s : State) (c : ℕ) (op : Record) : Type 0 where
  AtNode : (answer : Stepped) (new : State) → Step s op.seat answer new → GoesOn answer → Does s c op
  Waiting : (n d : ℕ) → next s.graph op ≡ Takes n → s.holder n ≡ Some d → Does s c op

-- whom to help, where a call is to finish
none_or_chosen : (s : State) → Run s → (c : ℕ) (op : Record) (o : Moved) → s.ops c ≡ Some op → next s.graph op ≡ Finishes o → NoneBelow s o ⊎ ((d : ℕ) × IsChosen s o d)
none_or_chosen s run c op o is m = let k : (ks : List Key) × AreKeys s ks o = keys o moved_key in chosen_or_none s run k.0 o k.1
  where
    inv : Invariant s
    inv = run_keeps s run

    moved_key : (n : ℕ) → IsMoved o n → (k : Key) × (numbers s.graph k ≡ Some n)
    moved_key n one =
        let on : (side : Side) × (moved_on o side ≡ Some n) = side_of o n one in
        let t : ToMove s.graph op on.0 n = to_move s.graph op o on.0 n m on.1 in (
          inv.key c ++ (head_on on.0 t.st).walked ++ last_of (of_side on.0 t.p t.q) ∷ [],
          at_child s.graph.child 0 (head_on on.0 t.st).node (inv.key c ++ (head_on on.0 t.st).walked) (last_of (of_side on.0 t.p t.q)) ((inv.kept.each c op t.st is t.on).located.head on.0) ∙ t.child,
        )

    keys : (o : Moved) → ((n : ℕ) → IsMoved o n → (k : Key) × (numbers s.graph k ≡ Some n)) → (ks : List Key) × AreKeys s ks o
    keys Nothing at_key = ([], record { each = λ k i. absurd i; all = λ n i. absurd i })
    keys (One n) at_key = (first.0 ∷ [], record { each = each; all = λ p i. (first.0, inl refl, first.1 ∙ ap (λ (x : ℕ). Some x) (sym i)) })
      where
        first : (k : Key) × (numbers s.graph k ≡ Some n)
        first = at_key n refl

        each : (k : Key) → IsOneOf k (first.0 ∷ []) → (p : ℕ) × IsMoved (One n) p × (numbers s.graph k ≡ Some p)
        each k (inl i) = (n, refl, ap (numbers s.graph) i ∙ first.1)
        each k (inr i) = absurd i
    keys (Two n p) at_key = (first.0 ∷ second.0 ∷ [], record { each = each; all = all })
      where
        first : (k : Key) × (numbers s.graph k ≡ Some n)
        first = at_key n (inl refl)

        second : (k : Key) × (numbers s.graph k ≡ Some p)
        second = at_key p (inr refl)

        each : (k : Key) → IsOneOf k (first.0 ∷ second.0 ∷ []) → (q : ℕ) × IsMoved (Two n p) q × (numbers s.graph k ≡ Some q)
        each k (inl i) = (n, inl refl, ap (numbers s.graph) i ∙ first.1)
        each k (inr (inl i)) = (p, inr refl, ap (numbers s.graph) i ∙ second.1)
        each k (inr (inr i)) = absurd i

        all : (q : ℕ) → IsMoved (Two n p) q → (k : Key) × IsOneOf k (first.0 ∷ second.0 ∷ []) × (numbers s.graph k ≡ Some q)
        all q (inl i) = (first.0, inl refl, first.1 ∙ ap (λ (x : ℕ). Some x) (sym i))
        all q (inr i) = (second.0, inr (inl refl), second.1 ∙ ap (λ (x : ℕ). Some x) (sym i))

pub does_step : (s : State) → Run s → (c : ℕ) (op : Record) → s.ops c ≡ Some op → Does s c op
does_step s run c op is = go (next s.graph op) refl
  where
    on : s.on_seat op.seat ≡ Some c
    on = call_seat s c op run is

    takes : (n : ℕ) → next s.graph op ≡ Takes n → (h : Option ℕ) → s.holder n ≡ h → Does s c op
    takes n m None e = AtNode (Took n) (taking s c op n) (c, op, (on, is, m), e, refl) tt
    takes n m (Some d) e = Waiting n d m e

    finishes : (o : Moved) → next s.graph op ≡ Finishes o → NoneBelow s o ⊎ ((d : ℕ) × IsChosen s o d) → (op.phase ≡ Walking) ⊎ ((i : ℕ) × (op.phase ≡ Placed i)) → Does s c op
    finishes o m below (inr (i, placed)) = AtNode CarriedOut (carrying s c op) (c, op, o, i, (on, is, m), placed, refl) tt
    finishes o m (inl none) (inl walks) = AtNode Committed (committing s c op) (c, op, o, (on, is, m), walks, none, refl) tt
    finishes o m (inr (d, (((n, one, (q, is_q, q_walks, below)), lowest), least))) (inl walks) =
        AtNode (Helped d) (helping s d q) (c, op, o, (on, is, m), walks, (((n, one, (q, is_q, q_walks, below)), lowest), least), q, is_q, refl) tt

    go : (move : Move) → next s.graph op ≡ move → Does s c op
    go (Takes n) m = takes n m (s.holder n) refl
    go (Leaves n) m = AtNode (LetGo n) (letting_go s c op n) (c, op, (on, is, m), refl) tt
    go (Finishes o) m = finishes o m (none_or_chosen s run c op o is m) (finishes_open s op o m)
    go Ends m = let r : (r : Reply) × (op.phase ≡ Finished r) = by_ends s.graph op (by_paths op.call) op.phase op.holdings m in AtNode (Returned r.0) (returning s c op r.0) (c, op, (on, is, m), r.1, refl) tt

-- each seat has a step
pub has_step : (s : State) → Run s → (seat : ℕ) → HasStep s seat
has_step s run seat = go (s.on_seat seat) refl
  where
    by : (c : ℕ) (op : Record) → s.ops c ≡ Some op → op.seat ≡ seat → Does s c op → HasStep s seat
    by c op is e (AtNode answer new st goes) = record { answer = answer; new = new; step = subst (λ (x : ℕ). Step s x answer new) e st }
    by c op is e (Waiting n d m held) = record { answer = Busy n d; new = s; step = (c, op, (ap s.on_seat (sym e) ∙ call_seat s c op run is, is, m), held, refl) }

    go : (o : Option ℕ) → s.on_seat seat ≡ o → HasStep s seat
    go None e = record { answer = Idle; new = s; step = (e, refl) }
    go (Some c) e = let w : (op : Record) × (s.ops c ≡ Some op) × (op.seat ≡ seat) = (run_keeps s run).seated seat c e in by c w.0 w.1 w.2 (does_step s run c w.0 w.1)

-- a call's step: it goes on, or it waits for a call that stands somewhere
pub data Next (s : State) (c : ℕ) (op : Record) : Type 0 where
  Now : SomebodyGoesOn s → Next s c op
  Then : (d : ℕ) (q : Record) (other : Holdings) → WaitsFor s c d op → s.ops d ≡ Some q → q.holdings ≡ Some other → Next s c op

next_of : (s : State) (run : Run s) (c : ℕ) (op : Record) → s.ops c ≡ Some op → Next s c op
next_of s run c op is = go (does_step s run c op is)
  where
    go : Does s c op → Next s c op
    go (AtNode answer new step h) = Now (record { seat = op.seat; answer = answer; new = new; step = step; goes_on = h })
    go (Waiting n d m held) =
        let h : (r : Record) × (st : Holdings) × (s.ops d ≡ Some r) × (r.holdings ≡ Some st) = holder_stands s run n d held in
        Then d h.0 h.1 (record { is = is; node = n; wants = m; held = held }) h.2 h.3

has_length : (r : Key) → HasNames r → 1 ≤ length r
has_length [] h = absurd h
has_length (x ∷ r) h = omega arith

-- who waits for a call that waits is less deep
deeper : (s : State) (run : Run s) (c d e : ℕ) (op q : Record) (st other : Holdings) → WaitsFor s c d op → op.holdings ≡ Some st → WaitsFor s d e q → q.holdings ≡ Some other → length ((run_keeps s run).key c) + 1 ≤ length ((run_keeps s run).key d)
deeper s run c d e op q st other a on b on_q =
    let k : (r : Key) × HasNames r × ((run_keeps s run).key d ≡ (run_keeps s run).key c ++ r) = waits_key s run c d e op q st other a on b on_q in
    let l : length ((run_keeps s run).key d) ≡ length ((run_keeps s run).key c) + length k.0 = ap length k.2 ∙ length-append ((run_keeps s run).key c) k.0 in
    let m : 1 ≤ length k.0 = has_length k.0 k.1 in
    omega (arith, l, m)

-- how far a call is from the deepest
abbrev Far : (s : State) → Run s → ℕ → ℕ → Type 0
Far s run c k = total (λ d. length ((run_keeps s run).key d)) (begins s.timeline) ≤ length ((run_keeps s run).key c) + k

too_deep : (s : State) (run : Run s) (c d : ℕ) (q : Record) → s.ops d ≡ Some q → Far s run c 0 → length ((run_keeps s run).key c) + 1 ≤ length ((run_keeps s run).key d) → ⊥
too_deep s run c d q is far more = let w : length ((run_keeps s run).key d) ≤ total (λ e. length ((run_keeps s run).key e)) (begins s.timeline) = within_total (λ e. length ((run_keeps s run).key e)) (begins s.timeline) d (begun_before s d q run is) in omega (arith, far, more, w)

nearer : (s : State) (run : Run s) (c d k : ℕ) → Far s run c (suc k) → length ((run_keeps s run).key c) + 1 ≤ length ((run_keeps s run).key d) → Far s run d k
nearer s run c d k far more = omega (arith, far, more)

-- from a call that waits, along those for which each waits, each deeper than the one before
climb : (k : ℕ) (s : State) (run : Run s) (c d : ℕ) (op q : Record) (st other : Holdings) → WaitsFor s c d op → op.holdings ≡ Some st → s.ops d ≡ Some q → q.holdings ≡ Some other → Far s run c k → Next s d q → SomebodyGoesOn s
climb k s run c d op q st other w on is on_q far (Now h) = h
climb zero s run c d op q st other w on is on_q far (Then e r another v is_e on_e) = absurd (too_deep s run c d q is far (deeper s run c d e op q st other w on v on_q))
climb (suc k) s run c d op q st other w on is on_q far (Then e r another v is_e on_e) = climb k s run d e q r other another v on_q is_e on_e (nearer s run c d k far (deeper s run c d e op q st other w on v on_q)) (next_of s run e r is_e)

pub never_stuck : (s : State) → Run s → IsNeverStuck s
never_stuck s run c op is = go (next_of s run c op is)
  where
    all : ℕ
    all = total (λ d. length ((run_keeps s run).key d)) (begins s.timeline)

    far : (d : ℕ) → Far s run d (total (λ e. length ((run_keeps s run).key e)) (begins s.timeline))
    far d = omega arith

    second : (d : ℕ) (q : Record) (other : Holdings) → s.ops d ≡ Some q → q.holdings ≡ Some other → Next s d q → SomebodyGoesOn s
    second d q other is_d on_d (Now h) = h
    second d q other is_d on_d (Then e r another v is_e on_e) = climb (total (λ x. length ((run_keeps s run).key x)) (begins s.timeline)) s run d e q r other another v on_d is_e on_e (far d) (next_of s run e r is_e)

    go : Next s c op → SomebodyGoesOn s
    go (Now h) = h
    go (Then d q other w is_d on_d) = second d q other is_d on_d (next_of s run d q is_d)
