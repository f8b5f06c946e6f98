-- The call to help is the one that the machine chooses; where there is none, no walking call is below.
use Rattle.std.proofs.Common.{◌≡◌, ℕ, zero, suc, ◌+◌, ◌<◌, ◌≤◌, List, [], ◌∷◌, ◌++◌, Option, Some, None, length, length-append, refl, sym, ap, ◌∙◌, arith, subst, inl}
use Rattle.std.specs.Prelude.{slice_get, is_some, MatchOption}
use Rattle.fs_names.specs.Keys.{Key}
use Rattle.fs_calls.specs.declared.reply.Reply.{Reply}
use Rattle.fs_nodes.specs.Graphs.{Graph, at, numbers}
use Rattle.fs_nodes.specs.Stores.{graph_of, child}
use Rattle.fs_locks.specs.Holding.{holder, room}
use Rattle.fs_machine.specs.Records.{Holdings, Walking, Record}
use Rattle.fs_machine.specs.OpValues.{phase_of, record_of}
use Rattle.fs_laws.specs.Invariants.{Invariant}
use Rattle.fs_machine.specs.States.{IsWalkingBelow, IsWalkingBelowMoved, IsLowest, NoneBelow, Run}
use Rattle.fs_machine.specs.declared.moves.Moved.{Moved}
use Rattle.fs_laws.proofs.states.Headline.{run_keeps}
use Rattle.fs_laws.proofs.graphs.Walks.{at_from}
use Rattle.fs_core_seats.specs.declared.seat.Running.{Running}
use Rattle.fs_core.specs.code.Helping.{Helps}
use Rattle.fs_core.specs.CoreValues.{CoreValue, state_of}
use Rattle.fs_core_seats.specs.Seats.{number_on, records}
use Rattle.fs_core_seats.specs.code.Searches.{AreBelow}
use Rattle.fs_core.specs.code.Rooms.{IsKept}
use Rattle.fs_core_seats.specs.code.Orders.{AreListed}
use Rattle.fs_core_seats.specs.code.Searches.{position_of, position_on, IsUnder, IsUnderMoved, IsAlone, IsLowestOn, HasLeast, IsRooted, CanSearch}
use Rattle.fs_core_seats.proofs.Below.{key_within}
use Rattle.fs_core_seats.proofs.SeatLemmas.{number_read, Comes, record_comes}
use Rattle.fs_core_seats.proofs.Searching.{under_within}
use Rattle.fs_core_seats.proofs.Ways.{walks_on}
use Rattle.fs_core.proofs.States.{apart_of, call_on}
use Rattle.fs_core.proofs.Steps.{walks_phase}

-- a walking call at a node
pub record Walks (r : Running) (n : ℕ) : Type 0 where
  pub unplaced : r.place ≡ None
  pub unanswered : r.op.reply ≡ None
  pub holdings : Holdings
  pub on : r.op.holdings ≡ Some holdings
  pub here : holdings.node ≡ n

pub walks_at : (r : Running) (n : ℕ) → position_of (Some r) ≡ Some n → Walks r n
walks_at r n e = go r.place r.op.reply r.op.holdings refl refl refl e
  where
    go : (p : Option ℕ) (q : Option Reply) (s : Option Holdings) → r.place ≡ p → r.op.reply ≡ q → r.op.holdings ≡ s → position_of (Some (record { call = r.call; place = p; op = record r.op { reply = q; holdings = s } })) ≡ Some n → Walks r n
    go (Some i) q s f g h j = cc
    go None (Some x) s f g h j = cc
    go None None None f g h j = cc
    go None None (Some st) f g h j = record { unplaced = f; unanswered = g; holdings = st; on = h; here = let z : st.node ≡ n = cc in z }

pub position_at : (r : Running) (st : Holdings) → r.place ≡ None → r.op.reply ≡ None → r.op.holdings ≡ Some st → position_of (Some r) ≡ Some st.node
position_at r st e f g =
    ap (λ (p : Option ℕ). position_of (Some (record r { place = p }))) e
    ∙ ap (λ (q : Option Reply). position_of (Some (record r { place = None; op = record r.op { reply = q } }))) f
    ∙ ap (λ (s : Option Holdings). position_of (Some (record r { place = None; op = record r.op { reply = None; holdings = s } }))) g

walks_by : (p : Option ℕ) (q : Option Reply) → phase_of p q ≡ Walking → (p ≡ None) × (q ≡ None)
walks_by None None e = (refl, refl)
walks_by (Some i) None e = cc
walks_by None (Some r) e = cc
walks_by (Some i) (Some r) e = cc

-- on its seat and by its number
pub under_walks : (m : CoreValue) (s seat : ℕ) → Run (state_of m) → (u : IsUnder (child m.store) m.seats s seat) → IsWalkingBelow (state_of m) s u.running.call
under_walks m s seat run u =
    let w : Walks u.running u.node = walks_at u.running u.node u.position in (
      record_of seat u.running.place u.running.op,
      call_on m seat u.running run u.on,
      walks_phase u.running w.unplaced w.unanswered,
      (w.holdings, u.reached.0, w.on, u.reached.1 ∙ ap (λ (n : ℕ). Some n) (sym w.here)),
    )

-- the same below a node that would be moved
pub moved_walks : (m : CoreValue) (moved : Moved) (seat : ℕ) → Run (state_of m) → (u : IsUnderMoved (child m.store) m.seats moved seat) → IsWalkingBelowMoved (state_of m) moved u.running.call
moved_walks m moved seat run u =
    (u.reached.0, u.reached.1, under_walks m u.reached.0 seat run (record { running = u.running; node = u.node; on = u.on; position = u.position; reached = (u.reached.2.0, u.reached.2.1) }))

pub record Found (m : CoreValue) (s d : ℕ) : Type 0 where
  pub seat : ℕ
  pub under : IsUnder (child m.store) m.seats s seat
  pub number : under.running.call ≡ d

pub walks_under : (m : CoreValue) (s d : ℕ) → IsWalkingBelow (state_of m) s d → Found m s d
walks_under m s d (op, is, phase, (st, key, on, here)) =
    let c : Comes 0 m.seats d op = record_comes m.seats d op is in
    let w : (c.running.place ≡ None) × (c.running.op.reply ≡ None) = walks_by c.running.place c.running.op.reply (sym (ap (λ (o : Record). o.phase) c.is) ∙ phase) in
    record {
      seat = c.seat;
      under = record { running = c.running; node = st.node; on = c.on; position = position_at c.running st w.0 w.1 (sym (ap (λ (o : Record). o.holdings) c.is) ∙ on); reached = (key, here) };
      number = c.number;
    }

pub record FoundMoved (m : CoreValue) (moved : Moved) (d : ℕ) : Type 0 where
  pub seat : ℕ
  pub under : IsUnderMoved (child m.store) m.seats moved seat
  pub number : under.running.call ≡ d

pub walks_moved : (m : CoreValue) (moved : Moved) (d : ℕ) → IsWalkingBelowMoved (state_of m) moved d → FoundMoved m moved d
walks_moved m moved d (s, one, below) =
    let f : Found m s d = walks_under m s d below in
    record { seat = f.seat; under = record { running = f.under.running; node = f.under.node; on = f.under.on; position = f.under.position; reached = (s, one, f.under.reached) }; number = f.number }

-- the records of one number, and the calls of one seat
same_record : (m : CoreValue) (d : ℕ) (op q : Record) → records m.seats d ≡ Some op → records m.seats d ≡ Some q → op ≡ q
same_record m d op q e f = let z : ◌≡◌ {A = Option Record} (Some op) (Some q) = sym e ∙ f in cc

same_holdings : (op : Record) (st other : Holdings) → op.holdings ≡ Some st → op.holdings ≡ Some other → st ≡ other
same_holdings op st other e f = let z : ◌≡◌ {A = Option Holdings} (Some st) (Some other) = sym e ∙ f in cc

same_running : (m : CoreValue) (seat : ℕ) (r q : Running) → slice_get m.seats seat ≡ Some (Some r) → slice_get m.seats seat ≡ Some (Some q) → r ≡ q
same_running m seat r q e f = let z : ◌≡◌ {A = Option (Option Running)} (Some (Some r)) (Some (Some q)) = sym e ∙ f in cc

-- a lowest call on its seat and by its number
pub lowest_walks : (m : CoreValue) (moved : Moved) (seat : ℕ) → Run (state_of m) → (l : IsLowestOn (child m.store) m.seats moved seat) → IsLowest (state_of m) moved l.under.running.call
lowest_walks m moved seat run l = (moved_walks m moved seat run l.under, other)
  where
    u : IsUnderMoved (child m.store) m.seats moved seat
    u = l.under

    w : Walks u.running u.node
    w = walks_at u.running u.node u.position

    other : (op : Record) (st : Holdings) (e : ℕ) → records m.seats u.running.call ≡ Some op → op.holdings ≡ Some st → (u.running.call ≡ e → ⊥) → IsWalkingBelow (state_of m) st.node e → ⊥
    other op st e is on differs below =
        let z : op ≡ record_of seat u.running.place u.running.op = same_record m u.running.call op _ is (call_on m seat u.running run u.on) in
        let y : st ≡ w.holdings = same_holdings (record_of seat u.running.place u.running.op) st w.holdings (sym (ap (λ (o : Record). o.holdings) z) ∙ on) w.on in
        let f : Found m st.node e = walks_under m st.node e below in
        l.alone f.seat (λ i. differs (ap (λ (r : Running). r.call) (same_running m f.seat u.running f.under.running (subst (λ (j : ℕ). slice_get m.seats j ≡ Some (Some u.running)) i u.on) f.under.on) ∙ f.number))
        (subst (λ (n : ℕ). IsUnder (child m.store) m.seats n f.seat) (ap (λ (t : Holdings). t.node) y ∙ w.here) f.under)

pub record FoundLowest (m : CoreValue) (moved : Moved) (d : ℕ) : Type 0 where
  pub seat : ℕ
  pub lowest : IsLowestOn (child m.store) m.seats moved seat
  pub number : number_on m.seats seat ≡ Some d

pub walks_lowest : (m : CoreValue) (moved : Moved) (d : ℕ) → Run (state_of m) → IsLowest (state_of m) moved d → FoundLowest m moved d
walks_lowest m moved d run l =
    record { seat = f.seat; lowest = record { under = f.under; alone = alone }; number = number_read m.seats f.seat (Some f.under.running) f.under.on ∙ ap (λ (n : ℕ). Some n) f.number }
  where
    f : FoundMoved m moved d
    f = walks_moved m moved d l.0

    w : Walks f.under.running f.under.node
    w = walks_at f.under.running f.under.node f.under.position

    alone : IsAlone (child m.store) m.seats f.under.node f.seat
    alone k differs u =
        l.1 (record_of f.seat f.under.running.place f.under.running.op) w.holdings u.running.call (ap (records m.seats) (sym f.number) ∙ call_on m f.seat f.under.running run f.under.on) w.on
        (λ e. differs (apart_of m run f.seat k f.under.running u.running f.under.on u.on (f.number ∙ e)))
        (subst (λ (n : ℕ). IsWalkingBelow (state_of m) n u.running.call) (sym w.here) (under_walks m f.under.node k run u))

-- where no call is lowest, none is below: else one of them would be deepest
pub none_below : (m : CoreValue) (moved : Moved) → Run (state_of m) → AreBelow (graph_of m.store) (room m.holding) → ((e : ℕ) → IsLowest (state_of m) moved e → ⊥) → (d : ℕ) → IsWalkingBelowMoved (state_of m) moved d → ⊥
none_below m moved run roomy none d below = go (room m.holding) d below (omega arith)
  where
    inv : Invariant (state_of m)
    inv = run_keeps (state_of m) run

    graph : Graph
    graph = graph_of m.store

    here : (c : ℕ) (op : Record) (st : Holdings) → records m.seats c ≡ Some op → op.holdings ≡ Some st → numbers graph (inv.key c) ≡ Some st.node
    here c op st is on = (inv.kept.each c op st is on).located.here

    longer : (d e : ℕ) (op q : Record) (st other : Holdings) (key : Key) → records m.seats d ≡ Some op → op.holdings ≡ Some st → records m.seats e ≡ Some q → q.holdings ≡ Some other → (d ≡ e → ⊥) → at graph.child st.node key ≡ Some other.node
        → length (inv.key d) < length (inv.key e)
    longer d e op q st other [] is on is_q on_q differs key_is =
        let z : ◌≡◌ {A = Option ℕ} (Some d) (Some e) = sym (inv.held d op st st.node is on (inl refl)) ∙ inv.held e q other st.node is_q on_q (inl (let y : st.node ≡ other.node = cc in sym y)) in absurd (differs cc)
    longer d e op q st other (x ∷ key) is on is_q on_q differs key_is =
        let k : inv.key e ≡ inv.key d ++ x ∷ key = inv.kept.one_key (inv.key e) (inv.key d ++ x ∷ key) other.node (here e q other is_q on_q) (at_from graph.child 0 st.node (inv.key d) (x ∷ key) (here d op st is on) ∙ key_is) in
        let l : length (inv.key e) ≡ length (inv.key d) + length (x ∷ key) = ap length k ∙ length-append (inv.key d) (x ∷ key) in
        let n : length (x ∷ key) ≡ length key + 1 = omega arith in
        omega (arith, l, n)

    go : (fuel : ℕ) (d : ℕ) → IsWalkingBelowMoved (state_of m) moved d → room m.holding ≤ length (inv.key d) + fuel → ⊥
    go zero d (s, one, (op, is, phase, (st, key, on, at_key))) enough =
        let l : length (inv.key d) < room m.holding = key_within graph (room m.holding) inv.is_graph roomy (inv.key d) st.node (here d op st is on) in absurd (omega (arith, l, enough))
    go (suc fuel) d (s, one, (op, is, phase, (st, key, on, at_key))) enough = none d (
      (s, one, (op, is, phase, (st, key, on, at_key))),
      λ p other e is_p on_p differs (q, is_q, phase_q, (st_q, key_q, on_q, at_q)).
          let z : p ≡ op = same_record m d p op is_p is in
          let y : other ≡ st = same_holdings op other st (sym (ap (λ (o : Record). o.holdings) z) ∙ on_p) on in
          let reach : at graph.child st.node key_q ≡ Some st_q.node = ap (λ (t : Holdings). at graph.child t.node key_q) (sym y) ∙ at_q in
          let more : length (inv.key d) < length (inv.key e) = longer d e op q st st_q key_q is on is_q on_q differs reach in
          go fuel e (s, one, (q, is_q, phase_q, (st_q, key ++ key_q, on_q, at_from graph.child s st.node key key_q at_key ∙ reach))) (omega (arith, more, enough)),
    )

-- a walking call on its seat: it holds its position
standing : (m : CoreValue) (seat n : ℕ) → Run (state_of m) → position_on m.seats seat ≡ Some n → (r : Running) × (slice_get m.seats seat ≡ Some (Some r)) × IsRooted (graph_of m.store) n × (holder m.holding n ≡ Some r.call)
standing m seat n run e =
    let x : (r : Running) × (slice_get m.seats seat ≡ Some (Some r)) × (position_of (Some r) ≡ Some n) = walks_on m.seats seat n e in
    let w : Walks x.0 n = walks_at x.0 n x.2 in
    let is : records m.seats x.0.call ≡ Some (record_of seat x.0.place x.0.op) = call_on m seat x.0 run x.1 in
    let inv : Invariant (state_of m) = run_keeps (state_of m) run in (
      x.0,
      x.1,
      (inv.key x.0.call, (inv.kept.each x.0.call (record_of seat x.0.place x.0.op) w.holdings is w.on).located.here ∙ ap (λ (k : ℕ). Some k) w.here),
      inv.held x.0.call (record_of seat x.0.place x.0.op) w.holdings n is w.on (inl w.here),
    )

-- what a search needs
pub can_search : (m : CoreValue) (b k p : ℕ) (listed : List ℕ) → IsKept m b k p → AreListed m.seats listed → CanSearch m.store m.holding m.seats listed
can_search m b k p listed kept all = record {
  graph = (run_keeps (state_of m) kept.run).is_graph;
  within = kept.roomy;
  all = all;
  rooted = λ seat n e. (standing m seat n kept.run e).2;
  held = λ seat n e. ap is_some (standing m seat n kept.run e).3;
  apart = apart;
}
  where
    same_call : (n c d : ℕ) → holder m.holding n ≡ Some c → holder m.holding n ≡ Some d → c ≡ d
    same_call n c d e f = let z : ◌≡◌ {A = Option ℕ} (Some c) (Some d) = sym e ∙ f in cc

    apart : (seat other n : ℕ) → position_on m.seats seat ≡ Some n → position_on m.seats other ≡ Some n → seat ≡ other
    apart seat other n e f =
        let x : (r : Running) × (slice_get m.seats seat ≡ Some (Some r)) × IsRooted (graph_of m.store) n × (holder m.holding n ≡ Some r.call) = standing m seat n kept.run e in
        let y : (r : Running) × (slice_get m.seats other ≡ Some (Some r)) × IsRooted (graph_of m.store) n × (holder m.holding n ≡ Some r.call) = standing m other n kept.run f in
        apart_of m kept.run seat other x.0 y.0 x.1 y.1 (same_call n x.0.call y.0.call x.3 y.3)

-- what it finds
pub chosen_by : (m : CoreValue) (moved : Moved) (seat : ℕ) → Run (state_of m) → HasLeast (child m.store) m.seats moved (length m.seats) (Some seat) → Helps m moved seat
chosen_by m moved seat run h =
    let l : IsLowestOn (child m.store) m.seats moved seat = h.1 in
    let w : Walks l.under.running l.under.node = walks_at l.under.running l.under.node l.under.position in
    record {
      running = l.under.running;
      on = l.under.on;
      unplaced = w.unplaced;
      unanswered = w.unanswered;
      chosen = (
        lowest_walks m moved seat run l,
        λ e low.
            let f : FoundLowest m moved e = walks_lowest m moved e run low in
            h.2 f.seat l.under.running.call e (under_within (child m.store) m.seats moved f.seat f.lowest.under) f.lowest (number_read m.seats seat (Some l.under.running) l.under.on) f.number,
      );
    }

pub none_by : (m : CoreValue) (moved : Moved) → Run (state_of m) → AreBelow (graph_of m.store) (room m.holding) → HasLeast (child m.store) m.seats moved (length m.seats) None → NoneBelow (state_of m) moved
none_by m moved run roomy h = none_below m moved run roomy (λ e low.
    let f : FoundLowest m moved e = walks_lowest m moved e run low in
    h f.seat (under_within (child m.store) m.seats moved f.seat f.lowest.under) f.lowest)

pub helps_by : (m : CoreValue) (b k p : ℕ) (moved : Moved) → IsKept m b k p → (o : Option ℕ) → HasLeast (child m.store) m.seats moved (length m.seats) o → MatchOption o (NoneBelow (state_of m) moved) (λ other. Helps m moved other)
helps_by m b k p moved kept None h = none_by m moved kept.run kept.roomy h
helps_by m b k p moved kept (Some seat) h = chosen_by m moved seat kept.run h

-- the same of a list that the seats are
pub search_by : (m : CoreValue) (b k p : ℕ) (seats : List (Option Running)) (listed : List ℕ) → IsKept m b k p → AreListed m.seats listed → seats ≡ m.seats → CanSearch m.store m.holding seats listed
search_by m b k p seats listed kept all e = subst (λ (xs : List (Option Running)). CanSearch m.store m.holding xs listed) (sym e) (can_search m b k p listed kept all)

pub chosen_if : (m : CoreValue) (b k p : ℕ) (seats : List (Option Running)) → IsKept m b k p → seats ≡ m.seats → (moved : Moved) (o : Option ℕ) → HasLeast (child m.store) seats moved (length seats) o → MatchOption o (NoneBelow (state_of m) moved) (λ other. Helps m moved other)
chosen_if m b k p seats kept e moved o h = helps_by m b k p moved kept o (subst (λ (xs : List (Option Running)). HasLeast (child m.store) xs moved (length xs) o) e h)
