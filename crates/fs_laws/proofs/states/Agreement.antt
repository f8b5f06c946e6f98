-- What every state of a run keeps besides: who is a node's holder stands at it, calls under way are on their seats, and numbers and sizes are within their limits.
use Rattle.std.proofs.Common.{◌≡◌, ℕ, ◌+◌, ◌<◌, Bool, true, false, List, [], ◌∷◌, Option, Some, None, refl, sym, ap, ◌∙◌, subst, arith, Ok, Err}
use Rattle.fs_names.specs.declared.limits.Limits.{Limits}
use Rattle.fs_calls.specs.Starts.{Start}
use Rattle.fs_names.specs.Keys.{Key}
use Rattle.fs_names.specs.Names.{Name}
use Rattle.fs_names.specs.Shapes.{Shape, Dir, File}
use Rattle.fs_calls.specs.Forms.{form, by_text, reserves, Form, AtNode, AtEntry, AtPair, by_paths, reserved_by, Mkdir, Mknod, Unlink, Rmdir}
use Rattle.fs_calls.specs.declared.call.Call.{Call}
use Rattle.fs_calls.specs.declared.reply.Reply.{Reply}
use Rattle.fs_calls.proofs.FormLemmas.{by_text_any, reserves_any}
use Rattle.fs_calls.specs.Graphs.{Graph, numbers, set_at, released_in, reserved_in}
use Rattle.fs_machine.specs.Finishes.{finish}
use Rattle.fs_machine.specs.Leaving.{is_removed, releasing, let_go, finished_op, unreserved}
use Rattle.fs_machine.specs.Moves.{next, took, left_holdings, next_on}
use Rattle.fs_machine.specs.declared.moves.Move.TheVariants.{Finish as Finishes}
use Rattle.fs_machine.specs.declared.moves.Moved.{Moved}
use Rattle.fs_machine.specs.Records.{Phase, Walking, Placed, Finished, Holds, Record, Records, Holdings, Source}
use Rattle.fs_laws.specs.JournalViews.{start, view_after}
use Rattle.fs_timeline.specs.Timeline.{begins, commit_count}
use Rattle.fs_laws.specs.Invariants.{IsUnfinished, Own, Invariant, limits_of}
use Rattle.fs_laws.specs.CallFacts.{Keeps}
use Rattle.fs_machine.specs.States.{State, fresh, IsStart, Begun, began, new_op, Reserves, Begins, Step, taking, letting_go, helping, carrying, committing, returning, Run, Starting, Beginning, Stepping}
use Rattle.fs_machine.specs.declared.answers.Refusal.TheVariants.{SeatBusy, Full, OutOfMemory}
use Rattle.fs_machine.specs.declared.answers.Stepped.{Stepped}
use Rattle.fs_machine.specs.declared.answers.Stepped.TheVariants.{Idle, Took, Busy, LetGo, Helped, Committed, CarriedOut, Returned}
use Rattle.fs_laws.proofs.graphs.Walks.{eqb_true}
use Rattle.fs_laws.proofs.calls.Located.{fits_under}
use Rattle.fs_laws.proofs.events.OneCallChanged.{Place, Here, Else, place}
use Rattle.fs_laws.proofs.events.Help.{upd_here, upd_else}
use Rattle.fs_laws.proofs.events.JustFinished.{Either, Changed, Old, either}
use Rattle.fs_laws.proofs.events.Commit.{Ready, By_text, By_holdings, ready}
use Rattle.fs_laws.proofs.events.Take.{TakesFrom, From_nowhere, From_holdings, takes_from}
use Rattle.fs_laws.proofs.events.Return.{ends_nowhere}
use Rattle.fs_laws.proofs.states.Headline.{run_keeps}
use Rattle.fs_laws.proofs.finish.Limits.{Within, AllWithin, SameKind, Resizes, finish_resizes, own_limited}
use Rattle.fs_laws.proofs.calls.Takes.{takes_by}
use Rattle.fs_laws.proofs.calls.HeadOrder.{HeadsOfCallInOrder, HeadsInOrder, neat_op_by, DirStays, TookWell, took_root, took_well, IsClosed}
use Rattle.fs_laws.proofs.calls.FinishedHoldings.{LeftWell, left_well, finish_closed}
use Rattle.fs_laws.proofs.calls.NodesHeld.{none_some}

-- a call under way that holds a node
abbrev pub Holder : State → ℕ → ℕ → Type 0
Holder s n c = (op : Record) × (st : Holdings) × (s.ops c ≡ Some op) × (op.holdings ≡ Some st) × Holds st n

pub record StateFacts (s : State) : Type 0 where
  pub holds : (n c : ℕ) → s.holder n ≡ Some c → Holder s n c
  pub on_seat : (c : ℕ) (op : Record) → s.ops c ≡ Some op → s.on_seat op.seat ≡ Some c
  pub neat : (c : ℕ) (op : Record) (st : Holdings) → s.ops c ≡ Some op → op.holdings ≡ Some st → HeadsOfCallInOrder s.graph op st
  pub within : AllWithin (limits_of s) s.graph.shape
  pub below : (n : ℕ) (shape : Shape) → s.graph.shape n ≡ Some shape → n < s.limit

-- a call that stands somewhere is not decided by its paths
pub text_open : (s : State) (inv : Invariant s) (c : ℕ) (op : Record) (st : Holdings) → s.ops c ≡ Some op → op.holdings ≡ Some st → by_paths op.call ≡ None
text_open s inv c op st is on = sym (by_text_any (limits_of s) op.call) ∙ ap by_text (sym (inv.own c op is).parts) ∙ fits_under op.walked op.remaining (inv.kept.each c op st is on).fits

-- the source head's node is reached
source_reached : (s : State) (inv : Invariant s) (c : ℕ) (op : Record) (st : Holdings) → s.ops c ≡ Some op → op.holdings ≡ Some st → (key : Key) × (numbers s.graph key ≡ Some st.source.node)
source_reached s inv c op st is on = let k : Keeps (numbers s.graph) (inv.key c) op st = inv.kept.each c op st is on in (_, (k.located.head Source))

-- a number to which nothing leads leaves the graph
released_stays : (graph : Graph) (n m : ℕ) → ((key : Key) → numbers graph key ≡ Some n → ⊥) → (key : Key) × (numbers graph key ≡ Some m) → DirStays graph (released_in n graph) m
released_stays graph n m loose reached names e = (names, upd_else n None graph.shape m (λ i. loose reached.0 (reached.1 ∙ ap (λ (x : ℕ). Some x) i)) ∙ e)

released_within : (limits : Limits) (graph : Graph) (n : ℕ) → AllWithin limits graph.shape → AllWithin limits (released_in n graph).shape
released_within limits graph n w m s e = go (place n None graph.shape m)
  where
    go : Place (Option Shape) n None graph.shape m → Within limits s
    go (Here i j) = absurd (none_some ((released_in n graph).shape m) s j e)
    go (Else h j) = w m s (sym j ∙ e)

released_below : (graph : Graph) (n limit : ℕ) → ((m : ℕ) (s : Shape) → graph.shape m ≡ Some s → m < limit) → (m : ℕ) (s : Shape) → (released_in n graph).shape m ≡ Some s → m < limit
released_below graph n limit w m s e = go (place n None graph.shape m)
  where
    go : Place (Option Shape) n None graph.shape m → m < limit
    go (Here i j) = absurd (none_some ((released_in n graph).shape m) s j e)
    go (Else h j) = w m s (sym j ∙ e)

-- the same record at another call number, with the same stand and seat
abbrev pub SameHoldings : Record → Record → Type 0
SameHoldings p q = (q.holdings ≡ p.holdings) × (q.seat ≡ p.seat)

-- one call's record changes and it holds what it held
record Changes (old : State) (c : ℕ) (op v : Record) (graph : Graph) : Type 0 where
  pub is : old.ops c ≡ Some op
  pub holdings : v.holdings ≡ op.holdings
  pub seat : v.seat ≡ op.seat
  pub neat : (st : Holdings) → op.holdings ≡ Some st → HeadsOfCallInOrder graph v st
  pub others : (d : ℕ) (q : Record) (st : Holdings) → (d ≡ c → ⊥) → old.ops d ≡ Some q → q.holdings ≡ Some st → HeadsOfCallInOrder graph q st
  pub within : AllWithin (limits_of old) graph.shape
  pub below : (n : ℕ) (shape : Shape) → graph.shape n ≡ Some shape → n < old.limit

changes_keep : (old : State) (acc : StateFacts old) (c : ℕ) (op v : Record) (graph : Graph) (new : State) → Changes old c op v graph → new.limit ≡ old.limit → limits_of new ≡ limits_of old → new.graph ≡ graph → new.holder ≡ old.holder → new.ops ≡ set_at c (Some v) old.ops → new.on_seat ≡ old.on_seat → StateFacts new
changes_keep old acc c op v graph new ch limit limits is_graph holder ops seats = record {
  holds = λ n d e. holds n d (ap (λ (f : ℕ → Option ℕ). f n) (sym holder) ∙ e);
  on_seat = λ d q e. seat d q (either old.ops c v d q (sym (ap (λ (f : Records). f d) ops) ∙ e));
  neat = λ d q st e f. subst (λ (g : Graph). HeadsOfCallInOrder g q st) (sym is_graph) (neat d q st (either old.ops c v d q (sym (ap (λ (f : Records). f d) ops) ∙ e)) f);
  within = subst (λ (l : Limits). AllWithin l new.graph.shape) (sym limits) (subst (λ (g : Graph). AllWithin (limits_of old) g.shape) (sym is_graph) ch.within);
  below = λ n s e. subst (λ (m : ℕ). n < m) (sym limit) (ch.below n s (ap (λ (g : Graph). g.shape n) (sym is_graph) ∙ e));
}
  where
    holds : (n d : ℕ) → old.holder n ≡ Some d → Holder new n d
    holds n d e = go (acc.holds n d e) (place c (Some v) old.ops d)
      where
        go : Holder old n d → Place (Option Record) c (Some v) old.ops d → Holder new n d
        go (q, st, is, on, h) (Here i j) =
            let z : ◌≡◌ {A = Option Record} (Some q) (Some op) = sym is ∙ ap old.ops i ∙ ch.is in
            let y : op ≡ q = cc in
            (v, st, ap (λ (f : Records). f d) ops ∙ j, ch.holdings ∙ ap (λ (o : Record). o.holdings) y ∙ on, h)
        go (q, st, is, on, h) (Else m j) = (q, st, ap (λ (f : Records). f d) ops ∙ j ∙ is, on, h)

    seat : (d : ℕ) (q : Record) → Either old.ops c v d q → new.on_seat q.seat ≡ Some d
    seat d q (Changed e f) = ap (λ (g : ℕ → Option ℕ). g q.seat) seats ∙ ap old.on_seat (sym (ap (λ (o : Record). o.seat) f) ∙ ch.seat) ∙ acc.on_seat c op ch.is ∙ ap (λ (n : ℕ). Some n) (sym e)
    seat d q (Old m e) = ap (λ (g : ℕ → Option ℕ). g q.seat) seats ∙ acc.on_seat d q e

    neat : (d : ℕ) (q : Record) (st : Holdings) → Either old.ops c v d q → q.holdings ≡ Some st → HeadsOfCallInOrder graph q st
    neat d q st (Changed e f) g = subst (λ (o : Record). HeadsOfCallInOrder graph o st) f (ch.neat st (sym ch.holdings ∙ ap (λ (o : Record). o.holdings) f ∙ g))
    neat d q st (Old m e) g = ch.others d q st m e g

-- a take
account_took : (n : ℕ) (old new : State) (seat : ℕ) → Invariant old → StateFacts old → Step old seat (Took n) new → StateFacts new
account_took n old new seat inv acc (c, op, moves, free, same) = subst StateFacts (sym same) (record { holds = holds; on_seat = on_seat; neat = neat; within = acc.within; below = acc.below })
  where
    is : old.ops c ≡ Some op
    is = moves.1

    t : TakesFrom old.graph op n × IsUnfinished op
    t = takes_from old.graph op n moves.2

    w : TookWell old.graph op n
    w = go t.0
      where
        go : TakesFrom old.graph op n → TookWell old.graph op n
        go (From_nowhere text off z) = took_root old.graph op n (takes_from old.graph op n moves.2).1 off
        go (From_holdings st on m) = took_well old.graph op n st (takes_from old.graph op n moves.2).1 on ((acc.neat c op st moves.1 on).under_way (takes_from old.graph op n moves.2).1) (takes_by old.graph op n st on m)

    mine : Records
    mine = set_at c (Some (took op n)) old.ops

    other : (m d : ℕ) → old.holder m ≡ Some d → Holder (taking old c op n) m d
    other m d e = go (acc.holds m d e) (place c (Some (took op n)) old.ops d)
      where
        go : Holder old m d → Place (Option Record) c (Some (took op n)) old.ops d → Holder (taking old c op n) m d
        go (q, st, q_is, on, h) (Here i j) =
            let z : ◌≡◌ {A = Option Record} (Some q) (Some op) = sym q_is ∙ ap old.ops i ∙ is in
            let y : op ≡ q = cc in
            (took op n, w.new, j, w.on, w.stays st m (ap (λ (o : Record). o.holdings) y ∙ on) h)
        go (q, st, q_is, on, h) (Else k j) = (q, st, j ∙ q_is, on, h)

    holds : (m d : ℕ) → set_at n (Some c) old.holder m ≡ Some d → Holder (taking old c op n) m d
    holds m d e = go (place n (Some c) old.holder m)
      where
        here : m ≡ n → c ≡ d → Holder (taking old c op n) m d
        here i j = (took op n, w.new, ap (set_at c (Some (took op n)) old.ops) (sym j) ∙ upd_here c (Some (took op n)) old.ops, w.on, subst (Holds w.new) (sym i) w.here)

        go : Place (Option ℕ) n (Some c) old.holder m → Holder (taking old c op n) m d
        go (Here i j) = let z : ◌≡◌ {A = Option ℕ} (Some c) (Some d) = sym j ∙ e in here i (let y : c ≡ d = cc in y)
        go (Else k j) = other m d (sym j ∙ e)

    on_seat : (d : ℕ) (q : Record) → set_at c (Some (took op n)) old.ops d ≡ Some q → old.on_seat q.seat ≡ Some d
    on_seat d q e = go (either old.ops c (took op n) d q e)
      where
        go : Either old.ops c (took op n) d q → old.on_seat q.seat ≡ Some d
        go (Changed i f) = ap old.on_seat (sym (ap (λ (o : Record). o.seat) f) ∙ w.seat) ∙ acc.on_seat c op is ∙ ap (λ (k : ℕ). Some k) (sym i)
        go (Old k i) = acc.on_seat d q i

    neat : (d : ℕ) (q : Record) (st : Holdings) → set_at c (Some (took op n)) old.ops d ≡ Some q → q.holdings ≡ Some st → HeadsOfCallInOrder old.graph q st
    neat d q st e on = go (either old.ops c (took op n) d q e)
      where
        go : Either old.ops c (took op n) d q → HeadsOfCallInOrder old.graph q st
        go (Changed i f) =
            let z : ◌≡◌ {A = Option Holdings} (Some w.new) (Some st) = sym w.on ∙ ap (λ (o : Record). o.holdings) f ∙ on in
            subst (λ (o : Record). HeadsOfCallInOrder old.graph o st) f (subst (HeadsOfCallInOrder old.graph (took op n)) (let y : w.new ≡ st = cc in y) w.neat)
        go (Old k i) = acc.neat d q st i on

-- a let go
record Releases (old : State) (n : ℕ) (graph : Graph) : Type 0 where
  pub stays : (c : ℕ) (op : Record) (st : Holdings) → old.ops c ≡ Some op → op.holdings ≡ Some st → DirStays old.graph graph st.source.node
  pub within : AllWithin (limits_of old) graph.shape
  pub below : (m : ℕ) (s : Shape) → graph.shape m ≡ Some s → m < old.limit

releases_same : (old : State) (acc : StateFacts old) (n : ℕ) → Releases old n old.graph
releases_same old acc n = record { stays = λ c op st e f names g. (names, g); within = acc.within; below = acc.below }

releases_out : (old : State) (inv : Invariant old) (acc : StateFacts old) (n : ℕ) → ((key : Key) → numbers old.graph key ≡ Some n → ⊥) → Releases old n (released_in n old.graph)
releases_out old inv acc n loose = record {
  stays = λ c op st e f. released_stays old.graph n st.source.node loose (source_reached old inv c op st e f);
  within = released_within (limits_of old) old.graph n acc.within;
  below = released_below old.graph n old.limit acc.below;
}

account_let_go : (n : ℕ) (old new : State) (seat : ℕ) → Invariant old → StateFacts old → Step old seat (LetGo n) new → StateFacts new
account_let_go n old new seat inv acc (c, op, moves, same) = subst StateFacts (sym same) (record { holds = holds; on_seat = on_seat; neat = neat; within = (releases (is_removed op.removed n) refl).within; below = (releases (is_removed op.removed n) refl).below })
  where
    is : old.ops c ≡ Some op
    is = moves.1

    w : LeftWell old.graph op n
    w = left_well old.graph op n (λ st on. acc.neat c op st is on) moves.2

    removed_is : (o : Option ℕ) → is_removed o n ≡ true → o ≡ Some n
    removed_is None e = cc
    removed_is (Some m) e = ap (λ (x : ℕ). Some x) (eqb_true m n e)

    releases : (b : Bool) → is_removed op.removed n ≡ b → Releases old n (releasing b n old.graph)
    releases true e = releases_out old inv acc n ((inv.own c op is).gone n (removed_is op.removed e)).1
    releases false e = releases_same old acc n

    other : (m d : ℕ) → (m ≡ n → ⊥) → old.holder m ≡ Some d → Holder (letting_go old c op n) m d
    other m d differs e = go (acc.holds m d e) (place c (Some (let_go op n)) old.ops d)
      where
        go : Holder old m d → Place (Option Record) c (Some (let_go op n)) old.ops d → Holder (letting_go old c op n) m d
        go (q, st, q_is, on, h) (Here i j) =
            let z : ◌≡◌ {A = Option Record} (Some q) (Some op) = sym q_is ∙ ap old.ops i ∙ is in
            let y : op ≡ q = cc in
            let k : (new : Holdings) × (left_holdings op.phase op.holdings ≡ Some new) × Holds new m = w.stays st m (ap (λ (o : Record). o.holdings) y ∙ on) h differs in
            (let_go op n, k.0, j, k.1, k.2)
        go (q, st, q_is, on, h) (Else k j) = (q, st, j ∙ q_is, on, h)

    holds : (m d : ℕ) → set_at n None old.holder m ≡ Some d → Holder (letting_go old c op n) m d
    holds m d e = go (place n None old.holder m)
      where
        go : Place (Option ℕ) n None old.holder m → Holder (letting_go old c op n) m d
        go (Here i j) = absurd (none_some (set_at n None old.holder m) d j e)
        go (Else k j) = other m d k (sym j ∙ e)

    on_seat : (d : ℕ) (q : Record) → set_at c (Some (let_go op n)) old.ops d ≡ Some q → old.on_seat q.seat ≡ Some d
    on_seat d q e = go (either old.ops c (let_go op n) d q e)
      where
        go : Either old.ops c (let_go op n) d q → old.on_seat q.seat ≡ Some d
        go (Changed i f) = ap old.on_seat (sym (ap (λ (o : Record). o.seat) f)) ∙ acc.on_seat c op is ∙ ap (λ (k : ℕ). Some k) (sym i)
        go (Old k i) = acc.on_seat d q i

    neat : (d : ℕ) (q : Record) (st : Holdings) → set_at c (Some (let_go op n)) old.ops d ≡ Some q → q.holdings ≡ Some st → HeadsOfCallInOrder (releasing (is_removed op.removed n) n old.graph) q st
    neat d q st e on = go (either old.ops c (let_go op n) d q e)
      where
        source_same : (st left : Holdings) → op.holdings ≡ Some st → left_holdings op.phase op.holdings ≡ Some left → HeadsOfCallInOrder old.graph (let_go op n) left → HeadsOfCallInOrder (releasing (is_removed op.removed n) n old.graph) (let_go op n) left
        source_same st left on_st left_is k = record { under_way = λ u. going u (op.phase) refl; closed = k.closed }
          where
            going : IsUnfinished op → (p : Phase) → op.phase ≡ p → HeadsInOrder (releasing (is_removed op.removed n) n old.graph) op.remaining left
            going u p i = subst (λ (g : Graph). HeadsInOrder g op.remaining left) (sym still) (k.under_way u)
              where
                not_removed : (o : Option ℕ) → o ≡ None → is_removed o n ≡ false
                not_removed None e = refl
                not_removed (Some m) e = cc

                still : releasing (is_removed op.removed n) n old.graph ≡ old.graph
                still = ap (λ (b : Bool). releasing b n old.graph) (not_removed op.removed ((inv.own c op is).intact u))

        stood : (o : Option Holdings) → op.holdings ≡ o → left_holdings op.phase o ≡ Some st → (s : Holdings) × (op.holdings ≡ Some s)
        stood None i f = cc
        stood (Some s) i f = (s, i)

        go : Either old.ops c (let_go op n) d q → HeadsOfCallInOrder (releasing (is_removed op.removed n) n old.graph) q st
        go (Changed i f) =
            let left_is : left_holdings op.phase op.holdings ≡ Some st = ap (λ (o : Record). o.holdings) f ∙ on in
            let s : (s : Holdings) × (op.holdings ≡ Some s) = stood op.holdings refl left_is in
            subst (λ (o : Record). HeadsOfCallInOrder (releasing (is_removed op.removed n) n old.graph) o st) f (source_same s.0 st s.1 left_is (w.neat st left_is))
        go (Old k i) = neat_op_by old.graph (releasing (is_removed op.removed n) n old.graph) q st ((releases (is_removed op.removed n) refl).stays d q st i on) (acc.neat d q st i on)

-- helping
account_helped : (h : ℕ) (old new : State) (seat : ℕ) → Invariant old → StateFacts old → Step old seat (Helped h) new → StateFacts new
account_helped h old new seat inv acc (c, op, s, moves, walks, chosen, q, is, same) = subst StateFacts (sym same)
    (changes_keep old acc h q (record q { phase = Placed (commit_count old.timeline) }) old.graph (helping old h q) (record {
      is = is;
      holdings = refl;
      seat = refl;
      neat = λ st on. record { under_way = λ u. (acc.neat h q st is on).under_way (λ r e. (let z : ◌≡◌ {A = Phase} Walking (Finished r) = sym walking ∙ e in cc)); closed = λ r e. cc };
      others = λ d o st n e f. acc.neat d o st e f;
      within = acc.within;
      below = acc.below;
    }) refl refl refl refl refl refl)
  where
    walking : q.phase ≡ Walking
    walking = let w : (o : Record) × (old.ops h ≡ Some o) × (o.phase ≡ Walking) × _ = chosen.0.0.2 in
        let z : ◌≡◌ {A = Option Record} (Some w.0) (Some q) = sym w.1 ∙ is in
        let y : q ≡ w.0 = cc in ap (λ (o : Record). o.phase) y ∙ w.2

-- a finish
finish_changes : (old : State) (inv : Invariant old) (acc : StateFacts old) (c : ℕ) (op : Record) (o : Moved) → old.ops c ≡ Some op → IsUnfinished op → next old.graph op ≡ Finishes o → Changes old c op (finished_op op (finish old.graph op)) (finish old.graph op).graph
finish_changes old inv acc c op o is u n = record {
  is = is;
  holdings = refl;
  seat = refl;
  neat = λ st on. record { under_way = λ v. absurd (v (finish old.graph op).reply refl); closed = λ r e. closed st on };
  others = λ d q st m e f. neat_op_by old.graph (finish old.graph op).graph q st (λ names g. stays st.source.node names g) (acc.neat d q st e f);
  within = sized.within;
  below = λ m t e. (let s : (s : Shape) × (old.graph.shape m ≡ Some s) = sized.to_old m t e in acc.below m s.0 s.1);
}
  where
    own : Own (limits_of old) old.graph op
    own = inv.own c op is

    sized : Resizes (limits_of old) old.graph.shape (finish old.graph op).graph.shape
    sized = finish_resizes (limits_of old) old.graph inv.is_graph acc.within op (own_limited (limits_of old) old.graph op own) own.well

    stays : (m : ℕ) (names : List Name) → old.graph.shape m ≡ Some (Dir names) → (ns : List Name) × ((finish old.graph op).graph.shape m ≡ Some (Dir ns))
    stays m names e = let t : (t : Shape) × ((finish old.graph op).graph.shape m ≡ Some t) × SameKind (Dir names) t = sized.to_new m (Dir names) e in go t.0 t.1 t.2
      where
        go : (t : Shape) → (finish old.graph op).graph.shape m ≡ Some t → SameKind (Dir names) t → (ns : List Name) × ((finish old.graph op).graph.shape m ≡ Some (Dir ns))
        go (Dir ns) i k = (ns, i)
        go (File bytes) i k = absurd k

    closed : (st : Holdings) → op.holdings ≡ Some st → IsClosed st
    closed st on = go (ready old.graph op o n)
      where
        go : Ready old.graph op o → IsClosed st
        go (By_text e text) = absurd (none_some (by_paths op.call) e (text_open old inv c op st is on) text)
        go (By_holdings s text on_s m) =
            let z : ◌≡◌ {A = Option Holdings} (Some s) (Some st) = sym on_s ∙ on in
            let y : s ≡ st = cc in
            finish_closed old.graph op.remaining st o (subst (λ (x : Holdings). next_on old.graph op.remaining x ≡ Finishes o) y m)

account_committed : (old new : State) (seat : ℕ) → Invariant old → StateFacts old → Step old seat Committed new → StateFacts new
account_committed old new seat inv acc (c, op, s, moves, walks, none, same) = subst StateFacts (sym same)
    (changes_keep old acc c op (finished_op op (finish old.graph op)) (finish old.graph op).graph (committing old c op)
    (finish_changes old inv acc c op s moves.1 (λ r e. (let z : ◌≡◌ {A = Phase} Walking (Finished r) = sym walks ∙ e in cc)) moves.2) refl refl refl refl refl refl)

account_carried : (old new : State) (seat : ℕ) → Invariant old → StateFacts old → Step old seat CarriedOut new → StateFacts new
account_carried old new seat inv acc (c, op, s, i, moves, placed, same) = subst StateFacts (sym same)
    (changes_keep old acc c op (finished_op op (finish old.graph op)) (finish old.graph op).graph (carrying old c op)
    (finish_changes old inv acc c op s moves.1 (λ r e. (let z : ◌≡◌ {A = Phase} (Placed i) (Finished r) = sym placed ∙ e in cc)) moves.2) refl refl refl refl refl refl)

-- a return
account_returned : (r : Reply) (old new : State) (seat : ℕ) → Invariant old → StateFacts old → Step old seat (Returned r) new → StateFacts new
account_returned r old new seat inv acc (c, op, moves, ph, same) = subst StateFacts (sym same) (record { holds = holds; on_seat = on_seat; neat = neat; within = (out op.reserved refl).within; below = (out op.reserved refl).below })
  where
    is : old.ops c ≡ Some op
    is = moves.1

    nowhere : op.holdings ≡ None
    nowhere = ends_nowhere old.graph op r ph moves.2

    out : (o : Option ℕ) → op.reserved ≡ o → Releases old 0 (unreserved o old.graph)
    out None e = releases_same old acc 0
    out (Some n) e = let q : Releases old n (released_in n old.graph) = releases_out old inv acc n ((inv.own c op is).spare n e).1 in record { stays = q.stays; within = q.within; below = q.below }

    was : (d : ℕ) (q : Record) → set_at c None old.ops d ≡ Some q → (d ≡ c → ⊥) × (old.ops d ≡ Some q)
    was d q e = go (place c None old.ops d)
      where
        go : Place (Option Record) c None old.ops d → (d ≡ c → ⊥) × (old.ops d ≡ Some q)
        go (Here i j) = absurd (none_some (set_at c None old.ops d) q j e)
        go (Else n j) = (n, sym j ∙ e)

    holds : (m d : ℕ) → old.holder m ≡ Some d → Holder (returning old c op r) m d
    holds m d e = go (acc.holds m d e) (place c None old.ops d)
      where
        go : Holder old m d → Place (Option Record) c None old.ops d → Holder (returning old c op r) m d
        go (q, st, q_is, on, h) (Here i j) =
            let z : ◌≡◌ {A = Option Record} (Some q) (Some op) = sym q_is ∙ ap old.ops i ∙ is in
            let y : op ≡ q = cc in
            absurd (none_some op.holdings st nowhere (ap (λ (o : Record). o.holdings) y ∙ on))
        go (q, st, q_is, on, h) (Else k j) = (q, st, j ∙ q_is, on, h)

    on_seat : (d : ℕ) (q : Record) → set_at c None old.ops d ≡ Some q → set_at op.seat None old.on_seat q.seat ≡ Some d
    on_seat d q e =
        let w : (d ≡ c → ⊥) × (old.ops d ≡ Some q) = was d q e in
        let s : old.on_seat q.seat ≡ Some d = acc.on_seat d q w.1 in
        upd_else op.seat None old.on_seat q.seat (λ i. w.0 (let z : ◌≡◌ {A = Option ℕ} (Some d) (Some c) = sym s ∙ ap old.on_seat i ∙ acc.on_seat c op is in cc)) ∙ s

    neat : (d : ℕ) (q : Record) (st : Holdings) → set_at c None old.ops d ≡ Some q → q.holdings ≡ Some st → HeadsOfCallInOrder (unreserved op.reserved old.graph) q st
    neat d q st e on = let w : (d ≡ c → ⊥) × (old.ops d ≡ Some q) = was d q e in neat_op_by old.graph (unreserved op.reserved old.graph) q st ((out op.reserved refl).stays d q st w.1 on) (acc.neat d q st w.1 on)

-- a begin
record Reserved (old : State) (graph : Graph) : Type 0 where
  pub stays : (m : ℕ) → DirStays old.graph graph m
  pub within : AllWithin (limits_of old) graph.shape
  pub below : (m : ℕ) (s : Shape) → graph.shape m ≡ Some s → m < old.limit

began_keeps : (old : State) (inv : Invariant old) (acc : StateFacts old) (seat : ℕ) (call : Call) (c : ℕ) (reserved : Option ℕ) (graph : Graph) → old.on_seat seat ≡ None → old.ops c ≡ None → Reserved old graph → StateFacts (began old seat call c reserved graph)
began_keeps old inv acc seat call c reserved graph free unused r = record { holds = holds; on_seat = on_seat; neat = neat; within = r.within; below = r.below }
  where
    not_new : (d : ℕ) (q : Record) → old.ops d ≡ Some q → d ≡ c → ⊥
    not_new d q e i = none_some (old.ops c) q unused (ap old.ops (sym i) ∙ e)

    holds : (m d : ℕ) → old.holder m ≡ Some d → Holder (began old seat call c reserved graph) m d
    holds m d e = go (acc.holds m d e)
      where
        go : Holder old m d → Holder (began old seat call c reserved graph) m d
        go (q, st, is, on, h) = (q, st, upd_else c (Some (new_op old.start.limits seat call reserved)) old.ops d (not_new d q is) ∙ is, on, h)

    on_seat : (d : ℕ) (q : Record) → set_at c (Some (new_op old.start.limits seat call reserved)) old.ops d ≡ Some q → set_at seat (Some c) old.on_seat q.seat ≡ Some d
    on_seat d q e = go (either old.ops c (new_op old.start.limits seat call reserved) d q e)
      where
        go : Either old.ops c (new_op old.start.limits seat call reserved) d q → set_at seat (Some c) old.on_seat q.seat ≡ Some d
        go (Changed i f) = ap (set_at seat (Some c) old.on_seat) (sym (ap (λ (o : Record). o.seat) f)) ∙ upd_here seat (Some c) old.on_seat ∙ ap (λ (k : ℕ). Some k) (sym i)
        go (Old n i) = let s : old.on_seat q.seat ≡ Some d = acc.on_seat d q i in upd_else seat (Some c) old.on_seat q.seat (λ j. none_some (old.on_seat seat) d free (ap old.on_seat (sym j) ∙ s)) ∙ s

    neat : (d : ℕ) (q : Record) (st : Holdings) → set_at c (Some (new_op old.start.limits seat call reserved)) old.ops d ≡ Some q → q.holdings ≡ Some st → HeadsOfCallInOrder graph q st
    neat d q st e on = go (either old.ops c (new_op old.start.limits seat call reserved) d q e)
      where
        go : Either old.ops c (new_op old.start.limits seat call reserved) d q → HeadsOfCallInOrder graph q st
        go (Changed i f) = absurd (none_some (new_op old.start.limits seat call reserved).holdings st refl (ap (λ (o : Record). o.holdings) f ∙ on))
        go (Old n i) = neat_op_by old.graph graph q st (r.stays st.source.node) (acc.neat d q st i on)

-- a call number that did not begin yet
pub not_begun : (s : State) (inv : Invariant s) (c : ℕ) → begins s.timeline < c → s.ops c ≡ None
not_begun s inv c less = go (s.ops c) refl
  where
    go : (o : Option Record) → s.ops c ≡ o → o ≡ None
    go None e = refl
    go (Some q) e = absurd (none_some ((view_after (start s.start) s.timeline).call c) q.call (inv.fresh c less) (inv.tied.calls c q e))

-- what is reserved is empty
new_within : (limits : Limits) (call : Form) (shape : Shape) → reserves call ≡ Some shape → Within limits shape
new_within limits (AtNode c p) shape e = cc
new_within limits (AtEntry c []) shape e = cc
new_within limits (AtEntry (Mkdir most) (x ∷ p)) shape e = let y : Dir [] ≡ shape = cc in subst (Within limits) y (tt, omega arith)
new_within limits (AtEntry (Mknod most) (x ∷ p)) shape e = let y : File [] ≡ shape = cc in subst (Within limits) y (omega arith)
new_within limits (AtEntry Unlink (x ∷ p)) shape e = cc
new_within limits (AtEntry Rmdir (x ∷ p)) shape e = cc
new_within limits (AtPair c p q) shape e = cc

reserved_is : (old : State) (acc : StateFacts old) (n : ℕ) (shape : Shape) → old.graph.shape n ≡ None → n < old.limit → Within (limits_of old) shape → Reserved old (reserved_in n shape old.graph)
reserved_is old acc n shape free less fits = record {
  stays = λ m names e. (names, upd_else n (Some shape) old.graph.shape m (λ i. none_some (old.graph.shape m) (Dir names) (ap old.graph.shape i ∙ free) e) ∙ e);
  within = λ m s e. within m s e (place n (Some shape) old.graph.shape m);
  below = λ m s e. below m s e (place n (Some shape) old.graph.shape m);
}
  where
    within : (m : ℕ) (s : Shape) → (reserved_in n shape old.graph).shape m ≡ Some s → Place (Option Shape) n (Some shape) old.graph.shape m → Within (limits_of old) s
    within m s e (Here i j) = let z : ◌≡◌ {A = Option Shape} (Some shape) (Some s) = sym j ∙ e in subst (Within (limits_of old)) (let y : shape ≡ s = cc in y) fits
    within m s e (Else h j) = acc.within m s (sym j ∙ e)

    below : (m : ℕ) (s : Shape) → (reserved_in n shape old.graph).shape m ≡ Some s → Place (Option Shape) n (Some shape) old.graph.shape m → m < old.limit
    below m s e (Here i j) = subst (λ (k : ℕ). k < old.limit) (sym i) less
    below m s e (Else h j) = acc.below m s (sym j ∙ e)

account_begun : (c : ℕ) (old new : State) (seat : ℕ) (call : Call) → Invariant old → StateFacts old → Begins old seat call (Ok c) new → StateFacts new
account_begun c old new seat call inv acc (free, number, r) = go (reserved_by call) refl r
  where
    unused : old.ops c ≡ None
    unused = not_begun old inv c (let z : c ≡ begins old.timeline + 1 = number in omega (arith, z))

    go : (o : Option Shape) → reserved_by call ≡ o → Reserves old seat call c o new → StateFacts new
    go None i same = subst StateFacts (sym same) (began_keeps old inv acc seat call c None old.graph free unused (record { stays = λ m names e. (names, e); within = acc.within; below = acc.below }))
    go (Some shape) i (n, less, empty_n, same) = subst StateFacts (sym same) (began_keeps old inv acc seat call c (Some n) (reserved_in n shape old.graph) free unused (reserved_is old acc n shape empty_n less (new_within (limits_of old) (form (limits_of old) call) shape (reserves_any (limits_of old) call ∙ i))))

-- where a timeline begins
account_start : (limit : ℕ) (tree : Start) (graph : Graph) → IsStart limit tree graph → StateFacts (fresh limit tree graph)
account_start limit tree graph h = record {
  holds = λ n c e. cc;
  on_seat = λ c op e. cc;
  neat = λ c op st e f. cc;
  within = λ n s e. within n s e;
  below = h.below;
}
  where
    within : (n : ℕ) (s : Shape) → graph.shape n ≡ Some s → Within tree.limits s
    within n (Dir names) e = (h.rising n names e, h.bounded.entries n names e)
    within n (File bytes) e = h.bounded.bytes n bytes e

step_accounts : (answer : Stepped) (old new : State) (seat : ℕ) → Invariant old → StateFacts old → Step old seat answer new → StateFacts new
step_accounts Idle old new seat inv acc st = subst StateFacts (sym st.1) acc
step_accounts (Took n) old new seat inv acc st = account_took n old new seat inv acc st
step_accounts (Busy n d) old new seat inv acc (c, op, m, h, same) = subst StateFacts (sym same) acc
step_accounts (LetGo n) old new seat inv acc st = account_let_go n old new seat inv acc st
step_accounts (Helped d) old new seat inv acc st = account_helped d old new seat inv acc st
step_accounts Committed old new seat inv acc st = account_committed old new seat inv acc st
step_accounts CarriedOut old new seat inv acc st = account_carried old new seat inv acc st
step_accounts (Returned r) old new seat inv acc st = account_returned r old new seat inv acc st

begin_accounts : (answer : Begun) (old new : State) (seat : ℕ) (call : Call) → Invariant old → StateFacts old → Begins old seat call answer new → StateFacts new
begin_accounts (Ok c) old new seat call inv acc b = account_begun c old new seat call inv acc b
begin_accounts (Err SeatBusy) old new seat call inv acc (c, on, same) = subst StateFacts (sym same) acc
begin_accounts (Err Full) old new seat call inv acc (on, full, same) = subst StateFacts (sym same) acc
begin_accounts (Err OutOfMemory) old new seat call inv acc (on, full, same) = subst StateFacts (sym same) acc

-- every state of a run keeps them
pub run_accounts : (s : State) → Run s → StateFacts s
run_accounts s (Starting limit tree graph h) = account_start limit tree graph h
run_accounts s (Beginning {old} seat call answer new run b) = begin_accounts answer old new seat call (run_keeps old run) (run_accounts old run) b
run_accounts s (Stepping {old} seat answer new run st) = step_accounts answer old new seat (run_keeps old run) (run_accounts old run) st
