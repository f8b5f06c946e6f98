-- A begin keeps what every state keeps.
use Rattle.std.proofs.Common.{◌≡◌, ℕ, ◌<◌, ◌+◌, true, false, List, [], ◌∷◌, ◌++◌, Option, Some, None, refl, sym, ap, ◌∙◌, arith, subst, inl, inr, Ok}
use Rattle.fs_names.specs.Keys.{Key}
use Rattle.fs_names.specs.Names.{Name, has_name}
use Rattle.fs_names.specs.Shapes.{Shape, Dir, File}
use Rattle.fs_calls.specs.Forms.{form, Form, AtNode, AtEntry, AtPair, new_shape, reserves, under, Fits, reserved_by, EntryCall, Mkdir, Mknod, Unlink, Rmdir}
use Rattle.fs_laws.specs.Maps.{Map}
use Rattle.fs_calls.specs.declared.call.Call.{Call}
use Rattle.fs_calls.specs.declared.reply.Reply.{Reply}
use Rattle.fs_calls.proofs.FormLemmas.{by_text_any, reserves_any}
use Rattle.fs_calls.specs.Graphs.{Graph, numbers, graph_shapes, set_at, IsGraph, reserved_in}
use Rattle.fs_timeline.specs.declared.entry.Entry.TheVariants.{Begin}
use Rattle.fs_machine.specs.Records.{Phase, Walking, Placed, Finished, Holds, Record, Holdings}
use Rattle.fs_laws.specs.JournalViews.{JournalView, start, view_after, noted}
use Rattle.fs_timeline.specs.Timeline.{begins, commit_count}
use Rattle.fs_laws.specs.Invariants.{remaining_of, spots, IsPlaced, HasSpare, IsIn, NumberFor, Own, Invariant, BeginKeeps, Tied, Dues, limits_of}
use Rattle.fs_laws.specs.Settled.{settle, settle_replies}
use Rattle.fs_laws.specs.CallFacts.{CallFacts}
use Rattle.fs_machine.specs.States.{State, Reserves, began, new_op}
use Rattle.fs_laws.proofs.events.OneCallChanged.{Place, Here, Else, place}
use Rattle.fs_laws.proofs.events.OtherChanges.{kept_none}
use Rattle.fs_laws.proofs.events.Help.{upd_same, upd_else}
use Rattle.fs_laws.proofs.journal.OneMoreEntry.{view_push, lawful_push, begins_commits, begins_begins, unknown_of, dues_due}
use Rattle.fs_laws.proofs.calls.OwnRecord.{reached_used}
use Rattle.fs_laws.proofs.events.JustFinished.{Either, Changed, Old, either}
use Rattle.fs_laws.proofs.events.Commit.{order_without, placed_in}
use Rattle.fs_laws.proofs.events.RecordChanged.{settle_same}
use Rattle.fs_laws.proofs.events.Take.{under_nil}
use Rattle.fs_laws.proofs.graphs.Release.{own_children, shapes_reserved, graph_reserved}
use Rattle.fs_laws.proofs.events.Return.{numbers_by}

-- the graph with the number that the new call reserves
pub record Given (old : State) (call : Form) (reserved : Option ℕ) (graph : Graph) : Type 0 where
  pub children : graph.child ≡ old.graph.child
  pub is_graph : IsGraph graph
  pub spelled : graph_shapes graph ≡ graph_shapes old.graph
  pub shapes : (m : ℕ) (s : Shape) → old.graph.shape m ≡ Some s → graph.shape m ≡ old.graph.shape m
  pub new : (m : ℕ) → reserved ≡ Some m → (old.graph.shape m ≡ None) × ((s : Shape) × (graph.shape m ≡ Some s))
  pub number : Fits call → NumberFor graph call reserved

-- nothing leads to a number that was not in use
unreached_by : (old : State) (inv : Invariant old) (n : ℕ) → old.graph.shape n ≡ None → (key : Key) → numbers old.graph key ≡ Some n → ⊥
unreached_by old inv n free key e = let u : (s : Shape) × (old.graph.shape n ≡ Some s) = reached_used old.graph inv.is_graph key n e in let z : ◌≡◌ {A = Option Shape} None (Some u.0) = sym free ∙ u.1 in cc

begin_keeps : (old : State) (inv : Invariant old) (seat : ℕ) (call : Call) (c : ℕ) (reserved : Option ℕ) (graph : Graph) → old.on_seat seat ≡ None → c ≡ begins old.timeline + 1 → Given old (form (limits_of old) call) reserved graph
    → Invariant (began old seat call c reserved graph)
begin_keeps old inv seat call c reserved graph free number g = record {
  key = inv.key;
  order = inv.order;
  is_graph = g.is_graph;
  kept = subst (λ (t : Map ℕ). CallFacts t (set_at c (Some op) old.ops) inv.key) (sym (numbers_by old.graph graph g.children)) (subst (λ (k : ℕ → Key). CallFacts (numbers old.graph) (set_at c (Some op) old.ops) k) (upd_same c inv.key) (kept_none (numbers old.graph) old.ops inv.key c op inv.kept refl));
  in_order = order_without old.ops c (Some op) inv.order others inv.in_order;
  all_placed = λ d q i e f. all_placed d q i (either old.ops c op d q e) f;
  lawful = lawful_push (start old.start) old.timeline (Begin c seat call) inv.lawful (unknown, inv.busy seat ∙ free);
  tied = subst (λ (t : Map Shape). Tied t (set_at c (Some op) old.ops) inv.key inv.order (view_after (start old.start) (old.timeline ++ Begin c seat call ∷ []))) (sym g.spelled) (subst (Tied (graph_shapes old.graph) (set_at c (Some op) old.ops) inv.key inv.order) (sym view_is) tied);
  own = λ d q e. own d q (either old.ops c op d q e);
  held = λ d q st n e. held d q st n (either old.ops c op d q e);
  apart = λ x y n p q differs e f. apart x y n p q differs (either old.ops c op x p e) (either old.ops c op y q f);
  seated = seated;
  busy = λ s. ap (λ (k : JournalView). k.busy s) view_is ∙ busy s (place seat (Some c) (view_after (start old.start) old.timeline).busy s) (place seat (Some c) old.on_seat s);
  seat_of = λ d q e. seat_of d q (either old.ops c op d q e);
  fresh = fresh;
}
  where
    op : Record
    op = new_op old.start.limits seat call reserved

    view_is : view_after (start old.start) (old.timeline ++ Begin c seat call ∷ []) ≡ noted (view_after (start old.start) old.timeline) (Begin c seat call)
    view_is = view_push (start old.start) old.timeline (Begin c seat call)

    unknown : (view_after (start old.start) old.timeline).call c ≡ None
    unknown = inv.fresh c (let z : c ≡ begins old.timeline + 1 = number in omega (arith, z))

    nothing : ((view_after (start old.start) old.timeline).due c ≡ None) × ((view_after (start old.start) old.timeline).back c ≡ false)
    nothing = unknown_of (start old.start) old.timeline (λ d e. (refl, refl)) inv.lawful c unknown

    none : old.ops c ≡ None
    none = go (old.ops c) refl
      where
        go : (o : Option Record) → old.ops c ≡ o → o ≡ None
        go None e = refl
        go (Some q) e = let z : ◌≡◌ {A = Option Call} None (Some q.call) = sym unknown ∙ inv.tied.calls c q e in cc

    not_new : (d : ℕ) (q : Record) → old.ops d ≡ Some q → d ≡ c → ⊥
    not_new d q e i = let z : ◌≡◌ {A = Option Record} None (Some q) = sym none ∙ ap old.ops (sym i) ∙ e in cc

    others : (d : ℕ) → IsIn d inv.order → d ≡ c → ⊥
    others d i e = let p : IsPlaced old.ops d = placed_in old.ops d inv.order inv.in_order i in not_new d p.op p.is e

    all_placed : (d : ℕ) (q : Record) (i : ℕ) → Either old.ops c (new_op old.start.limits seat call reserved) d q → q.phase ≡ Placed i → (i < commit_count (old.timeline ++ Begin c seat call ∷ [])) × IsIn d inv.order
    all_placed d q i (Changed e f) h = let z : ◌≡◌ {A = Phase} Walking (Placed i) = ap (λ (o : Record). o.phase) f ∙ h in cc
    all_placed d q i (Old m e) h = let a : (i < commit_count old.timeline) × IsIn d inv.order = inv.all_placed d q i e h in (subst (λ (n : ℕ). i < n) (sym (begins_commits old.timeline c seat call)) a.0, a.1)

    both : (settle (graph_shapes old.graph) (spots (set_at c (Some (new_op old.start.limits seat call reserved)) old.ops) inv.key inv.order) ≡ settle (graph_shapes old.graph) (spots old.ops inv.key inv.order)) × (settle_replies (graph_shapes old.graph) (spots (set_at c (Some (new_op old.start.limits seat call reserved)) old.ops) inv.key inv.order) ≡ settle_replies (graph_shapes old.graph) (spots old.ops inv.key inv.order))
    both = settle_same (graph_shapes old.graph) old.ops (set_at c (Some (new_op old.start.limits seat call reserved)) old.ops) inv.key inv.key inv.order (λ d i. ap (λ (o : Option Record). under (inv.key d) (remaining_of o)) (upd_else c (Some (new_op old.start.limits seat call reserved)) old.ops d (others d i)))

    tied : Tied (graph_shapes old.graph) (set_at c (Some (new_op old.start.limits seat call reserved)) old.ops) inv.key inv.order (noted (view_after (start old.start) old.timeline) (Begin c seat call))
    tied = record {
      played = both.0 ∙ inv.tied.played;
      dues = dues_due (view_after (start old.start) old.timeline) (noted (view_after (start old.start) old.timeline) (Begin c seat call)) inv.order (settle_replies (graph_shapes old.graph) (spots (set_at c (Some (new_op old.start.limits seat call reserved)) old.ops) inv.key inv.order)) (λ d. refl) (subst (Dues (view_after (start old.start) old.timeline) inv.order) (sym both.1) inv.tied.dues);
      fixed = λ d q r e f. fixed d q r (either old.ops c (new_op old.start.limits seat call reserved) d q e) f;
      fresh = λ d q e f. not_due d q (either old.ops c (new_op old.start.limits seat call reserved) d q e) f;
      calls = λ d q e. calls d q (either old.ops c (new_op old.start.limits seat call reserved) d q e);
    }
      where
        fixed : (d : ℕ) (q : Record) (r : Reply) → Either old.ops c (new_op old.start.limits seat call reserved) d q → q.phase ≡ Finished r → (view_after (start old.start) old.timeline).due d ≡ Some r
        fixed d q r (Changed e f) h = let z : ◌≡◌ {A = Phase} Walking (Finished r) = ap (λ (o : Record). o.phase) f ∙ h in cc
        fixed d q r (Old m e) h = inv.tied.fixed d q r e h

        not_due : (d : ℕ) (q : Record) → Either old.ops c (new_op old.start.limits seat call reserved) d q → q.phase ≡ Walking → (view_after (start old.start) old.timeline).due d ≡ None
        not_due d q (Changed e f) h = ap (view_after (start old.start) old.timeline).due e ∙ nothing.0
        not_due d q (Old m e) h = inv.tied.fresh d q e h

        calls : (d : ℕ) (q : Record) → Either old.ops c (new_op old.start.limits seat call reserved) d q → set_at c (Some call) (view_after (start old.start) old.timeline).call d ≡ Some q.call
        calls d q (Changed e f) = here (place c (Some call) (view_after (start old.start) old.timeline).call d)
          where
            here : Place (Option Call) c (Some call) (view_after (start old.start) old.timeline).call d → set_at c (Some call) (view_after (start old.start) old.timeline).call d ≡ Some q.call
            here (Here i j) = j ∙ ap (λ (o : Record). Some o.call) f
            here (Else n j) = absurd (n e)
        calls d q (Old m e) = upd_else c (Some call) (view_after (start old.start) old.timeline).call d m ∙ inv.tied.calls d q e

    new_own : Own (limits_of old) graph (new_op old.start.limits seat call reserved)
    new_own = record {
      parts = under_nil (form (limits_of old) call);
      well = λ st e. cc;
      spare = λ m e. ((g.new m e).1, λ key i. unreached_by old inv m (g.new m e).0 key (sym (ap (λ (t : Map ℕ). t key) (numbers_by old.graph graph g.children)) ∙ i));
      number = λ u f. g.number (by_text_any (limits_of old) call ∙ f);
      placed = λ i e. cc;
      gone = λ m e. cc;
      intact = λ u. refl;
      one_spare = λ m e f. cc;
      victim = λ u st e. cc;
      starts = λ u e. refl;
      single = λ st e. cc;
    }

    spare_used : (d m : ℕ) (q : Record) → old.ops d ≡ Some q → HasSpare q m → (s : Shape) × (old.graph.shape m ≡ Some s)
    spare_used d m q e (inl i) = ((inv.own d q e).spare m i).0
    spare_used d m q e (inr i) = ((inv.own d q e).gone m i).2

    own : (d : ℕ) (q : Record) → Either old.ops c (new_op old.start.limits seat call reserved) d q → Own (limits_of old) graph q
    own d q (Changed e f) = subst (Own (limits_of old) graph) f new_own
    own d q (Old m e) = own_children old.graph graph g.children q (λ k h. (let u : (s : Shape) × (old.graph.shape k ≡ Some s) = spare_used d k q e h in g.shapes k u.0 u.1)) (inv.own d q e)

    held : (d : ℕ) (q : Record) (st : Holdings) (n : ℕ) → Either old.ops c (new_op old.start.limits seat call reserved) d q → q.holdings ≡ Some st → Holds st n → old.holder n ≡ Some d
    held d q st n (Changed e f) h i = let z : ◌≡◌ {A = Option Holdings} None (Some st) = ap (λ (o : Record). o.holdings) f ∙ h in cc
    held d q st n (Old m e) h i = inv.held d q st n e h i

    -- the new number is nobody's
    new_apart : (d n : ℕ) (q : Record) → old.ops d ≡ Some q → HasSpare (new_op old.start.limits seat call reserved) n → HasSpare q n → ⊥
    new_apart d n q e (inl i) h = let u : (s : Shape) × (old.graph.shape n ≡ Some s) = spare_used d n q e h in let z : ◌≡◌ {A = Option Shape} None (Some u.0) = sym (g.new n i).0 ∙ u.1 in cc
    new_apart d n q e (inr i) h = cc

    apart : (x y n : ℕ) (p q : Record) → (x ≡ y → ⊥) → Either old.ops c (new_op old.start.limits seat call reserved) x p → Either old.ops c (new_op old.start.limits seat call reserved) y q → HasSpare p n → HasSpare q n → ⊥
    apart x y n p q differs (Changed e f) (Changed h i) a b = differs (e ∙ sym h)
    apart x y n p q differs (Changed e f) (Old m h) a b = new_apart y n q h (subst (λ (o : Record). HasSpare o n) (sym f) a) b
    apart x y n p q differs (Old m h) (Changed e f) a b = new_apart x n p h (subst (λ (o : Record). HasSpare o n) (sym f) b) a
    apart x y n p q differs (Old m e) (Old k h) a b = inv.apart x y n p q differs e h a b

    seated : (s d : ℕ) → set_at seat (Some c) old.on_seat s ≡ Some d → (q : Record) × (set_at c (Some (new_op old.start.limits seat call reserved)) old.ops d ≡ Some q) × (q.seat ≡ s)
    seated s d e = go (place seat (Some c) old.on_seat s)
      where
        here : d ≡ c → Place (Option Record) c (Some (new_op old.start.limits seat call reserved)) old.ops d → s ≡ seat → (q : Record) × (set_at c (Some (new_op old.start.limits seat call reserved)) old.ops d ≡ Some q) × (q.seat ≡ s)
        here i (Here k l) h = (new_op old.start.limits seat call reserved, l, sym h)
        here i (Else n l) h = absurd (n i)

        go : Place (Option ℕ) seat (Some c) old.on_seat s → (q : Record) × (set_at c (Some (new_op old.start.limits seat call reserved)) old.ops d ≡ Some q) × (q.seat ≡ s)
        go (Here i j) = let z : ◌≡◌ {A = Option ℕ} (Some c) (Some d) = sym j ∙ e in here (let y : d ≡ c = cc in y) (place c (Some (new_op old.start.limits seat call reserved)) old.ops d) i
        go (Else n j) =
            let w : (q : Record) × (old.ops d ≡ Some q) × (q.seat ≡ s) = inv.seated s d (sym j ∙ e) in
            (w.0, upd_else c (Some (new_op old.start.limits seat call reserved)) old.ops d (not_new d w.0 w.1) ∙ w.1, w.2)

    busy : (s : ℕ) → Place (Option ℕ) seat (Some c) (view_after (start old.start) old.timeline).busy s → Place (Option ℕ) seat (Some c) old.on_seat s → set_at seat (Some c) (view_after (start old.start) old.timeline).busy s ≡ set_at seat (Some c) old.on_seat s
    busy s (Here i j) (Here k l) = j ∙ sym l
    busy s (Here i j) (Else n l) = absurd (n i)
    busy s (Else n j) (Here k l) = absurd (n k)
    busy s (Else n j) (Else m l) = j ∙ inv.busy s ∙ sym l

    seat_of : (d : ℕ) (q : Record) → Either old.ops c (new_op old.start.limits seat call reserved) d q → ((view_after (start old.start) (old.timeline ++ Begin c seat call ∷ [])).seat_of d ≡ Some q.seat) × ((view_after (start old.start) (old.timeline ++ Begin c seat call ∷ [])).back d ≡ false)
    seat_of d q (Changed e f) = (ap (λ (k : JournalView). k.seat_of d) view_is ∙ here (place c (Some seat) (view_after (start old.start) old.timeline).seat_of d), ap (λ (k : JournalView). k.back d) view_is ∙ ap (view_after (start old.start) old.timeline).back e ∙ nothing.1)
      where
        here : Place (Option ℕ) c (Some seat) (view_after (start old.start) old.timeline).seat_of d → set_at c (Some seat) (view_after (start old.start) old.timeline).seat_of d ≡ Some q.seat
        here (Here i j) = j ∙ ap (λ (o : Record). Some o.seat) f
        here (Else n j) = absurd (n e)
    seat_of d q (Old m e) = (ap (λ (k : JournalView). k.seat_of d) view_is ∙ upd_else c (Some seat) (view_after (start old.start) old.timeline).seat_of d m ∙ (inv.seat_of d q e).0, ap (λ (k : JournalView). k.back d) view_is ∙ (inv.seat_of d q e).1)

    fresh : (d : ℕ) → begins (old.timeline ++ Begin c seat call ∷ []) < d → (view_after (start old.start) (old.timeline ++ Begin c seat call ∷ [])).call d ≡ None
    fresh d less =
        let a : begins (old.timeline ++ Begin c seat call ∷ []) ≡ begins old.timeline + 1 = begins_begins old.timeline c seat call in
        let z : c ≡ begins old.timeline + 1 = number in
        ap (λ (k : JournalView). k.call d) view_is ∙ upd_else c (Some call) (view_after (start old.start) old.timeline).call d (λ i. (let y : d ≡ c = i in omega (arith, a, z, less, y))) ∙ inv.fresh d (omega (arith, a, less))

-- a directory that is made has no names
bare_new : (e : EntryCall) (s : Shape) → new_shape e ≡ Some s → (names : List Name) (x : Name) → s ≡ Dir names → has_name x names ≡ true → ⊥
bare_new (Mkdir most) s i names x f h = let z : ◌≡◌ {A = Option Shape} (Some (Dir [])) (Some (Dir names)) = i ∙ ap (λ (t : Shape). Some t) f in none names x (let y : [] ≡ names = cc in y) h
  where
    none : (names : List Name) (x : Name) → [] ≡ names → has_name x names ≡ true → ⊥
    none [] x e h = cc
    none (y ∷ ys) x e h = cc
bare_new (Mknod most) s i names x f h = let z : ◌≡◌ {A = Option Shape} (Some (File [])) (Some (Dir names)) = i ∙ ap (λ (t : Shape). Some t) f in cc
bare_new Unlink s i names x f h = cc
bare_new Rmdir s i names x f h = cc

bare_of : (call : Form) (s : Shape) → reserves call ≡ Some s → (names : List Name) (x : Name) → s ≡ Dir names → has_name x names ≡ true → ⊥
bare_of (AtNode c p) s i = cc
bare_of (AtEntry e []) s i = cc
bare_of (AtEntry e (y ∷ p)) s i = bare_new e s i
bare_of (AtPair c p q) s i = cc

-- what the new number is for
number_given : (graph : Graph) (call : Form) (s : Shape) (n : ℕ) → reserves call ≡ Some s → graph.shape n ≡ Some s → ((key : Key) → numbers graph key ≡ Some n → ⊥) → Fits call → NumberFor graph call (Some n)
number_given graph (AtNode c p) s n i e loose f = tt
number_given graph (AtPair c p q) s n i e loose f = tt
number_given graph (AtEntry c []) s n i e loose f = cc
number_given graph (AtEntry c (y ∷ p)) s n i e loose f = λ shape j. (n, refl, (let z : ◌≡◌ {A = Option Shape} (Some s) (Some shape) = sym i ∙ j in e ∙ z), loose)

number_none : (graph : Graph) (call : Form) → reserves call ≡ None → Fits call → NumberFor graph call None
number_none graph (AtNode c p) i f = tt
number_none graph (AtPair c p q) i f = tt
number_none graph (AtEntry c []) i f = cc
number_none graph (AtEntry c (y ∷ p)) i f = λ shape j. (let z : ◌≡◌ {A = Option Shape} None (Some shape) = sym i ∙ j in absurd (no_shape shape z))
  where
    no_shape : (s : Shape) → ◌≡◌ {A = Option Shape} None (Some s) → ⊥
    no_shape s e = cc

pub keeps_begun : (c : ℕ) → BeginKeeps (Ok c)
keeps_begun c old new seat call inv (free, number, r) = go (reserved_by call) refl r
  where
    go : (o : Option Shape) → reserved_by call ≡ o → Reserves old seat call c o new → Invariant new
    go None i same = subst Invariant (sym same) (begin_keeps old inv seat call c None old.graph free number (record {
      children = refl;
      is_graph = inv.is_graph;
      spelled = refl;
      shapes = λ m s e. refl;
      new = λ m e. cc;
      number = number_none old.graph (form (limits_of old) call) (reserves_any (limits_of old) call ∙ i);
    }))
    go (Some s) i (n, below, unused, same) =
        let loose : (key : Key) → numbers old.graph key ≡ Some n → ⊥ = unreached_by old inv n unused in
        let here : (reserved_in n s old.graph).shape n ≡ Some s = there n s (place n (Some s) old.graph.shape n) in
        subst Invariant (sym same) (begin_keeps old inv seat call c (Some n) (reserved_in n s old.graph) free number (record {
          children = refl;
          is_graph = graph_reserved old.graph inv.is_graph n s unused (bare_of (form (limits_of old) call) s (reserves_any (limits_of old) call ∙ i));
          spelled = shapes_reserved old.graph inv.is_graph n s unused;
          shapes = λ m t e. upd_else n (Some s) old.graph.shape m (λ j. (let z : ◌≡◌ {A = Option Shape} None (Some t) = sym unused ∙ ap old.graph.shape (sym j) ∙ e in cc));
          new = λ m e. new_number n m s unused here e;
          number = number_given (reserved_in n s old.graph) (form (limits_of old) call) s n (reserves_any (limits_of old) call ∙ i) here loose;
        }))
      where
        there : (n : ℕ) (s : Shape) → Place (Option Shape) n (Some s) old.graph.shape n → (reserved_in n s old.graph).shape n ≡ Some s
        there n s (Here j k) = k
        there n s (Else j k) = absurd (j refl)

        new_number : (n m : ℕ) (s : Shape) → old.graph.shape n ≡ None → (reserved_in n s old.graph).shape n ≡ Some s → Some n ≡ Some m → (old.graph.shape m ≡ None) × ((t : Shape) × ((reserved_in n s old.graph).shape m ≡ Some t))
        new_number n m s unused here e = let z : n ≡ m = cc in (sym (ap old.graph.shape z) ∙ unused, (s, sym (ap (reserved_in n s old.graph).shape z) ∙ here))
