-- Helping keeps what every state keeps.
use Rattle.std.proofs.Common.{◌≡◌, ℕ, ◌<◌, ◌+◌, false, List, [], ◌∷◌, ◌++◌, Option, Some, None, refl, sym, ap, ◌∙◌, arith, subst, inl, inr}
use mathlib.Core.Path.{fun_ext}
use Rattle.fs_names.specs.Keys.{Key, after_prefix}
use Rattle.fs_names.specs.declared.limits.Limits.{Limits}
use Rattle.fs_calls.specs.Forms.{form, under}
use Rattle.fs_calls.specs.Graphs.{Graph, at, numbers, graph_shapes, set_at}
use Rattle.fs_timeline.specs.declared.entry.Entry.{Entry}
use Rattle.fs_timeline.specs.declared.entry.Entry.TheVariants.{Begin, Commit, Return}
use Rattle.fs_machine.specs.Records.{Holdings, Phase, Walking, Placed, Finished, Record, Records, Holds}
use Rattle.fs_laws.specs.JournalViews.{JournalView, start, view_after, IsNext}
use Rattle.fs_timeline.specs.Timeline.{begins, commit_count}
use Rattle.fs_laws.specs.Invariants.{HasSpare, IsIn, Own, Invariant, StepKeeps, IsPlaced, AllLater, InOrder, Tied, limits_of}
use Rattle.fs_laws.specs.CallFacts.{Keeps, CallFacts}
use Rattle.fs_machine.specs.States.{State, IsWalkingBelow, helping}
use Rattle.fs_machine.specs.declared.answers.Stepped.TheVariants.{Helped}
use Rattle.fs_laws.proofs.trees.Prefixes.{prefix_some}
use Rattle.fs_laws.proofs.graphs.Walks.{at_from}
use Rattle.fs_laws.proofs.events.OneCallChanged.{Place, Here, Else, place, kept_help}
use Rattle.fs_laws.proofs.journal.OneMoreEntry.{view_push, lawful_push}
use Rattle.fs_laws.proofs.journal.ViewAndMachine.{phased, committed, noted_played, not_placed, tied_help}

pub commits_push : (es : List Entry) (d : ℕ) → commit_count (es ++ Commit d ∷ []) ≡ commit_count es + 1
commits_push [] d = refl
commits_push (Begin n seat call ∷ es) d = commits_push es d
commits_push (Commit n ∷ es) d = ap (λ (m : ℕ). m + 1) (commits_push es d)
commits_push (Return n r ∷ es) d = commits_push es d

pub begins_push : (es : List Entry) (d : ℕ) → begins (es ++ Commit d ∷ []) ≡ begins es
begins_push [] d = refl
begins_push (Begin n seat call ∷ es) d = ap (λ (m : ℕ). m + 1) (begins_push es d)
begins_push (Commit n ∷ es) d = begins_push es d
begins_push (Return n r ∷ es) d = begins_push es d

pub upd_same : {A : Type 0} (d : ℕ) (f : ℕ → A) → set_at d (f d) f ≡ f
upd_same d f = fun_ext (λ c. go c (place d (f d) f c))
  where
    go : (c : ℕ) → Place _ d (f d) f c → set_at d (f d) f c ≡ f c
    go c (Here i j) = j ∙ ap f (sym i)
    go c (Else n j) = j

pub upd_here : {A : Type 0} (d : ℕ) (v : A) (f : ℕ → A) → set_at d v f d ≡ v
upd_here d v f = go (place d v f d)
  where
    go : Place _ d v f d → set_at d v f d ≡ v
    go (Here i j) = j
    go (Else n j) = absurd (n refl)

pub upd_else : {A : Type 0} (d : ℕ) (v : A) (f : ℕ → A) (c : ℕ) → (c ≡ d → ⊥) → set_at d v f c ≡ f c
upd_else d v f c n = go (place d v f c)
  where
    go : Place _ d v f c → set_at d v f c ≡ f c
    go (Here i j) = absurd (n i)
    go (Else m j) = j

in_push : (c d : ℕ) (cs : List ℕ) → IsIn c cs → IsIn c (cs ++ d ∷ [])
in_push c d [] i = absurd i
in_push c d (x ∷ cs) (inl e) = inl e
in_push c d (x ∷ cs) (inr i) = inr (in_push c d cs i)

in_last : (d : ℕ) (cs : List ℕ) → IsIn d (cs ++ d ∷ [])
in_last d [] = inl refl
in_last d (x ∷ cs) = inr (in_last d cs)

-- the helped call goes to the end of the order
abbrev pub to_new : (ops : Records) (d : ℕ) (v : Option Record) (x : ℕ) → (x ≡ d → ⊥) → IsPlaced ops x → IsPlaced (set_at d v ops) x
to_new ops d v x n p = record { op = p.op; holdings = p.holdings; place = p.place; is = upd_else d v ops x n ∙ p.is; on = p.on; phase = p.phase }

abbrev pub to_old : (ops : Records) (d : ℕ) (v : Option Record) (x : ℕ) → (x ≡ d → ⊥) → IsPlaced (set_at d v ops) x → IsPlaced ops x
to_old ops d v x n p = record { op = p.op; holdings = p.holdings; place = p.place; is = sym (upd_else d v ops x n) ∙ p.is; on = p.on; phase = p.phase }

later_push : (ops : Records) (d : ℕ) (q : Record) (num i : ℕ) → ops d ≡ Some q → q.phase ≡ Walking → i < num → (cs : List ℕ) → AllLater ops i cs → InOrder ops cs → AllLater (set_at d (Some (record q { phase = Placed num })) ops) i (cs ++ d ∷ [])
later_push ops d q num i is w less [] l o = (last, tt)
  where
    last : (p : IsPlaced (set_at d (Some (record q { phase = Placed num })) ops) d) → i < p.place
    last p =
        let a : ◌≡◌ {A = Option Record} (Some (record q { phase = Placed num })) (Some p.op) = sym (upd_here d (Some (record q { phase = Placed num })) ops) ∙ p.is in
        let b : record q { phase = Placed num } ≡ p.op = cc in
        let c : ◌≡◌ {A = Phase} (Placed num) (Placed p.place) = ap (λ (o : Record). o.phase) b ∙ p.phase in
        let e : num ≡ p.place = cc in
        subst (λ (m : ℕ). i < m) e less
later_push ops d q num i is w less (x ∷ cs) l o =
    ((λ p. l.0 (to_old ops d (Some (record q { phase = Placed num })) x (not_placed ops d x q is w o.0) p)), later_push ops d q num i is w less cs l.1 o.2)

pub order_push : (ops : Records) (d : ℕ) (q : Record) (st : Holdings) (num : ℕ) → ops d ≡ Some q → q.phase ≡ Walking → q.holdings ≡ Some st → ((c : ℕ) (p : IsPlaced ops c) → p.place < num) → (cs : List ℕ) → InOrder ops cs → InOrder (set_at d (Some (record q { phase = Placed num })) ops) (cs ++ d ∷ [])
order_push ops d q st num is w on less [] o = (record { op = record q { phase = Placed num }; holdings = st; place = num; is = upd_here d (Some (record q { phase = Placed num })) ops; on = on; phase = refl }, tt, tt)
order_push ops d q st num is w on less (x ∷ cs) o = (
  to_new ops d (Some (record q { phase = Placed num })) x (not_placed ops d x q is w o.0) o.0,
  later_push ops d q num o.0.place is w (less x o.0) cs o.1 o.2,
  order_push ops d q st num is w on less cs o.2,
)

-- what helping asks: the call walks, stands, and no walking call is below it
pub record Helps (old : State) (d : ℕ) (q : Record) (st : Holdings) : Type 0 where
  pub is : old.ops d ≡ Some q
  pub walks : q.phase ≡ Walking
  pub on : q.holdings ≡ Some st
  pub lowest : (e : ℕ) → (d ≡ e → ⊥) → IsWalkingBelow old st.node e → ⊥

abbrev placed_op : State → Record → Record
placed_op old q = record q { phase = Placed (commit_count old.timeline) }

-- a record of the new state is the helped one or an old one
pub data Which (old : State) (d : ℕ) (q : Record) (c : ℕ) (op : Record) : Type 0 where
  Mine : c ≡ d → placed_op old q ≡ op → Which old d q c op
  Other : (c ≡ d → ⊥) → old.ops c ≡ Some op → Which old d q c op

which : (old : State) (d : ℕ) (q : Record) (c : ℕ) (op : Record) → set_at d (Some (placed_op old q)) old.ops c ≡ Some op → Which old d q c op
which old d q c op e = go (place d (Some (placed_op old q)) old.ops c)
  where
    go : Place (Option Record) d (Some (placed_op old q)) old.ops c → Which old d q c op
    go (Here i j) = let a : ◌≡◌ {A = Option Record} (Some (placed_op old q)) (Some op) = sym j ∙ e in Mine i (let b : placed_op old q ≡ op = cc in b)
    go (Else n j) = Other n (sym j ∙ e)

-- its old record, with the same spare numbers
pub record OldOf (old : State) (c : ℕ) (new : Record) : Type 0 where
  pub op : Record
  pub is : old.ops c ≡ Some op
  pub reserved : op.reserved ≡ new.reserved
  pub removed : op.removed ≡ new.removed

old_of : (old : State) (d : ℕ) (q : Record) (c : ℕ) (op : Record) → old.ops d ≡ Some q → Which old d q c op → OldOf old c op
old_of old d q c op is (Mine e f) = record { op = q; is = ap old.ops e ∙ is; reserved = ap (λ (o : Record). o.reserved) f; removed = ap (λ (o : Record). o.removed) f }
old_of old d q c op is (Other n e) = record { op = op; is = e; reserved = refl; removed = refl }

own_placed : {limits : Limits} (graph : Graph) (q : Record) (st : Holdings) (n : ℕ) → q.phase ≡ Walking → q.holdings ≡ Some st → Own limits graph q → Own limits graph (record q { phase = Placed n })
own_placed graph q st n w on o = record {
  parts = o.parts;
  well = o.well;
  spare = o.spare;
  number = λ u. o.number (λ r e. (let z : ◌≡◌ {A = Phase} Walking (Finished r) = sym w ∙ e in cc));
  victim = λ u. o.victim (λ r e. (let z : ◌≡◌ {A = Phase} Walking (Finished r) = sym w ∙ e in cc));
  starts = λ u. o.starts (λ r e. (let z : ◌≡◌ {A = Phase} Walking (Finished r) = sym w ∙ e in cc));
  single = o.single;
  intact = λ u. o.intact (λ r e. (let z : ◌≡◌ {A = Phase} Walking (Finished r) = sym w ∙ e in cc));
  one_spare = o.one_spare;
  placed = λ i e. (st, on);
  gone = o.gone;
}

helped_inv : (old : State) (d : ℕ) (q : Record) (st : Holdings) → Invariant old → Helps old d q st → Invariant (helping old d q)
helped_inv old d q st inv h = record {
  key = inv.key;
  order = inv.order ++ d ∷ [];
  is_graph = inv.is_graph;
  kept = subst (λ (k : ℕ → Key). CallFacts (numbers old.graph) (set_at d (Some (placed_op old q)) old.ops) k) (upd_same d inv.key) (kept_help (numbers old.graph) old.ops inv.key d q (commit_count old.timeline) inv.kept h.is h.walks none_below (λ x p j e f. (inv.all_placed x p j e f).0));
  in_order = order_push old.ops d q st (commit_count old.timeline) h.is h.walks h.on (λ x p. (inv.all_placed x p.op p.place p.is p.phase).0) inv.order inv.in_order;
  all_placed = λ x p i e f. all_placed x p i (which old d q x p e) f;
  lawful = lawful_push (start old.start) old.timeline (Commit d) inv.lawful both.0;
  tied = subst (Tied (graph_shapes old.graph) (set_at d (Some (placed_op old q)) old.ops) inv.key (inv.order ++ d ∷ [])) (sym view_is) both.1;
  own = λ x p e. own x p (which old d q x p e);
  held = λ x p z n e. held x p z n (which old d q x p e);
  apart = λ x y n p r differs e f. apart x y n p r differs (old_of old d q x p h.is (which old d q x p e)) (old_of old d q y r h.is (which old d q y r f));
  seated = seated;
  busy = λ x. ap (λ (b : JournalView). b.busy x) view_is ∙ inv.busy x;
  seat_of = λ x p e. seat_of x p (which old d q x p e);
  fresh = λ x less. ap (λ (b : JournalView). b.call x) view_is ∙ inv.fresh x (subst (λ (m : ℕ). m < x) (begins_push old.timeline d) less);
}
  where
    view : JournalView
    view = view_after (start old.start) old.timeline

    mine : Keeps (numbers old.graph) (inv.key d) q st
    mine = inv.kept.each d q st h.is h.on

    stands : under (inv.key d) q.remaining ≡ form (limits_of old) q.call
    stands = ap (λ (k : Key). under k q.remaining) (mine.walking h.walks) ∙ (inv.own d q h.is).parts

    both : IsNext (view_after (start old.start) old.timeline) (Commit d) × Tied (graph_shapes old.graph) (set_at d (Some (phased q (Placed (commit_count old.timeline), q.reserved, q.removed))) old.ops) inv.key (inv.order ++ d ∷ []) (committed (view_after (start old.start) old.timeline) d (form (limits_of old) q.call))
    both = tied_help (limits_of old) (graph_shapes old.graph) old.ops inv.key inv.order (view_after (start old.start) old.timeline) d q (commit_count old.timeline) inv.tied h.is h.walks inv.in_order stands

    view_is : view_after (start old.start) (old.timeline ++ Commit d ∷ []) ≡ committed (view_after (start old.start) old.timeline) d (form (limits_of old) q.call)
    view_is = view_push (start old.start) old.timeline (Commit d) ∙ noted_played old.start old.timeline d q.call (inv.tied.calls d q h.is)

    none_below : (e : ℕ) (p : Record) (other : Holdings) → (d ≡ e → ⊥) → old.ops e ≡ Some p → p.holdings ≡ Some other → p.phase ≡ Walking → after_prefix (inv.key d) (inv.key e) ≡ None
    none_below e p other n is_e on_e w_e = go (after_prefix (inv.key d) (inv.key e)) refl
      where
        go : (o : Option Key) → after_prefix (inv.key d) (inv.key e) ≡ o → o ≡ None
        go None i = refl
        go (Some r) i =
            let there : numbers old.graph (inv.key e) ≡ Some other.node = (inv.kept.each e p other is_e on_e).located.here in
            let b : at old.graph.child st.node r ≡ Some other.node = sym (at_from old.graph.child 0 st.node (inv.key d) r mine.located.here) ∙ ap (numbers old.graph) (sym (prefix_some (inv.key d) (inv.key e) r i)) ∙ there in
            absurd (h.lowest e n (p, is_e, w_e, (other, r, on_e, b)))

    all_placed : (x : ℕ) (p : Record) (i : ℕ) → Which old d q x p → p.phase ≡ Placed i → (i < commit_count (old.timeline ++ Commit d ∷ [])) × IsIn x (inv.order ++ d ∷ [])
    all_placed x p i (Mine e f) g =
        let a : ◌≡◌ {A = Phase} (Placed (commit_count old.timeline)) (Placed i) = ap (λ (o : Record). o.phase) f ∙ g in
        let b : commit_count old.timeline ≡ i = cc in
        let c : commit_count (old.timeline ++ Commit d ∷ []) ≡ commit_count old.timeline + 1 = commits_push old.timeline d in
        ((omega arith), subst (λ (y : ℕ). IsIn y (inv.order ++ d ∷ [])) (sym e) (in_last d inv.order))
    all_placed x p i (Other n e) g =
        let a : (i < commit_count old.timeline) × IsIn x inv.order = inv.all_placed x p i e g in
        let b : i < commit_count old.timeline = a.0 in
        let c : commit_count (old.timeline ++ Commit d ∷ []) ≡ commit_count old.timeline + 1 = commits_push old.timeline d in
        ((omega arith), in_push x d inv.order a.1)

    own : (x : ℕ) (p : Record) → Which old d q x p → Own (limits_of old) old.graph p
    own x p (Mine e f) = subst (Own (limits_of old) old.graph) f (own_placed old.graph q st (commit_count old.timeline) h.walks h.on (inv.own d q h.is))
    own x p (Other n e) = inv.own x p e

    held : (x : ℕ) (p : Record) (z : Holdings) (n : ℕ) → Which old d q x p → p.holdings ≡ Some z → Holds z n → old.holder n ≡ Some x
    held x p z n (Mine e f) g i = inv.held d q z n h.is (ap (λ (o : Record). o.holdings) f ∙ g) i ∙ ap (λ (y : ℕ). Some y) (sym e)
    held x p z n (Other m e) g i = inv.held x p z n e g i

    seat_of : (x : ℕ) (p : Record) → Which old d q x p → ((view_after (start old.start) (old.timeline ++ Commit d ∷ [])).seat_of x ≡ Some p.seat) × ((view_after (start old.start) (old.timeline ++ Commit d ∷ [])).back x ≡ false)
    seat_of x p (Mine e f) =
        let a : ((view_after (start old.start) old.timeline).seat_of d ≡ Some q.seat) × ((view_after (start old.start) old.timeline).back d ≡ false) = inv.seat_of d q h.is in (
          ap (λ (b : JournalView). b.seat_of x) view_is ∙ ap (view_after (start old.start) old.timeline).seat_of e ∙ a.0 ∙ ap (λ (o : Record). Some o.seat) f,
          ap (λ (b : JournalView). b.back x) view_is ∙ ap (view_after (start old.start) old.timeline).back e ∙ a.1,
        )
    seat_of x p (Other n e) =
        let a : ((view_after (start old.start) old.timeline).seat_of x ≡ Some p.seat) × ((view_after (start old.start) old.timeline).back x ≡ false) = inv.seat_of x p e in
        (ap (λ (b : JournalView). b.seat_of x) view_is ∙ a.0, ap (λ (b : JournalView). b.back x) view_is ∙ a.1)

    spared : (p r : Record) (n : ℕ) → p.reserved ≡ r.reserved → p.removed ≡ r.removed → HasSpare r n → HasSpare p n
    spared p r n e f (inl g) = inl (e ∙ g)
    spared p r n e f (inr g) = inr (f ∙ g)

    apart : (x y n : ℕ) (p r : Record) → (x ≡ y → ⊥) → OldOf old x p → OldOf old y r → HasSpare p n → HasSpare r n → ⊥
    apart x y n p r differs a b i j = inv.apart x y n a.op b.op differs a.is b.is (spared a.op p n a.reserved a.removed i) (spared b.op r n b.reserved b.removed j)

    seated : (seat c : ℕ) → old.on_seat seat ≡ Some c → (op : Record) × (set_at d (Some (placed_op old q)) old.ops c ≡ Some op) × (op.seat ≡ seat)
    seated seat c e = go (place d (Some (placed_op old q)) old.ops c) (inv.seated seat c e)
      where
        go : Place (Option Record) d (Some (placed_op old q)) old.ops c → (op : Record) × (old.ops c ≡ Some op) × (op.seat ≡ seat) → (op : Record) × (set_at d (Some (placed_op old q)) old.ops c ≡ Some op) × (op.seat ≡ seat)
        go (Here i j) (op, f, g) =
            let a : ◌≡◌ {A = Option Record} (Some q) (Some op) = sym h.is ∙ ap old.ops (sym i) ∙ f in
            let b : q ≡ op = cc in
            (placed_op old q, j, ap (λ (o : Record). o.seat) b ∙ g)
        go (Else n j) (op, f, g) = (op, j ∙ f, g)

pub keeps_helped : (d : ℕ) → StepKeeps (Helped d)
keeps_helped d old new seat inv (c, op, s, moves, walks, (((n, m, (p, is_p, w, (st, r, on, b))), lowest), least), q, is_q, same_name) =
    let a : ◌≡◌ {A = Option Record} (Some p) (Some q) = sym is_p ∙ is_q in
    let e : p ≡ q = cc in
    subst Invariant (sym same_name) (helped_inv old d q st inv (record {
      is = is_q;
      walks = subst (λ (o : Record). o.phase ≡ Walking) e w;
      on = subst (λ (o : Record). o.holdings ≡ Some st) e on;
      lowest = λ x differs. lowest p st x is_p on differs;
    }))
