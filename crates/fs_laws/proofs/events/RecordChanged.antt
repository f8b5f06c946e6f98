-- A state in which the record of one call has changed, and neither its phase nor the tree, keeps what every state keeps.
use Rattle.std.proofs.Common.{◌≡◌, ℕ, ◌<◌, false, List, [], ◌∷◌, Option, Some, refl, sym, ap, ap₂, ◌∙◌, subst, inl, inr}
use Rattle.fs_names.specs.Keys.{Key}
use Rattle.fs_names.specs.Shapes.{Shape}
use Rattle.fs_laws.specs.Changes.{reply, after}
use Rattle.fs_calls.specs.Forms.{Form, under}
use Rattle.fs_laws.specs.Maps.{Map}
use Rattle.fs_calls.specs.declared.call.Call.{Call}
use Rattle.fs_calls.specs.declared.reply.Reply.{Reply}
use Rattle.fs_calls.specs.Graphs.{Graph, numbers, graph_shapes, set_at, IsGraph}
use Rattle.fs_machine.specs.Records.{Phase, Placed, Holds, Record, Records, Holdings}
use Rattle.fs_laws.specs.JournalViews.{start, view_after}
use Rattle.fs_timeline.specs.Timeline.{commit_count}
use Rattle.fs_laws.specs.Invariants.{remaining_of, spots, IsPlaced, AllLater, InOrder, HasSpare, IsIn, Own, Invariant, Tied, Dues, limits_of}
use Rattle.fs_laws.specs.Settled.{settle, settle_replies}
use Rattle.fs_laws.specs.CallFacts.{CallFacts}
use Rattle.fs_machine.specs.States.{State}
use Rattle.fs_laws.proofs.events.OneCallChanged.{Place, Here, Else, place}
use Rattle.fs_laws.proofs.events.Commit.{placed_in}
use Rattle.fs_laws.proofs.events.JustFinished.{Either, Changed, Old, either}

-- an order stays where placed calls stay placed
pub order_map : (old new : Records) → ((d : ℕ) → IsPlaced old d → IsPlaced new d) → ((d : ℕ) (p : IsPlaced old d) (q : IsPlaced new d) → p.place ≡ q.place) → (cs : List ℕ) → InOrder old cs → InOrder new cs
order_map old new go same [] o = tt
order_map old new go same (c ∷ cs) o = (go c o.0, later cs o.1 o.2, order_map old new go same cs o.2)
  where
    later : (cs : List ℕ) → AllLater old o.0.place cs → InOrder old cs → AllLater new (go c o.0).place cs
    later [] l o = tt
    later (d ∷ cs) l o2 = ((λ q. subst (λ (n : ℕ). n < q.place) (same c o.0 (go c o.0)) (subst (λ (n : ℕ). o.0.place < n) (same d o2.0 q) (l.0 o2.0))), later cs l.1 o2.2)

-- what the calls are, as they stand, stays
pub settle_same : (tree : Map Shape) (ops new : Records) (key key_new : ℕ → Key) (cs : List ℕ) → ((d : ℕ) → IsIn d cs → under (key_new d) (remaining_of (new d)) ≡ under (key d) (remaining_of (ops d)))
    → (settle tree (spots new key_new cs) ≡ settle tree (spots ops key cs)) × (settle_replies tree (spots new key_new cs) ≡ settle_replies tree (spots ops key cs))
settle_same tree ops new key key_new [] h = (refl, refl)
settle_same tree ops new key key_new (c ∷ cs) h =
    let e : under (key_new c) (remaining_of (new c)) ≡ under (key c) (remaining_of (ops c)) = h c (inl refl) in
    let r : (settle (after tree (under (key_new c) (remaining_of (new c)))) (spots new key_new cs) ≡ settle (after tree (under (key_new c) (remaining_of (new c)))) (spots ops key cs)) × (settle_replies (after tree (under (key_new c) (remaining_of (new c)))) (spots new key_new cs) ≡ settle_replies (after tree (under (key_new c) (remaining_of (new c)))) (spots ops key cs)) =
    settle_same (after tree (under (key_new c) (remaining_of (new c)))) ops new key key_new cs (λ d i. h d (inr i)) in (
      r.0 ∙ ap (λ (f : Form). settle (after tree f) (spots ops key cs)) e,
      ap (λ (rs : List Reply). reply tree (under (key_new c) (remaining_of (new c))) ∷ rs) r.1 ∙ ap (λ (f : Form). reply tree f ∷ settle_replies (after tree f) (spots ops key cs)) e,
    )

pub record Renews (old : State) (inv : Invariant old) (c : ℕ) (op v : Record) (graph : Graph) (holder : ℕ → Option ℕ) (k : Key) : Type 0 where
  pub is : old.ops c ≡ Some op
  pub seat : v.seat ≡ op.seat
  pub call : v.call ≡ op.call
  pub phase : v.phase ≡ op.phase
  pub is_graph : IsGraph graph
  pub kept : CallFacts (numbers graph) (set_at c (Some v) old.ops) (set_at c k inv.key)
  pub spelled : graph_shapes graph ≡ graph_shapes old.graph
  pub under_same : (i : ℕ) → op.phase ≡ Placed i → under k v.remaining ≡ under (inv.key c) op.remaining
  pub own : Own (limits_of old) graph v
  pub own_other : (d : ℕ) (q : Record) → (d ≡ c → ⊥) → old.ops d ≡ Some q → Own (limits_of old) graph q
  pub held : (d : ℕ) (q : Record) (st : Holdings) (n : ℕ) → Either old.ops c v d q → q.holdings ≡ Some st → Holds st n → holder n ≡ Some d
  pub spares : (n : ℕ) → HasSpare v n → HasSpare op n

-- the state after it
abbrev pub renewed : State → ℕ → Record → Graph → (ℕ → Option ℕ) → State
renewed old c v graph holder = record old { graph = graph; holder = holder; ops = set_at c (Some v) old.ops }

pub renews_keep : (old : State) (inv : Invariant old) (c : ℕ) (op v : Record) (graph : Graph) (holder : ℕ → Option ℕ) (k : Key) → Renews old inv c op v graph holder k → Invariant (renewed old c v graph holder)
renews_keep old inv c op v graph holder k f = record {
  key = set_at c k inv.key;
  order = inv.order;
  is_graph = f.is_graph;
  kept = f.kept;
  in_order = order_map old.ops (set_at c (Some v) old.ops) placed_new same_place inv.order inv.in_order;
  all_placed = λ d q i e g. all_placed d q i (either old.ops c v d q e) g;
  lawful = inv.lawful;
  tied = subst (λ (t : Map Shape). Tied t (set_at c (Some v) old.ops) (set_at c k inv.key) inv.order (view_after (start old.start) old.timeline)) (sym f.spelled) tied;
  own = λ d q e. own d q (either old.ops c v d q e);
  held = λ d q st n e. f.held d q st n (either old.ops c v d q e);
  apart = λ x y n p q differs e g. apart x y n p q differs (either old.ops c v x p e) (either old.ops c v y q g);
  seated = seated;
  busy = inv.busy;
  seat_of = λ d q e. seat_of d q (either old.ops c v d q e);
  fresh = inv.fresh;
}
  where
    -- an old record with the same phase
    was : (d : ℕ) (q : Record) → Either old.ops c v d q → (p : Record) × (old.ops d ≡ Some p) × (q.phase ≡ p.phase) × (q.call ≡ p.call) × (q.seat ≡ p.seat)
    was d q (Changed e g) = (op, ap old.ops e ∙ f.is, ap (λ (o : Record). o.phase) (sym g) ∙ f.phase, ap (λ (o : Record). o.call) (sym g) ∙ f.call, ap (λ (o : Record). o.seat) (sym g) ∙ f.seat)
    was d q (Old n e) = (q, e, refl, refl, refl)

    placed_new : (d : ℕ) → IsPlaced old.ops d → IsPlaced (set_at c (Some v) old.ops) d
    placed_new d p = go (place c (Some v) old.ops d)
      where
        go : Place (Option Record) c (Some v) old.ops d → IsPlaced (set_at c (Some v) old.ops) d
        go (Here i j) =
            let a : ◌≡◌ {A = Option Record} (Some p.op) (Some op) = sym p.is ∙ ap old.ops i ∙ f.is in
            let b : p.op ≡ op = cc in
            let ph : v.phase ≡ Placed p.place = f.phase ∙ ap (λ (o : Record). o.phase) (sym b) ∙ p.phase in
            let s : (st : Holdings) × (v.holdings ≡ Some st) = f.own.placed p.place ph in
            record { op = v; holdings = s.0; place = p.place; is = j; on = s.1; phase = ph }
        go (Else n j) = record { op = p.op; holdings = p.holdings; place = p.place; is = j ∙ p.is; on = p.on; phase = p.phase }

    same_place : (d : ℕ) (p : IsPlaced old.ops d) (q : IsPlaced (set_at c (Some v) old.ops) d) → p.place ≡ q.place
    same_place d p q =
        let w : (r : Record) × (old.ops d ≡ Some r) × (q.op.phase ≡ r.phase) × (q.op.call ≡ r.call) × (q.op.seat ≡ r.seat) = was d q.op (either old.ops c v d q.op q.is) in
        let a : ◌≡◌ {A = Option Record} (Some p.op) (Some w.0) = sym p.is ∙ w.1 in
        let b : p.op ≡ w.0 = cc in
        let e : ◌≡◌ {A = Phase} (Placed p.place) (Placed q.place) = sym p.phase ∙ ap (λ (o : Record). o.phase) b ∙ sym w.2 ∙ q.phase in
        cc

    all_placed : (d : ℕ) (q : Record) (i : ℕ) → Either old.ops c v d q → q.phase ≡ Placed i → (i < commit_count old.timeline) × IsIn d inv.order
    all_placed d q i w g =
        let p : (p : Record) × (old.ops d ≡ Some p) × (q.phase ≡ p.phase) × (q.call ≡ p.call) × (q.seat ≡ p.seat) = was d q w in
        inv.all_placed d p.0 i p.1 (sym p.2 ∙ g)

    same_under : (d : ℕ) → IsIn d inv.order → under (set_at c k inv.key d) (remaining_of (set_at c (Some v) old.ops d)) ≡ under (inv.key d) (remaining_of (old.ops d))
    same_under d i = go (place c (Some v) old.ops d) (place c k inv.key d)
      where
        p : IsPlaced old.ops d
        p = placed_in old.ops d inv.order inv.in_order i

        go : Place (Option Record) c (Some v) old.ops d → Place Key c k inv.key d → under (set_at c k inv.key d) (remaining_of (set_at c (Some v) old.ops d)) ≡ under (inv.key d) (remaining_of (old.ops d))
        go (Here i j) (Here _ l) =
            let a : ◌≡◌ {A = Option Record} (Some p.op) (Some op) = sym p.is ∙ ap old.ops i ∙ f.is in
            let b : p.op ≡ op = cc in
            let ph : op.phase ≡ Placed p.place = ap (λ (o : Record). o.phase) (sym b) ∙ p.phase in
            ap₂ (λ (x : Key) (o : Option Record). under x (remaining_of o)) l j ∙ f.under_same p.place ph ∙ sym (ap₂ (λ (x : Key) (o : Option Record). under x (remaining_of o)) (ap inv.key i) (ap old.ops i ∙ f.is))
        go (Here i j) (Else n l) = absurd (n i)
        go (Else n j) (Here i l) = absurd (n i)
        go (Else n j) (Else m l) = ap₂ (λ (x : Key) (o : Option Record). under x (remaining_of o)) l j

    both : (settle (graph_shapes old.graph) (spots (set_at c (Some v) old.ops) (set_at c k inv.key) inv.order) ≡ settle (graph_shapes old.graph) (spots old.ops inv.key inv.order)) × (settle_replies (graph_shapes old.graph) (spots (set_at c (Some v) old.ops) (set_at c k inv.key) inv.order) ≡ settle_replies (graph_shapes old.graph) (spots old.ops inv.key inv.order))
    both = settle_same (graph_shapes old.graph) old.ops (set_at c (Some v) old.ops) inv.key (set_at c k inv.key) inv.order same_under

    tied : Tied (graph_shapes old.graph) (set_at c (Some v) old.ops) (set_at c k inv.key) inv.order (view_after (start old.start) old.timeline)
    tied = record {
      played = both.0 ∙ inv.tied.played;
      dues = subst (Dues (view_after (start old.start) old.timeline) inv.order) (sym both.1) inv.tied.dues;
      fixed = λ d q r e g. (let p : (p : Record) × (old.ops d ≡ Some p) × (q.phase ≡ p.phase) × (q.call ≡ p.call) × (q.seat ≡ p.seat) = was d q (either old.ops c v d q e) in inv.tied.fixed d p.0 r p.1 (sym p.2 ∙ g));
      fresh = λ d q e g. (let p : (p : Record) × (old.ops d ≡ Some p) × (q.phase ≡ p.phase) × (q.call ≡ p.call) × (q.seat ≡ p.seat) = was d q (either old.ops c v d q e) in inv.tied.fresh d p.0 p.1 (sym p.2 ∙ g));
      calls = λ d q e. (let p : (p : Record) × (old.ops d ≡ Some p) × (q.phase ≡ p.phase) × (q.call ≡ p.call) × (q.seat ≡ p.seat) = was d q (either old.ops c v d q e) in inv.tied.calls d p.0 p.1 ∙ ap (λ (x : Call). Some x) (sym p.3));
    }

    own : (d : ℕ) (q : Record) → Either old.ops c v d q → Own (limits_of old) graph q
    own d q (Changed e g) = subst (Own (limits_of old) graph) g f.own
    own d q (Old n e) = f.own_other d q n e

    mine : (x n : ℕ) (p : Record) → Either old.ops c v x p → HasSpare p n → (o : Record) × (old.ops x ≡ Some o) × HasSpare o n
    mine x n p (Changed e g) h = (op, ap old.ops e ∙ f.is, f.spares n (subst (λ (o : Record). HasSpare o n) (sym g) h))
    mine x n p (Old m e) h = (p, e, h)

    apart : (x y n : ℕ) (p q : Record) → (x ≡ y → ⊥) → Either old.ops c v x p → Either old.ops c v y q → HasSpare p n → HasSpare q n → ⊥
    apart x y n p q differs a b g h =
        let s : (o : Record) × (old.ops x ≡ Some o) × HasSpare o n = mine x n p a g in
        let t : (o : Record) × (old.ops y ≡ Some o) × HasSpare o n = mine y n q b h in
        inv.apart x y n s.0 t.0 differs s.1 t.1 s.2 t.2

    seated : (seat d : ℕ) → old.on_seat seat ≡ Some d → (q : Record) × (set_at c (Some v) old.ops d ≡ Some q) × (q.seat ≡ seat)
    seated seat d e = go (place c (Some v) old.ops d) (inv.seated seat d e)
      where
        go : Place (Option Record) c (Some v) old.ops d → (q : Record) × (old.ops d ≡ Some q) × (q.seat ≡ seat) → (q : Record) × (set_at c (Some v) old.ops d ≡ Some q) × (q.seat ≡ seat)
        go (Here i j) (q, g, h) =
            let a : ◌≡◌ {A = Option Record} (Some op) (Some q) = sym f.is ∙ ap old.ops (sym i) ∙ g in
            let b : op ≡ q = cc in
            (v, j, f.seat ∙ ap (λ (o : Record). o.seat) b ∙ h)
        go (Else n j) (q, g, h) = (q, j ∙ g, h)

    seat_of : (d : ℕ) (q : Record) → Either old.ops c v d q → ((view_after (start old.start) old.timeline).seat_of d ≡ Some q.seat) × ((view_after (start old.start) old.timeline).back d ≡ false)
    seat_of d q w =
        let p : (p : Record) × (old.ops d ≡ Some p) × (q.phase ≡ p.phase) × (q.call ≡ p.call) × (q.seat ≡ p.seat) = was d q w in
        let a : ((view_after (start old.start) old.timeline).seat_of d ≡ Some p.0.seat) × ((view_after (start old.start) old.timeline).back d ≡ false) = inv.seat_of d p.0 p.1 in
        (a.0 ∙ ap (λ (n : ℕ). Some n) (sym p.4), a.1)
