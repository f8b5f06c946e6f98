-- A state in which one call has just finished keeps what every state keeps.
use Rattle.std.proofs.Common.{◌≡◌, ℕ, ◌<◌, false, List, Option, Some, sym, ap, ◌∙◌, subst, ◌⊎◌, inl, inr}
use Rattle.fs_names.specs.Keys.{Key}
use Rattle.fs_calls.specs.Graphs.{numbers, graph_shapes, set_at, IsGraph}
use Rattle.fs_timeline.specs.declared.entry.Entry.{Entry}
use Rattle.fs_machine.specs.Finishes.{Effect}
use Rattle.fs_machine.specs.Records.{Phase, Placed, Finished, Holds, Record, Records, Holdings}
use Rattle.fs_laws.specs.JournalViews.{JournalView, start, view_after, IsLawful}
use Rattle.fs_timeline.specs.Timeline.{begins, commit_count}
use Rattle.fs_laws.specs.Invariants.{HasSpare, IsIn, Own, Invariant, InOrder, Tied, limits_of}
use Rattle.fs_laws.specs.CallFacts.{CallFacts}
use Rattle.fs_machine.specs.Leaving.{finished_op}
use Rattle.fs_machine.specs.States.{State}
use Rattle.fs_laws.proofs.graphs.Alterations.{Shapes, Reached}
use Rattle.fs_laws.proofs.events.OneCallChanged.{Place, Here, Else, place, kept_finish}
use Rattle.fs_laws.proofs.events.Help.{upd_same}

-- a record of the new state is that of the changed call, or an old one
pub data Either (old : Records) (c : ℕ) (v : Record) (d : ℕ) (q : Record) : Type 0 where
  Changed : d ≡ c → v ≡ q → Either old c v d q
  Old : (d ≡ c → ⊥) → old d ≡ Some q → Either old c v d q

pub either : (old : Records) (c : ℕ) (v : Record) (d : ℕ) (q : Record) → set_at c (Some v) old d ≡ Some q → Either old c v d q
either old c v d q e = go (place c (Some v) old d)
  where
    go : Place (Option Record) c (Some v) old d → Either old c v d q
    go (Here i j) = let a : ◌≡◌ {A = Option Record} (Some v) (Some q) = sym j ∙ e in Changed i (let b : v ≡ q = cc in b)
    go (Else n j) = Old n (sym j ∙ e)

-- the views agree on who is under way
pub record SameCalls (old new : JournalView) : Type 0 where
  pub call : (c : ℕ) → new.call c ≡ old.call c
  pub seat_of : (c : ℕ) → new.seat_of c ≡ old.seat_of c
  pub back : (c : ℕ) → new.back c ≡ old.back c
  pub busy : (seat : ℕ) → new.busy seat ≡ old.busy seat

pub record Closing (old : State) (inv : Invariant old) (c : ℕ) (op : Record) (made : Effect) (timeline : List Entry) : Type 0 where
  pub is : old.ops c ≡ Some op
  pub key : ℕ → Key
  pub order : List ℕ
  pub is_graph : IsGraph made.graph
  pub kept : CallFacts (numbers made.graph) old.ops key
  pub in_order : InOrder (set_at c (Some (finished_op op made)) old.ops) order
  pub all_placed : (d : ℕ) (q : Record) (i : ℕ) → (d ≡ c → ⊥) → old.ops d ≡ Some q → q.phase ≡ Placed i → (i < commit_count timeline) × IsIn d order
  pub lawful : IsLawful (start old.start) timeline
  pub tied : Tied (graph_shapes made.graph) (set_at c (Some (finished_op op made)) old.ops) key order (view_after (start old.start) timeline)
  pub own : Own (limits_of old) made.graph (finished_op op made)
  pub own_other : (d : ℕ) (q : Record) → (d ≡ c → ⊥) → old.ops d ≡ Some q → Own (limits_of old) made.graph q
  pub spares : (n : ℕ) → HasSpare (finished_op op made) n → HasSpare op n ⊎ Reached old.graph n
  pub shapes : Shapes old.graph.shape made.graph.shape (Reached old.graph)
  pub calls : SameCalls (view_after (start old.start) old.timeline) (view_after (start old.start) timeline)
  pub begun : begins timeline ≡ begins old.timeline

-- the state after it
abbrev pub ended : State → ℕ → Record → Effect → List Entry → State
ended old c op made timeline = record old { graph = made.graph; ops = set_at c (Some (finished_op op made)) old.ops; timeline = timeline }

pub ends_keep : (old : State) (inv : Invariant old) (c : ℕ) (op : Record) (made : Effect) (timeline : List Entry) → Closing old inv c op made timeline → Invariant (ended old c op made timeline)
ends_keep old inv c op made timeline f = record {
  key = f.key;
  order = f.order;
  is_graph = f.is_graph;
  kept = subst (λ (k : ℕ → Key). CallFacts (numbers made.graph) (set_at c (Some done) old.ops) k) (upd_same c f.key) (kept_finish (numbers made.graph) old.ops f.key c op made f.kept f.is);
  in_order = f.in_order;
  all_placed = λ d q i e g. all_placed d q i (either old.ops c done d q e) g;
  lawful = f.lawful;
  tied = f.tied;
  own = λ d q e. own d q (either old.ops c done d q e);
  held = λ d q st n e. held d q st n (either old.ops c done d q e);
  apart = λ x y n p q differs e g. apart x y n p q differs (either old.ops c done x p e) (either old.ops c done y q g);
  seated = seated;
  busy = λ seat. f.calls.busy seat ∙ inv.busy seat;
  seat_of = λ d q e. seat_of d q (either old.ops c done d q e);
  fresh = λ d less. f.calls.call d ∙ inv.fresh d (subst (λ (m : ℕ). m < d) f.begun less);
}
  where
    done : Record
    done = finished_op op made

    all_placed : (d : ℕ) (q : Record) (i : ℕ) → Either old.ops c (finished_op op made) d q → q.phase ≡ Placed i → (i < commit_count timeline) × IsIn d f.order
    all_placed d q i (Changed e g) h = let z : ◌≡◌ {A = Phase} (Finished made.reply) (Placed i) = ap (λ (o : Record). o.phase) g ∙ h in cc
    all_placed d q i (Old n e) h = f.all_placed d q i n e h

    own : (d : ℕ) (q : Record) → Either old.ops c (finished_op op made) d q → Own (limits_of old) made.graph q
    own d q (Changed e g) = subst (Own (limits_of old) made.graph) g f.own
    own d q (Old n e) = f.own_other d q n e

    held : (d : ℕ) (q : Record) (st : Holdings) (n : ℕ) → Either old.ops c (finished_op op made) d q → q.holdings ≡ Some st → Holds st n → old.holder n ≡ Some d
    held d q st n (Changed e g) h i = inv.held c op st n f.is (ap (λ (o : Record). o.holdings) g ∙ h) i ∙ ap (λ (m : ℕ). Some m) (sym e)
    held d q st n (Old m e) h i = inv.held d q st n e h i

    -- a spare number of another call is not reached
    loose : (d : ℕ) (q : Record) (n : ℕ) → old.ops d ≡ Some q → HasSpare q n → Reached old.graph n → ⊥
    loose d q n e (inl i) r = ((inv.own d q e).spare n i).1 r.0 r.1
    loose d q n e (inr i) r = ((inv.own d q e).gone n i).1 r.0 r.1

    mine : (d n : ℕ) (q : Record) → (d ≡ c → ⊥) → old.ops d ≡ Some q → HasSpare op n ⊎ Reached old.graph n → HasSpare q n → ⊥
    mine d n q m e (inl i) h = inv.apart c d n op q (λ j. m (sym j)) f.is e i h
    mine d n q m e (inr r) h = loose d q n e h r

    apart : (x y n : ℕ) (p q : Record) → (x ≡ y → ⊥) → Either old.ops c (finished_op op made) x p → Either old.ops c (finished_op op made) y q → HasSpare p n → HasSpare q n → ⊥
    apart x y n p q differs (Changed e g) (Changed h i) a b = differs (e ∙ sym h)
    apart x y n p q differs (Changed e g) (Old m h) a b = mine y n q m h (f.spares n (subst (λ (o : Record). HasSpare o n) (sym g) a)) b
    apart x y n p q differs (Old m h) (Changed e g) a b = mine x n p m h (f.spares n (subst (λ (o : Record). HasSpare o n) (sym g) b)) a
    apart x y n p q differs (Old m e) (Old k h) a b = inv.apart x y n p q differs e h a b

    seated : (seat d : ℕ) → old.on_seat seat ≡ Some d → (q : Record) × (set_at c (Some (finished_op op made)) old.ops d ≡ Some q) × (q.seat ≡ seat)
    seated seat d e = go (place c (Some (finished_op op made)) old.ops d) (inv.seated seat d e)
      where
        go : Place (Option Record) c (Some (finished_op op made)) old.ops d → (q : Record) × (old.ops d ≡ Some q) × (q.seat ≡ seat) → (q : Record) × (set_at c (Some (finished_op op made)) old.ops d ≡ Some q) × (q.seat ≡ seat)
        go (Here i j) (q, g, h) =
            let a : ◌≡◌ {A = Option Record} (Some op) (Some q) = sym f.is ∙ ap old.ops (sym i) ∙ g in
            let b : op ≡ q = cc in
            (finished_op op made, j, ap (λ (o : Record). o.seat) b ∙ h)
        go (Else n j) (q, g, h) = (q, j ∙ g, h)

    seat_of : (d : ℕ) (q : Record) → Either old.ops c (finished_op op made) d q → ((view_after (start old.start) timeline).seat_of d ≡ Some q.seat) × ((view_after (start old.start) timeline).back d ≡ false)
    seat_of d q (Changed e g) =
        let a : ((view_after (start old.start) old.timeline).seat_of c ≡ Some op.seat) × ((view_after (start old.start) old.timeline).back c ≡ false) = inv.seat_of c op f.is in
        (f.calls.seat_of d ∙ ap (view_after (start old.start) old.timeline).seat_of e ∙ a.0 ∙ ap (λ (o : Record). Some o.seat) g, f.calls.back d ∙ ap (view_after (start old.start) old.timeline).back e ∙ a.1)
    seat_of d q (Old n e) =
        let a : ((view_after (start old.start) old.timeline).seat_of d ≡ Some q.seat) × ((view_after (start old.start) old.timeline).back d ≡ false) = inv.seat_of d q e in
        (f.calls.seat_of d ∙ a.0, f.calls.back d ∙ a.1)
