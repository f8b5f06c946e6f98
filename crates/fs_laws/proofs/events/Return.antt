-- A return keeps what every state keeps.
use Rattle.std.proofs.Common.{◌≡◌, ℕ, ◌<◌, true, [], ◌∷◌, ◌++◌, Option, Some, None, refl, sym, ap, ◌∙◌, subst, inl}
use Rattle.fs_names.specs.Keys.{Key}
use Rattle.fs_names.specs.Names.{Name}
use Rattle.fs_names.specs.Shapes.{Shape}
use Rattle.fs_calls.specs.Forms.{under, by_paths}
use Rattle.fs_laws.specs.Maps.{Map}
use Rattle.fs_calls.specs.declared.reply.Reply.{Reply}
use Rattle.fs_calls.specs.Graphs.{Graph, at, numbers, graph_shapes, set_at, IsGraph}
use Rattle.fs_timeline.specs.declared.entry.Entry.TheVariants.{Return}
use Rattle.fs_machine.specs.Leaving.{unreserved}
use Rattle.fs_machine.specs.Moves.{next, next_by}
use Rattle.fs_machine.specs.declared.moves.Move.TheVariants.{Return as Ends}
use Rattle.fs_machine.specs.Records.{Phase, Placed, Finished, Record, Holdings}
use Rattle.fs_laws.specs.JournalViews.{JournalView, start, view_after, noted, free_seat}
use Rattle.fs_timeline.specs.Timeline.{commit_count}
use Rattle.fs_laws.specs.Invariants.{remaining_of, spots, IsPlaced, HasSpare, IsIn, Invariant, StepKeeps, Tied, Dues}
use Rattle.fs_laws.specs.Settled.{settle, settle_replies}
use Rattle.fs_laws.specs.CallFacts.{CallFacts}
use Rattle.fs_machine.specs.States.{State}
use Rattle.fs_machine.specs.declared.answers.Stepped.TheVariants.{Returned}
use Rattle.fs_laws.proofs.events.OneCallChanged.{Place, Here, Else, place}
use Rattle.fs_laws.proofs.events.Help.{upd_else}
use Rattle.fs_laws.proofs.journal.OneMoreEntry.{view_push, lawful_push, returns_commits, returns_begins, dues_due}
use Rattle.fs_laws.proofs.events.Commit.{order_without, placed_in}
use Rattle.fs_laws.proofs.events.RecordChanged.{settle_same}
use Rattle.fs_laws.proofs.graphs.Release.{own_children, release_else, shapes_released, graph_released}

-- the graph after the reserved number is given back
pub record GivenBack (old : State) (op : Record) (graph : Graph) : Type 0 where
  pub children : graph.child ≡ old.graph.child
  pub is_graph : IsGraph graph
  pub spelled : graph_shapes graph ≡ graph_shapes old.graph
  pub shapes : (m : ℕ) → (HasSpare op m → ⊥) → graph.shape m ≡ old.graph.shape m

given_back : (old : State) (inv : Invariant old) (c : ℕ) (op : Record) → old.ops c ≡ Some op → (o : Option ℕ) → op.reserved ≡ o → GivenBack old op (unreserved o old.graph)
given_back old inv c op is None e = record { children = refl; is_graph = inv.is_graph; spelled = refl; shapes = λ m h. refl }
given_back old inv c op is (Some n) e =
    let loose : (key : Key) → numbers old.graph key ≡ Some n → ⊥ = ((inv.own c op is).spare n e).1 in
    record {
      children = refl;
      is_graph = graph_released old.graph inv.is_graph n loose;
      spelled = shapes_released old.graph n loose;
      shapes = λ m h. release_else old.graph n m (λ i. h (inl (e ∙ ap (λ (x : ℕ). Some x) (sym i))));
    }

-- a call that ends stands nowhere
pub ends_nowhere : (graph : Graph) (op : Record) (r : Reply) → op.phase ≡ Finished r → next graph op ≡ Ends → op.holdings ≡ None
ends_nowhere graph op r ph m = go op.holdings refl (ap (λ (p : Phase). next_by graph op (by_paths op.call) p op.holdings) (sym ph) ∙ m)
  where
    go : (s : Option Holdings) → op.holdings ≡ s → next_by graph op (by_paths op.call) (Finished r) s ≡ Ends → op.holdings ≡ None
    go None i e = i
    go (Some st) i e = cc

pub numbers_by : (old new : Graph) → new.child ≡ old.child → numbers new ≡ numbers old
numbers_by old new e = ap (λ (k : ℕ → Name → Option ℕ). λ (key : Key). at k 0 key) e

return_keeps : (old : State) (inv : Invariant old) (c : ℕ) (op : Record) (r : Reply) (graph : Graph) → old.ops c ≡ Some op → op.phase ≡ Finished r → op.holdings ≡ None → GivenBack old op graph
    → Invariant (record old { graph = graph; ops = set_at c None old.ops; on_seat = set_at op.seat None old.on_seat; timeline = old.timeline ++ Return c r ∷ [] })
return_keeps old inv c op r graph is ph off b = record {
  key = inv.key;
  order = inv.order;
  is_graph = b.is_graph;
  kept = subst (λ (t : Map ℕ). CallFacts t (set_at c None old.ops) inv.key) (sym (numbers_by old.graph graph b.children)) kept;
  in_order = order_without old.ops c None inv.order others inv.in_order;
  all_placed = λ d q i e f. (let a : (i < commit_count old.timeline) × IsIn d inv.order = inv.all_placed d q i (was d q e).1 f in (subst (λ (n : ℕ). i < n) (sym (returns_commits old.timeline c r)) a.0, a.1));
  lawful = lawful_push (start old.start) old.timeline (Return c r) inv.lawful (due, (inv.seat_of c op is).1);
  tied = subst (λ (t : Map Shape). Tied t (set_at c None old.ops) inv.key inv.order (view_after (start old.start) (old.timeline ++ Return c r ∷ []))) (sym b.spelled) (subst (Tied (graph_shapes old.graph) (set_at c None old.ops) inv.key inv.order) (sym view_is) tied);
  own = λ d q e. own_children old.graph graph b.children q (λ m h. b.shapes m (λ g. inv.apart c d m op q (λ i. (was d q e).0 (sym i)) is (was d q e).1 g h)) (inv.own d q (was d q e).1);
  held = λ d q st n e f h. inv.held d q st n (was d q e).1 f h;
  apart = λ x y n p q differs e f. inv.apart x y n p q differs (was x p e).1 (was y q f).1;
  seated = seated;
  busy = λ s. ap (λ (k : JournalView). k.busy s) view_is ∙ ap (λ (o : Option ℕ). free_seat (view_after (start old.start) old.timeline) o s) (inv.seat_of c op is).0 ∙ busy s (place op.seat None (view_after (start old.start) old.timeline).busy s) (place op.seat None old.on_seat s);
  seat_of = λ d q e. (
    ap (λ (k : JournalView). k.seat_of d) view_is ∙ (inv.seat_of d q (was d q e).1).0,
    ap (λ (k : JournalView). k.back d) view_is ∙ upd_else c true (view_after (start old.start) old.timeline).back d (was d q e).0 ∙ (inv.seat_of d q (was d q e).1).1,
  );
  fresh = λ d less. ap (λ (k : JournalView). k.call d) view_is ∙ inv.fresh d (subst (λ (n : ℕ). n < d) (returns_begins old.timeline c r) less);
}
  where
    view_is : view_after (start old.start) (old.timeline ++ Return c r ∷ []) ≡ noted (view_after (start old.start) old.timeline) (Return c r)
    view_is = view_push (start old.start) old.timeline (Return c r)

    due : (view_after (start old.start) old.timeline).due c ≡ Some r
    due = inv.tied.fixed c op r is ph

    was : (d : ℕ) (q : Record) → set_at c None old.ops d ≡ Some q → (d ≡ c → ⊥) × (old.ops d ≡ Some q)
    was d q e = go (place c None old.ops d)
      where
        go : Place (Option Record) c None old.ops d → (d ≡ c → ⊥) × (old.ops d ≡ Some q)
        go (Here i j) = let z : ◌≡◌ {A = Option Record} None (Some q) = sym j ∙ e in cc
        go (Else n j) = (n, sym j ∙ e)

    others : (d : ℕ) → IsIn d inv.order → d ≡ c → ⊥
    others d i e =
        let p : IsPlaced old.ops d = placed_in old.ops d inv.order inv.in_order i in
        let a : ◌≡◌ {A = Option Record} (Some p.op) (Some op) = sym p.is ∙ ap old.ops e ∙ is in
        let f : p.op ≡ op = cc in
        let z : ◌≡◌ {A = Phase} (Placed p.place) (Finished r) = sym p.phase ∙ ap (λ (o : Record). o.phase) f ∙ ph in
        cc

    kept : CallFacts (numbers old.graph) (set_at c None old.ops) inv.key
    kept = record {
      one_key = inv.kept.one_key;
      each = λ d q st e f. inv.kept.each d q st (was d q e).1 f;
      pairs = λ d e p q st other n f g h i. inv.kept.pairs d e p q st other n (was d p f).1 (was e q g).1 h i;
    }

    both : (settle (graph_shapes old.graph) (spots (set_at c None old.ops) inv.key inv.order) ≡ settle (graph_shapes old.graph) (spots old.ops inv.key inv.order)) × (settle_replies (graph_shapes old.graph) (spots (set_at c None old.ops) inv.key inv.order) ≡ settle_replies (graph_shapes old.graph) (spots old.ops inv.key inv.order))
    both = settle_same (graph_shapes old.graph) old.ops (set_at c None old.ops) inv.key inv.key inv.order (λ d i. ap (λ (o : Option Record). under (inv.key d) (remaining_of o)) (upd_else c None old.ops d (others d i)))

    tied : Tied (graph_shapes old.graph) (set_at c None old.ops) inv.key inv.order (noted (view_after (start old.start) old.timeline) (Return c r))
    tied = record {
      played = both.0 ∙ inv.tied.played;
      dues = dues_due (view_after (start old.start) old.timeline) (noted (view_after (start old.start) old.timeline) (Return c r)) inv.order (settle_replies (graph_shapes old.graph) (spots (set_at c None old.ops) inv.key inv.order)) (λ d. refl) (subst (Dues (view_after (start old.start) old.timeline) inv.order) (sym both.1) inv.tied.dues);
      fixed = λ d q s e f. inv.tied.fixed d q s (was d q e).1 f;
      fresh = λ d q e f. inv.tied.fresh d q (was d q e).1 f;
      calls = λ d q e. inv.tied.calls d q (was d q e).1;
    }

    seated : (s d : ℕ) → set_at op.seat None old.on_seat s ≡ Some d → (q : Record) × (set_at c None old.ops d ≡ Some q) × (q.seat ≡ s)
    seated s d e = go (place op.seat None old.on_seat s)
      where
        go : Place (Option ℕ) op.seat None old.on_seat s → (q : Record) × (set_at c None old.ops d ≡ Some q) × (q.seat ≡ s)
        go (Here i j) = let z : ◌≡◌ {A = Option ℕ} None (Some d) = sym j ∙ e in cc
        go (Else n j) =
            let g : (q : Record) × (old.ops d ≡ Some q) × (q.seat ≡ s) = inv.seated s d (sym j ∙ e) in
            let differs : d ≡ c → ⊥ = λ i.
            (let a : ◌≡◌ {A = Option Record} (Some op) (Some g.0) = sym is ∙ ap old.ops (sym i) ∙ g.1 in
            let f : op ≡ g.0 = cc in
            n (sym (ap (λ (o : Record). o.seat) f ∙ g.2))) in
            (g.0, upd_else c None old.ops d differs ∙ g.1, g.2)

    busy : (s : ℕ) → Place (Option ℕ) op.seat None (view_after (start old.start) old.timeline).busy s → Place (Option ℕ) op.seat None old.on_seat s → set_at op.seat None (view_after (start old.start) old.timeline).busy s ≡ set_at op.seat None old.on_seat s
    busy s (Here i j) (Here k l) = j ∙ sym l
    busy s (Here i j) (Else n l) = absurd (n i)
    busy s (Else n j) (Here k l) = absurd (n k)
    busy s (Else n j) (Else m l) = j ∙ inv.busy s ∙ sym l

pub keeps_returned : (r : Reply) → StepKeeps (Returned r)
keeps_returned r old new seat inv (c, op, moves, ph, same) = subst Invariant (sym same) (return_keeps old inv c op r (unreserved op.reserved old.graph) moves.1 ph (ends_nowhere old.graph op r ph moves.2) (given_back old inv c op moves.1 op.reserved refl))
