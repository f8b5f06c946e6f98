-- A commit keeps what every state keeps.
use Rattle.std.proofs.Common.{◌≡◌, ℕ, ◌<◌, ◌+◌, List, [], ◌∷◌, ◌++◌, Option, Some, None, refl, sym, ap, ap₂, ◌∙◌, arith, subst, ◌⊎◌, inl, inr}
use Rattle.fs_names.specs.Keys.{Key}
use Rattle.fs_names.specs.Shapes.{Shape}
use Rattle.fs_laws.specs.Changes.{Change, no_change, changed, looked, outcome, reply, after, if_sound}
use Rattle.fs_calls.specs.Forms.{form, Form, under, Fits, by_text, by_paths}
use Rattle.fs_calls.specs.declared.call.Call.{Call}
use Rattle.fs_laws.specs.Maps.{Map, below}
use Rattle.fs_calls.specs.declared.errno.Errno.{Errno}
use Rattle.fs_calls.specs.declared.reply.Reply.{Reply}
use Rattle.fs_calls.specs.declared.reply.Reply.TheVariants.{Failed}
use Rattle.fs_calls.proofs.FormLemmas.{by_text_any}
use Rattle.fs_calls.specs.Starts.{Start}
use Rattle.fs_calls.specs.Graphs.{Graph, numbers, graph_shapes, set_at}
use Rattle.fs_timeline.specs.declared.entry.Entry.{Entry}
use Rattle.fs_timeline.specs.declared.entry.Entry.TheVariants.{Commit}
use Rattle.fs_machine.specs.Finishes.{Effect, no_effect, effect_at, effect_of, finish}
use Rattle.fs_machine.specs.Moves.{next, next_by, next_on}
use Rattle.fs_machine.specs.declared.moves.Move.TheVariants.{Finish as Finishes}
use Rattle.fs_machine.specs.declared.moves.Moved.{Moved}
use Rattle.fs_machine.specs.Records.{Phase, Walking, Placed, Finished, Record, Records, Holdings}
use Rattle.fs_laws.specs.JournalViews.{JournalView, start, view_after, IsNext}
use Rattle.fs_timeline.specs.Timeline.{commit_count}
use Rattle.fs_laws.specs.Invariants.{remaining_of, spots, IsPlaced, AllLater, InOrder, HasSpare, IsIn, Own, Invariant, StepKeeps, Tied, limits_of}
use Rattle.fs_laws.specs.Placed.{ReadsNothingBelow, ChangesNothingBelow, Passes, PastAll, InPlace, rekey, rekey_all}
use Rattle.fs_laws.specs.Settled.{settle, settle_replies}
use Rattle.fs_laws.specs.CallFacts.{IsAfter, Keeps, CallFacts, Pair}
use Rattle.fs_machine.specs.Leaving.{finished_op}
use Rattle.fs_machine.specs.States.{State, NoneBelow, committing}
use Rattle.fs_machine.specs.declared.answers.Stepped.TheVariants.{Committed}
use Rattle.fs_laws.proofs.calls.Located.{change_under, outcome_located, fits_under}
use Rattle.fs_laws.proofs.helping.FinishPassesPlaced.{past_all}
use Rattle.fs_laws.proofs.graphs.TreesOfChanges.{resolve_at}
use Rattle.fs_laws.proofs.finish.Replies.{finish_reply}
use Rattle.fs_laws.proofs.finish.TreeAfter.{finish_tree}
use Rattle.fs_laws.proofs.journal.OneMoreEntry.{view_push, lawful_push}
use Rattle.fs_laws.proofs.helping.SettledThroughRename.{in_place_of}
use Rattle.fs_laws.proofs.journal.ViewAndMachine.{phased, committed, noted_played, not_placed, tied_commit}
use Rattle.fs_laws.proofs.events.Help.{commits_push, begins_push, upd_else, to_new}
use Rattle.fs_laws.proofs.graphs.Alterations.{Altered, Reached, shapes_same}
use Rattle.fs_laws.proofs.helping.ReadsNothingBelow.{Front, Off}
use Rattle.fs_laws.proofs.helping.PairsReadNothingBelow.{off_of}
use Rattle.fs_laws.proofs.finish.Changes.{Finisher, Does}
use Rattle.fs_laws.proofs.finish.EachCall.{does}
use Rattle.fs_laws.proofs.calls.OwnRecord.{reached_used, own_other, own_finished}
use Rattle.fs_laws.proofs.events.JustFinished.{Closing, ended, ends_keep, SameCalls}

-- a call whose next move is to finish is decided by its paths, or stands somewhere
pub data Ready (graph : Graph) (op : Record) (o : Moved) : Type 0 where
  By_text : (e : Errno) → by_paths op.call ≡ Some e → Ready graph op o
  By_holdings : (st : Holdings) → by_paths op.call ≡ None → op.holdings ≡ Some st → next_on graph op.remaining st ≡ Finishes o → Ready graph op o

pub ready : (graph : Graph) (op : Record) (o : Moved) → next graph op ≡ Finishes o → Ready graph op o
ready graph op o m = go op.phase (by_paths op.call) op.holdings refl refl m
  where
    go : (phase : Phase) (e : Option Errno) (s : Option Holdings) → by_paths op.call ≡ e → op.holdings ≡ s → next_by graph op e phase s ≡ Finishes o → Ready graph op o
    go (Finished r) e None i j f = cc
    go (Finished r) e (Some st) i j f = cc
    go Walking (Some e) s i j f = By_text e i
    go (Placed n) (Some e) s i j f = By_text e i
    go Walking None None i j f = cc
    go (Placed n) None None i j f = cc
    go Walking None (Some st) i j f = By_holdings st i j f
    go (Placed n) None (Some st) i j f = By_holdings st i j f

pub spots_rekey : (ops : Records) (key : ℕ → Key) (ch : Change) (cs : List ℕ) → spots ops (λ d. rekey ch (key d)) cs ≡ rekey_all ch (spots ops key cs)
spots_rekey ops key ch [] = refl
spots_rekey ops key ch (c ∷ cs) = ap (λ (ps : List (Key × Form)). (rekey ch (key c), remaining_of (ops c)) ∷ ps) (spots_rekey ops key ch cs)

-- what is known of a call that finishes where it stands
pub record Facts (graph : Graph) (ops : Records) (key : ℕ → Key) (c : ℕ) (op : Record) (st : Holdings) : Type 0 where
  pub ch : Change
  pub is_under : (x : Change) × (ch ≡ change_under (key c) x)
  pub does : Does graph ops key st op.reserved ch (effect_at graph op.remaining st op.reserved)
  pub out : (outcome (graph_shapes graph) (under (key c) op.remaining)).1 ≡ ch
  pub fits : Fits (under (key c) op.remaining)
  pub reply_is : (effect_at graph op.remaining st op.reserved).reply ≡ reply (graph_shapes graph) (under (key c) op.remaining)
  pub tree_is : graph_shapes (effect_at graph op.remaining st op.reserved).graph ≡ changed ch (graph_shapes graph)
  pub passes : (d : ℕ) (p : IsPlaced ops d) → (c ≡ d → ⊥) → IsAfter (Placed p.place) op.phase → ReadsNothingBelow (graph_shapes graph) (under (key c) op.remaining) (key d) × ChangesNothingBelow ch (key d)

pub facts : (graph : Graph) (ops : Records) (key : ℕ → Key) (c : ℕ) (op : Record) (st : Holdings) (o : Moved) → Finisher graph ops key c op st o → Facts graph ops key c op st
facts graph ops key c op st o f = record {
  ch = change_under (key c) (looked (below (key c) (graph_shapes graph)) op.remaining).1;
  is_under = ((looked (below (key c) (graph_shapes graph)) op.remaining).1, refl);
  does = does graph ops key c op st o in_use.0 f k.fits in_use.1;
  out = out;
  fits = fits_under (key c) op.remaining k.fits;
  reply_is = finish_reply graph f.is_graph (key c) in_use.0 op.remaining st op.reserved o k.located.here in_use.1 k.fits f.well f.next;
  tree_is =
      finish_tree graph f.is_graph (key c) in_use.0 op.remaining st op.reserved o k.located.here in_use.1 k.fits f.well f.number f.next
      ∙ ap (λ (x : Change). changed x (graph_shapes graph)) out;
  passes = passes;
}
  where
    k : Keeps (numbers graph) (key c) op st
    k = f.kept.each c op st f.is f.on

    in_use : (s : Shape) × (graph.shape st.node ≡ Some s)
    in_use = reached_used graph f.is_graph (key c) st.node k.located.here

    out : (outcome (graph_shapes graph) (under (key c) op.remaining)).1 ≡ change_under (key c) (looked (below (key c) (graph_shapes graph)) op.remaining).1
    out =
        ap (λ (r : Reply × Change). r.1) (outcome_located (graph_shapes graph) (key c) op.remaining (resolve_at graph f.is_graph st.node (key c) k.located.here) k.fits)
        ∙ ap (λ (e : Option Errno). change_under (key c) (if_sound e (looked (below (key c) (graph_shapes graph)) op.remaining)).1) k.fits

    passes : (d : ℕ) (p : IsPlaced ops d) → (c ≡ d → ⊥) → IsAfter (Placed p.place) op.phase → ReadsNothingBelow (graph_shapes graph) (under (key c) op.remaining) (key d) × ChangesNothingBelow (change_under (key c) (looked (below (key c) (graph_shapes graph)) op.remaining).1) (key d)
    passes d p differs later =
        let l : Keeps (numbers graph) (key d) p.op p.holdings = f.kept.each d p.op p.holdings p.is p.on in
        let u : (s : Shape) × (graph.shape p.holdings.node ≡ Some s) = reached_used graph f.is_graph (key d) p.holdings.node l.located.here in
        let mine : Pair (numbers graph) (key c) st op.phase (key d) p.holdings p.op.phase = f.kept.pairs c d op p.op st p.holdings differs f.is p.is f.on p.on in
        let its : Pair (numbers graph) (key d) p.holdings p.op.phase (key c) st op.phase = f.kept.pairs d c p.op op p.holdings st (λ e. differs (sym e)) p.is f.is p.on f.on in
        let front : Front graph (key c) st (key d) p.holdings = record { there = l.located.here; off = its.after (subst (λ (z : Phase). IsAfter z op.phase) (sym p.phase) later); apart = its.apart; clear = mine.clear } in
        let off : Off graph (key c) op.remaining (key d) = off_of graph f.is_graph (key c) op.remaining st o (key d) p.holdings in_use.0 u.0 k.located in_use.1 u.1 k.fits f.well f.victim f.next front in
        (off.blind, off.clear)

pub passes_list : (graph : Graph) (ops : Records) (key : ℕ → Key) (c : ℕ) (op : Record) (st : Holdings) (f : Facts graph ops key c op st) (cs : List ℕ) → InOrder ops cs → ((d : ℕ) (p : IsPlaced ops d) → IsIn d cs → (c ≡ d → ⊥) × IsAfter (Placed p.place) op.phase) → Passes (graph_shapes graph) (under (key c) op.remaining) f.ch (spots ops key cs)
passes_list graph ops key c op st f [] order h = tt
passes_list graph ops key c op st f (d ∷ cs) order h =
    let i : (c ≡ d → ⊥) × IsAfter (Placed order.0.place) op.phase = h d order.0 (inl refl) in
    let one : ReadsNothingBelow (graph_shapes graph) (under (key c) op.remaining) (key d) × ChangesNothingBelow f.ch (key d) = f.passes d order.0 i.0 i.1 in
    (one.0, one.1, passes_list graph ops key c op st f cs order.2 (λ e p j. h e p (inr j)))

-- the order of the other placed calls stays
pub order_without : (ops : Records) (c : ℕ) (v : Option Record) (cs : List ℕ) → ((d : ℕ) → IsIn d cs → d ≡ c → ⊥) → InOrder ops cs → InOrder (set_at c v ops) cs
order_without ops c v [] n o = tt
order_without ops c v (d ∷ cs) n o = (to_new ops c v d (n d (inl refl)) o.0, later cs (λ e i. n e (inr i)) o.1, order_without ops c v cs (λ e i. n e (inr i)) o.2)
  where
    old : (d : ℕ) → (d ≡ c → ⊥) → IsPlaced (set_at c v ops) d → IsPlaced ops d
    old d n p = record { op = p.op; holdings = p.holdings; place = p.place; is = sym (upd_else c v ops d n) ∙ p.is; on = p.on; phase = p.phase }

    later : (cs : List ℕ) → ((e : ℕ) → IsIn e cs → e ≡ c → ⊥) → AllLater ops o.0.place cs → AllLater (set_at c v ops) o.0.place cs
    later [] n l = tt
    later (e ∷ cs) n l = (λ p. l.0 (old e (n e (inl refl)) p), later cs (λ x i. n x (inr i)) l.1)

pub placed_in : (ops : Records) (d : ℕ) (cs : List ℕ) → InOrder ops cs → IsIn d cs → IsPlaced ops d
placed_in ops d [] o i = absurd i
placed_in ops d (c ∷ cs) o (inl e) = subst (IsPlaced ops) (sym e) o.0
placed_in ops d (c ∷ cs) o (inr i) = placed_in ops d cs o.2 i

same_committed : (first : Start) (es : List Entry) (c : ℕ) (call : Call) → (view_after (start first) es).call c ≡ Some call → SameCalls (view_after (start first) es) (view_after (start first) (es ++ Commit c ∷ []))
same_committed first es c call e = record {
  call = λ d. ap (λ (b : JournalView). b.call d) is;
  seat_of = λ d. ap (λ (b : JournalView). b.seat_of d) is;
  back = λ d. ap (λ (b : JournalView). b.back d) is;
  busy = λ seat. ap (λ (b : JournalView). b.busy seat) is;
}
  where
    is : view_after (start first) (es ++ Commit c ∷ []) ≡ committed (view_after (start first) es) c (form first.limits call)
    is = view_push (start first) es (Commit c) ∙ noted_played first es c call e

-- a walking call that stands finishes
commit_in_place : (old : State) (inv : Invariant old) (c : ℕ) (op : Record) (st : Holdings) (o : Moved) → old.ops c ≡ Some op → op.phase ≡ Walking → NoneBelow old o → by_paths op.call ≡ None → op.holdings ≡ Some st → next_on old.graph op.remaining st ≡ Finishes o
    → Invariant (committing old c op)
commit_in_place old inv c op st o is w below text on n =
    subst (λ (m : Effect). Invariant (ended old c op m (old.timeline ++ Commit c ∷ []))) (sym made_is) (ends_keep old inv c op (effect_at old.graph op.remaining st op.reserved) (old.timeline ++ Commit c ∷ []) made_ends)
  where
    own : Own (limits_of old) old.graph op
    own = inv.own c op is

    unfinished : (r : Reply) → op.phase ≡ Finished r → ⊥
    unfinished r e = let z : ◌≡◌ {A = Phase} Walking (Finished r) = sym w ∙ e in cc

    f : Finisher old.graph old.ops inv.key c op st o
    f = record {
      is_graph = inv.is_graph;
      kept = inv.kept;
      is = is;
      on = on;
      unfinished = inl w;
      well = own.well st on;
      victim = own.victim unfinished st on;
      single = own.single st on;
      number = own.number unfinished text;
      next = n;
      none_below = λ p s d q other r i is_q on_q walks there. below d (s, i, (q, is_q, walks, (other, r, on_q, there)));
      places = λ d q i j differs e g h. (let z : ◌≡◌ {A = Phase} Walking (Placed j) = sym w ∙ h in cc);
    }

    facts_of : Facts old.graph old.ops inv.key c op st
    facts_of = facts old.graph old.ops inv.key c op st o f

    made_is : finish old.graph op ≡ effect_at old.graph op.remaining st op.reserved
    made_is = ap₂ (effect_of old.graph op) text on

    call_is : under (inv.key c) op.remaining ≡ form (limits_of old) op.call
    call_is = ap (λ (k : Key). under k op.remaining) ((inv.kept.each c op st is on).walking w) ∙ own.parts

    call_known : (view_after (start old.start) old.timeline).call c ≡ Some op.call
    call_known = inv.tied.calls c op is

    others : (d : ℕ) (p : IsPlaced old.ops d) → d ≡ c → ⊥
    others d p = not_placed old.ops c d op is w p

    new_is : Altered old.graph (effect_at old.graph op.remaining st op.reserved).graph facts_of.does.linked st
    new_is = facts_of.does.altered

    all : PastAll (graph_shapes old.graph) (under (inv.key c) op.remaining) facts_of.ch (spots old.ops inv.key inv.order)
    all =
        past_all (graph_shapes old.graph) (under (inv.key c) op.remaining) facts_of.ch (spots old.ops inv.key inv.order) facts_of.out facts_of.fits
        (in_place_of old.graph inv.is_graph old.ops inv.key inv.kept inv.order inv.in_order)
        (passes_list old.graph old.ops inv.key c op st facts_of inv.order inv.in_order (λ d p i. ((λ e. others d p (sym e)), subst (λ (z : Phase). IsAfter (Placed p.place) z) (sym w) tt)))
        (subst (λ (t : Map Shape). InPlace t (rekey_all facts_of.ch (spots old.ops inv.key inv.order))) facts_of.tree_is
        (subst (InPlace (graph_shapes (effect_at old.graph op.remaining st op.reserved).graph)) (spots_rekey old.ops inv.key facts_of.ch inv.order)
        (in_place_of (effect_at old.graph op.remaining st op.reserved).graph new_is.is_graph old.ops (λ d. rekey facts_of.ch (inv.key d)) facts_of.does.kept inv.order inv.in_order)))

    after_is : after (graph_shapes old.graph) (under (inv.key c) op.remaining) ≡ graph_shapes (effect_at old.graph op.remaining st op.reserved).graph
    after_is = ap (λ (x : Change). changed x (graph_shapes old.graph)) facts_of.out ∙ sym facts_of.tree_is

    tree_is : settle (graph_shapes (effect_at old.graph op.remaining st op.reserved).graph) (spots old.ops (λ d. rekey facts_of.ch (inv.key d)) inv.order) ≡ after (settle (graph_shapes old.graph) (spots old.ops inv.key inv.order)) (form (limits_of old) op.call)
    tree_is = ap₂ settle (sym after_is) (spots_rekey old.ops inv.key facts_of.ch inv.order) ∙ all.tree_is ∙ ap (after (settle (graph_shapes old.graph) (spots old.ops inv.key inv.order))) call_is

    same_outcome : outcome (settle (graph_shapes old.graph) (spots old.ops inv.key inv.order)) (form (limits_of old) op.call) ≡ outcome (graph_shapes old.graph) (form (limits_of old) op.call)
    same_outcome = subst (λ (x : Form). outcome (settle (graph_shapes old.graph) (spots old.ops inv.key inv.order)) x ≡ outcome (graph_shapes old.graph) x) call_is all.same_outcome

    same_replies : settle_replies (graph_shapes (effect_at old.graph op.remaining st op.reserved).graph) (spots old.ops (λ d. rekey facts_of.ch (inv.key d)) inv.order) ≡ settle_replies (graph_shapes old.graph) (spots old.ops inv.key inv.order)
    same_replies = ap₂ settle_replies (sym after_is) (spots_rekey old.ops inv.key facts_of.ch inv.order) ∙ all.same_replies

    both : IsNext (view_after (start old.start) old.timeline) (Commit c) × Tied (graph_shapes (effect_at old.graph op.remaining st op.reserved).graph) (set_at c (Some (phased op (Finished (reply (graph_shapes old.graph) (form (limits_of old) op.call)), (effect_at old.graph op.remaining st op.reserved).reserved, (effect_at old.graph op.remaining st op.reserved).removed))) old.ops) (λ d. rekey facts_of.ch (inv.key d)) inv.order (committed (view_after (start old.start) old.timeline) c (form (limits_of old) op.call))
    both = tied_commit (limits_of old) (effect_at old.graph op.remaining st op.reserved).reserved (effect_at old.graph op.remaining st op.reserved).removed (graph_shapes old.graph) (graph_shapes (effect_at old.graph op.remaining st op.reserved).graph) old.ops inv.key (λ d. rekey facts_of.ch (inv.key d)) inv.order (view_after (start old.start) old.timeline) c op inv.tied is w inv.in_order tree_is same_outcome same_replies

    reply_is : reply (graph_shapes old.graph) (form (limits_of old) op.call) ≡ (effect_at old.graph op.remaining st op.reserved).reply
    reply_is = ap (reply (graph_shapes old.graph)) (sym call_is) ∙ sym facts_of.reply_is

    view_is : view_after (start old.start) (old.timeline ++ Commit c ∷ []) ≡ committed (view_after (start old.start) old.timeline) c (form (limits_of old) op.call)
    view_is = view_push (start old.start) old.timeline (Commit c) ∙ noted_played old.start old.timeline c op.call call_known

    new_kept : CallFacts (numbers (effect_at old.graph op.remaining st op.reserved).graph) old.ops (λ d. rekey facts_of.ch (inv.key d))
    new_kept = facts_of.does.kept

    made_ends : Closing old inv c op (effect_at old.graph op.remaining st op.reserved) (old.timeline ++ Commit c ∷ [])
    made_ends = record {
      is = is;
      key = λ d. rekey facts_of.ch (inv.key d);
      order = inv.order;
      is_graph = new_is.is_graph;
      kept = new_kept;
      in_order = order_without old.ops c (Some (finished_op op (effect_at old.graph op.remaining st op.reserved))) inv.order (λ d i. others d (placed_in old.ops d inv.order inv.in_order i)) inv.in_order;
      all_placed = λ d q i m e g. one_more d q i e g;
      lawful = lawful_push (start old.start) old.timeline (Commit c) inv.lawful both.0;
      tied =
          subst (λ (b : JournalView). Tied (graph_shapes (effect_at old.graph op.remaining st op.reserved).graph) (set_at c (Some (finished_op op (effect_at old.graph op.remaining st op.reserved))) old.ops) (λ d. rekey facts_of.ch (inv.key d)) inv.order b) (sym view_is)
          (subst (λ (r : Reply). Tied (graph_shapes (effect_at old.graph op.remaining st op.reserved).graph) (set_at c (Some (phased op (Finished r, (effect_at old.graph op.remaining st op.reserved).reserved, (effect_at old.graph op.remaining st op.reserved).removed))) old.ops) (λ d. rekey facts_of.ch (inv.key d)) inv.order (committed (view_after (start old.start) old.timeline) c (form (limits_of old) op.call))) reply_is both.1);
      own = own_finished old.graph (effect_at old.graph op.remaining st op.reserved) facts_of.does.linked st (rekey facts_of.ch (inv.key c)) op inv.is_graph new_is own on (new_kept.each c op st is on).located (λ m i. (facts_of.does.links m i).1) facts_of.does.reserved facts_of.does.removed;
      own_other = λ d q m e.
          own_other old.graph (effect_at old.graph op.remaining st op.reserved).graph facts_of.does.linked st (rekey facts_of.ch (inv.key d)) q new_is (inv.own d q e)
          (λ other g. ((new_kept.each d q other e g).located, (inv.kept.pairs d c q op other st m e is g on).apart))
          (λ k i h. inv.apart c d k op q (λ j. m (sym j)) is e (inl (facts_of.does.links k i).0) h);
      spares = spares;
      shapes = new_is.shapes;
      calls = same_committed old.start old.timeline c op.call call_known;
      begun = begins_push old.timeline c;
    }
      where
        one_more : (d : ℕ) (q : Record) (i : ℕ) → old.ops d ≡ Some q → q.phase ≡ Placed i → (i < commit_count (old.timeline ++ Commit c ∷ [])) × IsIn d inv.order
        one_more d q i e g =
            let a : (i < commit_count old.timeline) × IsIn d inv.order = inv.all_placed d q i e g in
            let b : i < commit_count old.timeline = a.0 in
            let z : commit_count (old.timeline ++ Commit c ∷ []) ≡ commit_count old.timeline + 1 = commits_push old.timeline c in
            ((omega arith), a.1)

        spares : (k : ℕ) → HasSpare (finished_op op (effect_at old.graph op.remaining st op.reserved)) k → HasSpare op k ⊎ Reached old.graph k
        spares k (inl i) = inl (inl (facts_of.does.reserved k i))
        spares k (inr i) = inr (facts_of.does.removed k i).2

-- a walking call that its paths decide
commit_text : (old : State) (inv : Invariant old) (c : ℕ) (op : Record) (e : Errno) → old.ops c ≡ Some op → op.phase ≡ Walking → by_paths op.call ≡ Some e → Invariant (committing old c op)
commit_text old inv c op e is w text = subst (λ (m : Effect). Invariant (ended old c op m (old.timeline ++ Commit c ∷ []))) (sym made_is) (ends_keep old inv c op (no_effect (Failed e) old.graph op.reserved) (old.timeline ++ Commit c ∷ []) made_ends)
  where
    own : Own (limits_of old) old.graph op
    own = inv.own c op is

    made_is : finish old.graph op ≡ no_effect (Failed e) old.graph op.reserved
    made_is = ap (λ (x : Option Errno). effect_of old.graph op x op.holdings) text

    call_known : (view_after (start old.start) old.timeline).call c ≡ Some op.call
    call_known = inv.tied.calls c op is

    others : (d : ℕ) (p : IsPlaced old.ops d) → d ≡ c → ⊥
    others d p = not_placed old.ops c d op is w p

    out : (t : Map Shape) → outcome t (form (limits_of old) op.call) ≡ (Failed e, no_change)
    out t = ap (λ (x : Option Errno). if_sound x (looked t (form (limits_of old) op.call))) (by_text_any (limits_of old) op.call ∙ text)

    reply_is : reply (graph_shapes old.graph) (form (limits_of old) op.call) ≡ Failed e
    reply_is = ap (λ (o : Reply × Change). o.0) (out (graph_shapes old.graph))

    tree_is : settle (graph_shapes old.graph) (spots old.ops inv.key inv.order) ≡ after (settle (graph_shapes old.graph) (spots old.ops inv.key inv.order)) (form (limits_of old) op.call)
    tree_is = sym (ap (λ (o : Reply × Change). changed o.1 (settle (graph_shapes old.graph) (spots old.ops inv.key inv.order))) (out (settle (graph_shapes old.graph) (spots old.ops inv.key inv.order))))

    both : IsNext (view_after (start old.start) old.timeline) (Commit c) × Tied (graph_shapes old.graph) (set_at c (Some (phased op (Finished (reply (graph_shapes old.graph) (form (limits_of old) op.call)), op.reserved, None))) old.ops) inv.key inv.order (committed (view_after (start old.start) old.timeline) c (form (limits_of old) op.call))
    both = tied_commit (limits_of old) op.reserved None (graph_shapes old.graph) (graph_shapes old.graph) old.ops inv.key inv.key inv.order (view_after (start old.start) old.timeline) c op inv.tied is w inv.in_order tree_is (out (settle (graph_shapes old.graph) (spots old.ops inv.key inv.order)) ∙ sym (out (graph_shapes old.graph))) refl

    view_is : view_after (start old.start) (old.timeline ++ Commit c ∷ []) ≡ committed (view_after (start old.start) old.timeline) c (form (limits_of old) op.call)
    view_is = view_push (start old.start) old.timeline (Commit c) ∙ noted_played old.start old.timeline c op.call call_known

    -- a call that stands somewhere is not decided by its paths
    nowhere : (st : Holdings) → op.holdings ≡ Some st → ⊥
    nowhere st on =
        let f : Fits (under op.walked op.remaining) = fits_under op.walked op.remaining (inv.kept.each c op st is on).fits in
        let z : ◌≡◌ {A = Option Errno} (Some e) None = sym text ∙ sym (by_text_any (limits_of old) op.call) ∙ ap by_text (sym own.parts) ∙ f in cc

    made_ends : Closing old inv c op (no_effect (Failed e) old.graph op.reserved) (old.timeline ++ Commit c ∷ [])
    made_ends = record {
      is = is;
      key = inv.key;
      order = inv.order;
      is_graph = inv.is_graph;
      kept = inv.kept;
      in_order = order_without old.ops c (Some (finished_op op (no_effect (Failed e) old.graph op.reserved))) inv.order (λ d i. others d (placed_in old.ops d inv.order inv.in_order i)) inv.in_order;
      all_placed = λ d q i m e g. one_more d q i e g;
      lawful = lawful_push (start old.start) old.timeline (Commit c) inv.lawful both.0;
      tied =
          subst (λ (b : JournalView). Tied (graph_shapes old.graph) (set_at c (Some (finished_op op (no_effect (Failed e) old.graph op.reserved))) old.ops) inv.key inv.order b) (sym view_is)
          (subst (λ (r : Reply). Tied (graph_shapes old.graph) (set_at c (Some (phased op (Finished r, op.reserved, None))) old.ops) inv.key inv.order (committed (view_after (start old.start) old.timeline) c (form (limits_of old) op.call))) reply_is both.1);
      own = record {
        parts = own.parts;
        well = own.well;
        spare = own.spare;
        number = λ u. absurd (u (Failed e) refl);
        placed = λ i z. cc;
        gone = λ n z. cc;
        intact = λ u. absurd (u (Failed e) refl);
        one_spare = λ n z y. cc;
        victim = λ u. absurd (u (Failed e) refl);
        starts = λ u. absurd (u (Failed e) refl);
        single = own.single;
      };
      own_other = λ d q m e. inv.own d q e;
      spares = spares;
      shapes = shapes_same old.graph.shape (Reached old.graph);
      calls = same_committed old.start old.timeline c op.call call_known;
      begun = begins_push old.timeline c;
    }
      where
        one_more : (d : ℕ) (q : Record) (i : ℕ) → old.ops d ≡ Some q → q.phase ≡ Placed i → (i < commit_count (old.timeline ++ Commit c ∷ [])) × IsIn d inv.order
        one_more d q i e g =
            let a : (i < commit_count old.timeline) × IsIn d inv.order = inv.all_placed d q i e g in
            let b : i < commit_count old.timeline = a.0 in
            let z : commit_count (old.timeline ++ Commit c ∷ []) ≡ commit_count old.timeline + 1 = commits_push old.timeline c in
            ((omega arith), a.1)

        spares : (k : ℕ) → HasSpare (finished_op op (no_effect (Failed e) old.graph op.reserved)) k → HasSpare op k ⊎ Reached old.graph k
        spares k (inl i) = inl (inl i)
        spares k (inr i) = cc

pub keeps_committed : StepKeeps Committed
keeps_committed old new seat inv (c, op, s, moves, w, below, same) = subst Invariant (sym same) (go (ready old.graph op s moves.2))
  where
    go : Ready old.graph op s → Invariant (committing old c op)
    go (By_text e text) = commit_text old inv c op e moves.1 w text
    go (By_holdings st text on n) = commit_in_place old inv c op st s moves.1 w below text on n
