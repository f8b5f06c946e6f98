-- What holds of the graph, the seats and the numbers, in every state of a run.
use Rattle.std.proofs.Common.{◌≡◌, ℕ, ◌<◌, ◌≤◌, Bool, true, false, cond, IsTrue, [], ◌∷◌, ◌++◌, Option, Some, None, refl, sym, ap, ◌∙◌, subst, ◌⊎◌, inl, inr, arith, append_assoc, rules, eqb}
use Rattle.std.specs.Prelude.{nat_lt}
use Rattle.std.proofs.lemmas.Bool.Decides.{nat_tests}
use Rattle.fs_names.specs.Keys.{Key, after_prefix, parent_of, last_of, has_more}
use Rattle.fs_names.specs.Parts.{HasNames}
use Rattle.fs_names.specs.Names.{Name, has_name}
use Rattle.fs_names.specs.Shapes.{Shape, Dir, File, is_there, has_entries}
use Rattle.fs_calls.specs.Forms.{Form, AtNode, AtEntry, AtPair, Fits, by_paths}
use Rattle.fs_calls.specs.Forms as pairs
use Rattle.fs_calls.specs.declared.errno.Errno.{Errno}
use Rattle.fs_calls.specs.declared.reply.Reply.{Reply}
use Rattle.fs_calls.specs.Graphs.{Graph, at, numbers, IsGraph, IsReached}
use Rattle.fs_machine.specs.Leaving.{is_removed}
use Rattle.fs_machine.specs.Moves.{next, next_by}
use Rattle.fs_machine.specs.declared.moves.Move.TheVariants.{Finish as Finishes, Return as Ends}
use Rattle.fs_machine.specs.declared.moves.Moved.{Moved}
use Rattle.fs_machine.specs.Records.{Phase, Walking, Placed, Finished, Record, Holdings, Source, Dest}
use Rattle.fs_machine.specs.OpValues.{IsSpare, SpareIf, IsBounded, HeadsApart, MovesApart, CanFinish}
use Rattle.fs_timeline.specs.Timeline.{begins}
use Rattle.fs_laws.specs.Invariants.{Invariant, limits_of}
use Rattle.fs_laws.specs.CallFacts.{Located}
use Rattle.fs_machine.specs.States.{State, Run}
use Rattle.fs_laws.proofs.trees.Prefixes.{same_refl, prefix_append}
use Rattle.fs_laws.proofs.calls.Located.{key_is, from_more, to_more, not_under, not_over}
use Rattle.fs_laws.proofs.graphs.Walks.{at_child, at_from, eqb_true, eqb_refl}
use Rattle.fs_laws.proofs.states.ComputedSteps.{by_ends}
use Rattle.fs_laws.proofs.events.Return.{ends_nowhere}
use Rattle.fs_laws.proofs.states.Headline.{run_keeps}
use Rattle.fs_laws.proofs.states.Agreement.{run_accounts, not_begun}
use Rattle.fs_laws.proofs.calls.OneUnfinishedCall.{front_same}

-- a number in use to which nothing leads
spare_of : (graph : Graph) → IsGraph graph → (n : ℕ) (shape : Shape) → graph.shape n ≡ Some shape → ((key : Key) → numbers graph key ≡ Some n → ⊥) → IsSpare graph n
spare_of graph is n shape used loose = record {
  used = subst (λ (o : Option Shape). IsTrue (is_there o)) (sym used) (search rules);
  unlinked = λ d x e. (let g : (key : Key) × (numbers graph key ≡ Some d) = is.loose d n x e in loose (g.0 ++ x ∷ []) (at_child graph.child 0 d g.0 x g.1 ∙ e));
  not_root = λ e. loose [] (ap (λ (m : ℕ). Some m) (sym e));
  empty = empty (graph.shape n) refl;
}
  where
    empty : (o : Option Shape) → graph.shape n ≡ o → has_entries o ≡ false
    empty None e = refl
    empty (Some (File bytes)) e = refl
    empty (Some (Dir [])) e = refl
    empty (Some (Dir (x ∷ names))) e =
        let k : (m : ℕ) × (graph.child n x ≡ Some m) = is.listed n (x ∷ names) x e (ap (λ (b : Bool). cond b true (has_name x names)) (same_refl x)) in
        let g : (key : Key) × (numbers graph key ≡ Some n) = is.loose n k.0 x k.1 in
        absurd (loose g.0 g.1)

-- the number that a call reserved may be linked, or released
pub spare_reserved : (s : State) (c : ℕ) (op : Record) → Run s → s.ops c ≡ Some op → SpareIf s.graph op.reserved
spare_reserved s c op run is n e = let o : ((shape : Shape) × (s.graph.shape n ≡ Some shape)) × ((key : Key) → numbers s.graph key ≡ Some n → ⊥) = ((run_keeps s run).own c op is).spare n e in spare_of s.graph (run_keeps s run).is_graph n o.0.0 o.0.1 o.1

-- and the node that it removed may be released
pub spare_gone : (s : State) (c : ℕ) (op : Record) → Run s → s.ops c ≡ Some op → SpareIf s.graph op.removed
spare_gone s c op run is n e = let o : _ × ((key : Key) → numbers s.graph key ≡ Some n → ⊥) × ((shape : Shape) × (s.graph.shape n ≡ Some shape)) = ((run_keeps s run).own c op is).gone n e in spare_of s.graph (run_keeps s run).is_graph n o.2.0 o.2.1 o.1

pub spare_removed : (s : State) (c : ℕ) (op : Record) (n : ℕ) → Run s → s.ops c ≡ Some op → is_removed op.removed n ≡ true → IsSpare s.graph n
spare_removed s c op n run is e = spare_gone s c op run is n (removed_is op.removed e)
  where
    removed_is : (o : Option ℕ) → is_removed o n ≡ true → o ≡ Some n
    removed_is None f = cc
    removed_is (Some m) f = ap (λ (x : ℕ). Some x) (eqb_true m n f)

-- directories and files are within their limits
pub run_bounded : (s : State) → Run s → IsBounded (limits_of s) s.graph
run_bounded s run = record { entries = λ n names e. ((run_accounts s run).within n (Dir names) e).1; bytes = λ n content e. (run_accounts s run).within n (File content) e }

-- and the numbers in use below theirs
pub used_under : (s : State) (n : ℕ) (shape : Shape) → Run s → s.graph.shape n ≡ Some shape → n < s.limit
used_under s n shape run e = (run_accounts s run).below n shape e

-- heads that stand at one node have walked the same names
pub heads_apart : (s : State) (c : ℕ) (op : Record) (st : Holdings) → Run s → s.ops c ≡ Some op → op.holdings ≡ Some st → HeadsApart op.remaining st
heads_apart s c op st run is on = go op.remaining
  where
    inv : Invariant s
    inv = run_keeps s run

    loc : Located (numbers s.graph) (inv.key c) st
    loc = (inv.kept.each c op st is on).located

    go : (f : Form) → HeadsApart f st
    go (AtNode e p) = tt
    go (AtEntry e p) = tt
    go (AtPair pair p q) = λ same. front_same (inv.key c) st.source.walked st.dest.walked (inv.is_graph.one_key (inv.key c ++ st.source.walked) (inv.key c ++ st.dest.walked) st.source.node (loc.head Source) ((loc.head Dest) ∙ ap (λ (n : ℕ). Some n) (sym same)))

-- a key that goes on from another one is not beside it
goes_on : (p way : Key) (x : Name) → has_more (after_prefix p (p ++ (way ++ x ∷ []))) ≡ true
goes_on p [] x = ap has_more (prefix_append p (x ∷ []))
goes_on p (y ∷ way) x = ap has_more (prefix_append p (y ∷ (way ++ x ∷ [])))

-- a call never stands at the number that it reserved
pub reserved_other : (s : State) (c : ℕ) (op : Record) (st : Holdings) → Run s → s.ops c ≡ Some op → op.holdings ≡ Some st → op.reserved ≡ Some st.node → ⊥
reserved_other s c op st run is on e =
    let inv : Invariant s = run_keeps s run in
    ((inv.own c op is).spare st.node e).1 (inv.key c) (inv.kept.each c op st is on).located.here

-- from what a rename would move its new directory is not reached: else the old path would be the beginning of the new one;
-- and of what an exchange would move neither is reached from the other
pub moves_apart : (s : State) (c : ℕ) (op : Record) (st : Holdings) → Run s → s.ops c ≡ Some op → op.holdings ≡ Some st → MovesApart s.graph op.remaining st
moves_apart s c op st run is on = go op.remaining (inv.kept.each c op st is on).fits
  where
    inv : Invariant s
    inv = run_keeps s run

    loc : Located (numbers s.graph) (inv.key c) st
    loc = (inv.kept.each c op st is on).located

    reaches : (p q way : Key) (n : ℕ) → st.source.walked ≡ parent_of p → st.dest.walked ≡ parent_of q → HasNames p → s.graph.child st.source.node (last_of p) ≡ Some n → at s.graph.child n way ≡ Some st.dest.node → p ++ way ≡ parent_of q
    reaches p q way n source dest some child reach =
        let from : numbers s.graph ((inv.key c ++ st.source.walked) ++ last_of p ∷ []) ≡ Some n = at_child s.graph.child 0 st.source.node (inv.key c ++ st.source.walked) (last_of p) (loc.head Source) ∙ child in
        let to : numbers s.graph (((inv.key c ++ st.source.walked) ++ last_of p ∷ []) ++ way) ≡ Some st.dest.node = at_from s.graph.child 0 n ((inv.key c ++ st.source.walked) ++ last_of p ∷ []) way from ∙ reach in
        let same : ((inv.key c ++ st.source.walked) ++ last_of p ∷ []) ++ way ≡ inv.key c ++ st.dest.walked = inv.is_graph.one_key (((inv.key c ++ st.source.walked) ++ last_of p ∷ []) ++ way) (inv.key c ++ st.dest.walked) st.dest.node to (loc.head Dest) in
        let split : ((inv.key c ++ st.source.walked) ++ last_of p ∷ []) ++ way ≡ inv.key c ++ ((st.source.walked ++ last_of p ∷ []) ++ way) = ap (λ (k : Key). k ++ way) (append_assoc (inv.key c) st.source.walked (last_of p ∷ [])) ∙ append_assoc (inv.key c) (st.source.walked ++ last_of p ∷ []) way in
        ap (λ (k : Key). k ++ way) (key_is p some ∙ ap (λ (k : Key). k ++ last_of p ∷ []) (sym source))
        ∙ front_same (inv.key c) ((st.source.walked ++ last_of p ∷ []) ++ way) st.dest.walked (sym split ∙ same)
        ∙ dest

    entry_at : (p walked : Key) (node n : ℕ) → HasNames p → walked ≡ parent_of p → numbers s.graph (inv.key c ++ walked) ≡ Some node → s.graph.child node (last_of p) ≡ Some n → numbers s.graph (inv.key c ++ p) ≡ Some n
    entry_at p walked node n some is_parent at_node child =
        ap (numbers s.graph) (ap (λ (k : Key). inv.key c ++ k) (key_is p some ∙ ap (λ (k : Key). k ++ last_of p ∷ []) (sym is_parent)) ∙ sym (append_assoc (inv.key c) walked (last_of p ∷ [])))
        ∙ at_child s.graph.child 0 node (inv.key c ++ walked) (last_of p) at_node
        ∙ child

    -- a node that is reached from another one has a path that goes on from the other's
    goes_under : (p q way : Key) (n m : ℕ) → (n ≡ m → ⊥) → numbers s.graph (inv.key c ++ p) ≡ Some n → numbers s.graph (inv.key c ++ q) ≡ Some m → at s.graph.child n way ≡ Some m → has_more (after_prefix p q) ≡ true
    goes_under p q [] n m differs at_p at_q reach = absurd (differs (let z : n ≡ m = cc in z))
    goes_under p q (x ∷ way) n m differs at_p at_q reach =
        let same : inv.key c ++ (p ++ x ∷ way) ≡ inv.key c ++ q = inv.is_graph.one_key (inv.key c ++ (p ++ x ∷ way)) (inv.key c ++ q) m (ap (numbers s.graph) (sym (append_assoc (inv.key c) p (x ∷ way))) ∙ at_from s.graph.child 0 n (inv.key c ++ p) (x ∷ way) at_p ∙ reach) at_q in
        ap (λ (k : Key). has_more (after_prefix p k)) (sym (front_same (inv.key c) (p ++ x ∷ way) q same)) ∙ ap has_more (prefix_append p (x ∷ way))

    go : (f : Form) → Fits f → MovesApart s.graph f st
    go (AtPair pairs.Exchange p q) fits = λ n m source dest one other. (by n m
        (entry_at p st.source.walked st.source.node n (from_more pairs.Exchange p q fits) source (loc.head Source) one)
        (entry_at q st.dest.walked st.dest.node m (to_more pairs.Exchange p q fits) dest (loc.head Dest) other)
        (eqb n m) refl)
      where
        by : (n m : ℕ) → numbers s.graph (inv.key c ++ p) ≡ Some n → numbers s.graph (inv.key c ++ q) ≡ Some m → (b : Bool) → eqb n m ≡ b → (n ≡ m) ⊎ ((IsReached s.graph.child n m → ⊥) × (IsReached s.graph.child m n → ⊥))
        by n m at_p at_q true e = inl (eqb_true n m e)
        by n m at_p at_q false e =
            let differs : n ≡ m → ⊥ = λ (i : n ≡ m). (let t : eqb n m ≡ true = ap (eqb n) (sym i) ∙ eqb_refl n in cc) in
            inr (
              (λ (way, reach). not_under pairs.Exchange p q fits (goes_under p q way n m differs at_p at_q reach)),
              (λ (way, reach). not_over p q fits (goes_under q p way m n (λ i. differs (sym i)) at_q at_p reach)),
            )
    go (AtNode e p) fits = tt
    go (AtEntry e p) fits = tt
    go (AtPair (pairs.Rename most) p q) fits = λ n source dest child (way, reach).
        let whole : q ≡ p ++ (way ++ last_of q ∷ []) = key_is q (to_more (pairs.Rename most) p q fits) ∙ ap (λ (k : Key). k ++ last_of q ∷ []) (sym (reaches p q way n source dest (from_more (pairs.Rename most) p q fits) child reach)) ∙ append_assoc p way (last_of q ∷ []) in
        not_under (pairs.Rename most) p q fits (ap (λ (k : Key). has_more (after_prefix p k)) whole ∙ goes_on p way (last_of q))

-- what a finish needs
pub can_finish : (s : State) (c : ℕ) (op : Record) (t : Moved) → Run s → s.ops c ≡ Some op → next s.graph op ≡ Finishes t → CanFinish s.graph op.reserved op.remaining op.holdings
can_finish s c op t run is m = record { spare = spare_reserved s c op run is; heads = λ st on. heads_apart s c op st run is on; other = λ st on. reserved_other s c op st run is on; apart = λ st on. moves_apart s c op st run is on }

-- who ends is finished and stands nowhere
pub ends_finished : (s : State) (c : ℕ) (op : Record) → next s.graph op ≡ Ends → (r : Reply) × (op.phase ≡ Finished r) × (op.holdings ≡ None)
ends_finished s c op m = let r : (r : Reply) × (op.phase ≡ Finished r) = by_ends s.graph op (by_paths op.call) op.phase op.holdings m in (r.0, r.1, ends_nowhere s.graph op r.0 r.1 m)

-- who finishes walks, or is placed
pub finishes_open : (s : State) (op : Record) (t : Moved) → next s.graph op ≡ Finishes t → (op.phase ≡ Walking) ⊎ ((i : ℕ) × (op.phase ≡ Placed i))
finishes_open s op t m = go op.phase (by_paths op.call) op.holdings refl m
  where
    go : (p : Phase) (e : Option Errno) (st : Option Holdings) → op.phase ≡ p → next_by s.graph op e p st ≡ Finishes t → (op.phase ≡ Walking) ⊎ ((i : ℕ) × (op.phase ≡ Placed i))
    go Walking e st i f = inl i
    go (Placed k) e st i f = inr (k, i)
    go (Finished r) e None i f = cc
    go (Finished r) e (Some st) i f = cc

-- the call on a seat, and the seat of a call
pub seat_call : (s : State) (seat c : ℕ) → Run s → s.on_seat seat ≡ Some c → (op : Record) × (s.ops c ≡ Some op) × (op.seat ≡ seat)
seat_call s seat c run e = (run_keeps s run).seated seat c e

pub call_seat : (s : State) (c : ℕ) (op : Record) → Run s → s.ops c ≡ Some op → s.on_seat op.seat ≡ Some c
call_seat s c op run e = (run_accounts s run).on_seat c op e

pub seats_apart : (s : State) (a b c : ℕ) → Run s → s.on_seat a ≡ Some c → s.on_seat b ≡ Some c → a ≡ b
seats_apart s a b c run e f =
    let x : (op : Record) × (s.ops c ≡ Some op) × (op.seat ≡ a) = seat_call s a c run e in
    let y : (op : Record) × (s.ops c ≡ Some op) × (op.seat ≡ b) = seat_call s b c run f in
    let z : ◌≡◌ {A = Option Record} (Some x.0) (Some y.0) = sym x.1 ∙ y.1 in
    let w : x.0 ≡ y.0 = cc in
    sym x.2 ∙ ap (λ (o : Record). o.seat) w ∙ y.2

-- the calls under way began
pub begun_before : (s : State) (c : ℕ) (op : Record) → Run s → s.ops c ≡ Some op → c ≤ begins s.timeline
begun_before s c op run e = go (nat_lt (begins s.timeline) c) refl
  where
    go : (b : Bool) → nat_lt (begins s.timeline) c ≡ b → c ≤ begins s.timeline
    go true i =
        let less : begins s.timeline < c = grind (arith, nat_tests) in
        let z : ◌≡◌ {A = Option Record} None (Some op) = sym (not_begun s (run_keeps s run) c less) ∙ e in cc
    go false i = grind (arith, nat_tests)
