-- A call holds at most four nodes.
use Rattle.std.proofs.Common.{◌≡◌, ℕ, ◌≤◌, [], ◌∷◌, Option, Some, None, refl, sym, ap, ◌∙◌, subst, arith, Ok, Err}
use Rattle.fs_names.specs.Keys.{Key}
use Rattle.fs_names.specs.Shapes.{Shape}
use Rattle.fs_calls.specs.Forms.{reserved_by}
use Rattle.fs_calls.specs.declared.call.Call.{Call}
use Rattle.fs_calls.specs.declared.reply.Reply.{Reply}
use Rattle.fs_calls.specs.Graphs.{Graph, set_at}
use Rattle.fs_machine.specs.Finishes.{finish}
use Rattle.fs_machine.specs.Leaving.{let_go, finished_op}
use Rattle.fs_machine.specs.Moves.{next, target, victim_took, stepped, left_holdings, took, took_by}
use Rattle.fs_machine.specs.declared.moves.Move.TheVariants.{Take as Takes}
use Rattle.fs_machine.specs.Records.{Holdings, Phase, Walking, Placed, Finished, Record, Records, holdings_at}
use Rattle.fs_timeline.specs.Timeline.{commit_count}
use Rattle.fs_laws.specs.Invariants.{IsUnfinished, VictimAt}
use Rattle.fs_machine.specs.States.{State, Run, Starting, Beginning, Stepping, Begun, Begins, Reserves, new_op, Step}
use Rattle.fs_machine.specs.declared.answers.Refusal.TheVariants.{SeatBusy, Full, OutOfMemory}
use Rattle.fs_machine.specs.declared.answers.Stepped.{Stepped}
use Rattle.fs_machine.specs.declared.answers.Stepped.TheVariants.{Idle, Took, Busy, LetGo, Helped, Committed, CarriedOut, Returned}
use Rattle.fs_laws.specs.StepsLeft.{one_if, one_walked}
use Rattle.fs_laws.proofs.events.OneCallChanged.{Place, Here, Else, place}
use Rattle.fs_laws.proofs.events.JustFinished.{Either, Changed, Old, either}
use Rattle.fs_laws.proofs.events.Take.{TakesFrom, From_nowhere, From_holdings, takes_from}
use Rattle.fs_laws.proofs.calls.Takes.{Entry, Of_head, Replaced, Take, Walk, There, takes_by, with_holdings, walked_on}
use Rattle.fs_laws.proofs.calls.HeadOrder.{HeadsInOrder, no_victim}
use Rattle.fs_laws.proofs.states.Headline.{run_keeps}
use Rattle.fs_laws.proofs.states.Agreement.{run_accounts}
use Rattle.fs_laws.specs.Holdings.{nodes_held}
use Rattle.fs_laws.proofs.calls.NodesHeld.{one_holdings, none_some}

-- nothing is behind once a victim is held
abbrev InOrder : Holdings → Type 0
InOrder st = (m : ℕ) → st.behind ≡ Some m → st.victim ≡ None

-- ---- the count

one_most : (o : Option ℕ) → one_if o ≤ 1
one_most None = omega arith
one_most (Some n) = omega arith

walked_most : (k : Key) → one_walked k ≤ 1
walked_most [] = omega arith
walked_most (x ∷ k) = omega arith

at_most : (st : Holdings) → InOrder st → nodes_held st ≤ 4
at_most st o = go st.behind refl
  where
    p : one_walked st.source.walked ≤ 1
    p = walked_most st.source.walked

    q : one_walked st.dest.walked ≤ 1
    q = walked_most st.dest.walked

    go : (b : Option ℕ) → st.behind ≡ b → nodes_held st ≤ 4
    go None e = let x : one_if st.behind ≡ 0 = ap one_if e in let r : one_if st.victim ≤ 1 = one_most st.victim in omega (arith, x, p, q, r)
    go (Some m) e = let x : one_if st.behind ≤ 1 = one_most st.behind in let r : one_if st.victim ≡ 0 = ap one_if (o m e) in omega (arith, x, p, q, r)

-- ---- takes

-- what the stand after a take keeps
took_order : (graph : Graph) (op : Record) (n : ℕ) (st new : Holdings) → HeadsInOrder graph op.remaining st → VictimAt graph op.remaining st → (took op n).holdings ≡ Some new → Take graph op n st → InOrder new
took_order graph op n st new neat vic on t = go t
  where
    by : (v : Record) (made : Holdings) → took op n ≡ v → v.holdings ≡ Some made → InOrder made → InOrder new
    by v made is h o = subst InOrder (one_holdings (ap (λ (o : Record). o.holdings) is ∙ h) on) o

    go : Take graph op n st → InOrder new
    go (Walk x l a b child is) = by (walked_on op st x n) (holdings_at n (Some st.node)) is refl (λ m e. refl)
    go (There (Entry c p rem way child off) b is) = by (with_holdings op (victim_took st n)) (victim_took st n) is refl (λ m e. none_some st.behind m b e)
    go (There (Replaced most p q rem way there at_left want child off) b is) = by (with_holdings op (victim_took st n)) (victim_took st n) is refl (λ m e. none_some st.behind m b e)
    go (There (Of_head side c p q x l rem way turn at_left child) b is) = by (with_holdings op (stepped side st x n)) (stepped side st x n) is refl (λ m e. no_victim graph op n st neat vic t)

-- ---- states

abbrev Ordered : State → Type 0
Ordered s = (c : ℕ) (op : Record) (st : Holdings) → s.ops c ≡ Some op → op.holdings ≡ Some st → IsUnfinished op → InOrder st

ordered_by : (s new : State) (c : ℕ) (v : Record) → new.ops ≡ set_at c (Some v) s.ops → ((st : Holdings) → v.holdings ≡ Some st → IsUnfinished v → InOrder st) → Ordered s → Ordered new
ordered_by s new c v ops mine k d q st e on u = go (either s.ops c v d q (sym (ap (λ (f : Records). f d) ops) ∙ e))
  where
    go : Either s.ops c v d q → InOrder st
    go (Changed i j) = mine st (ap (λ (o : Record). o.holdings) j ∙ on) (subst IsUnfinished (sym j) u)
    go (Old h i) = k d q st i on u

taken : (s : State) → Run s → (c : ℕ) (op : Record) (n : ℕ) → s.ops c ≡ Some op → next s.graph op ≡ Takes n → (new : Holdings) → (took op n).holdings ≡ Some new → InOrder new
taken s run c op n is m new on = go (takes_from s.graph op n m)
  where
    go : TakesFrom s.graph op n × IsUnfinished op → InOrder new
    go (From_nowhere text off z, u) = subst InOrder (one_holdings (ap (λ (o : Option Holdings). (took_by op o (target op.remaining) n).holdings) off) on) (λ m e. refl)
    go (From_holdings st at t, u) = took_order s.graph op n st new (((run_accounts s run).neat c op st is at).under_way u) (((run_keeps s run).own c op is).victim u st at) on (takes_by s.graph op n st at t)

let_gone : (s : State) (c : ℕ) (op : Record) (n : ℕ) → s.ops c ≡ Some op → Ordered s → (new : Holdings) → (let_go op n).holdings ≡ Some new → IsUnfinished op → InOrder new
let_gone s c op n is k new on u = go op.phase op.holdings refl refl on
  where
    by : (st : Holdings) → ◌≡◌ {A = Option Holdings} (Some (record st { behind = None })) (Some new) → InOrder new
    by st e = subst InOrder (one_holdings refl e) (λ m f. none_some None m refl f)

    go : (p : Phase) (o : Option Holdings) → op.phase ≡ p → op.holdings ≡ o → left_holdings p o ≡ Some new → InOrder new
    go p None i j e = none_some None new refl e
    go (Finished r) (Some st) i j e = absurd (u r i)
    go Walking (Some st) i j e = by st e
    go (Placed m) (Some st) i j e = by st e

ordered_step : (s new : State) (seat : ℕ) (answer : Stepped) → Run s → Step s seat answer new → Ordered s → Ordered new
ordered_step s new seat Idle run (off, same) k = subst Ordered (sym same) k
ordered_step s new seat (Busy n d) run (c, op, moves, held, same) k = subst Ordered (sym same) k
ordered_step s new seat (Took n) run (c, op, moves, free, same) k = ordered_by s new c (took op n) (ap (λ (x : State). x.ops) same) (λ st on u. taken s run c op n moves.1 moves.2 st on) k
ordered_step s new seat (LetGo n) run (c, op, moves, same) k = ordered_by s new c (let_go op n) (ap (λ (x : State). x.ops) same) (λ st on u. let_gone s c op n moves.1 k st on u) k
ordered_step s new seat (Helped d) run (c, op, t, moves, w, pick, q, is, same) k =
    ordered_by s new d (record q { phase = Placed (commit_count s.timeline) }) (ap (λ (x : State). x.ops) same) (λ st on u. k d q st is on (walks q (ap (λ (o : Record). o.phase) (same_op q pick.0.0.2.0 (sym is ∙ pick.0.0.2.1)) ∙ pick.0.0.2.2))) k
  where
    same_op : (a b : Record) → ◌≡◌ {A = Option Record} (Some a) (Some b) → a ≡ b
    same_op a b e = cc

    walks : (o : Record) → o.phase ≡ Walking → IsUnfinished o
    walks o i r e = let z : ◌≡◌ {A = Phase} Walking (Finished r) = sym i ∙ e in cc
ordered_step s new seat Committed run (c, op, o, moves, w, below, same) k = ordered_by s new c (finished_op op (finish s.graph op)) (ap (λ (x : State). x.ops) same) (λ st on u. absurd (u (finish s.graph op).reply refl)) k
ordered_step s new seat CarriedOut run (c, op, o, i, moves, placed, same) k = ordered_by s new c (finished_op op (finish s.graph op)) (ap (λ (x : State). x.ops) same) (λ st on u. absurd (u (finish s.graph op).reply refl)) k
ordered_step s new seat (Returned r) run (c, op, moves, ph, same) k = λ d q st e on u. k d q st (was d q (sym (ap (λ (x : State). x.ops d) same) ∙ e) (place c None s.ops d)) on u
  where
    was : (d : ℕ) (q : Record) → set_at c None s.ops d ≡ Some q → Place (Option Record) c None s.ops d → s.ops d ≡ Some q
    was d q e (Here i j) = absurd (let z : ◌≡◌ {A = Option Record} None (Some q) = sym j ∙ e in cc)
    was d q e (Else h j) = sym j ∙ e

ordered_begin : (s new : State) (seat : ℕ) (call : Call) (answer : Begun) → Begins s seat call answer new → Ordered s → Ordered new
ordered_begin s new seat call (Err SeatBusy) (c, on, same) k = subst Ordered (sym same) k
ordered_begin s new seat call (Err Full) (off, full, same) k = subst Ordered (sym same) k
ordered_begin s new seat call (Err OutOfMemory) (off, room, same) k = subst Ordered (sym same) k
ordered_begin s new seat call (Ok c) (off, number, r) k = go (reserved_by call) r
  where
    go : (o : Option Shape) → Reserves s seat call c o new → Ordered new
    go None same = ordered_by s new c (new_op s.start.limits seat call None) (ap (λ (x : State). x.ops) same) (λ st on u. none_some None st refl on) k
    go (Some shape) (n, less, free, same) = ordered_by s new c (new_op s.start.limits seat call (Some n)) (ap (λ (x : State). x.ops) same) (λ st on u. none_some None st refl on) k

ordered : (s : State) → Run s → Ordered s
ordered s (Starting limit tree graph h) = λ c op st e on u. cc
ordered s (Beginning {old} seat call answer new run begin) = ordered_begin old s seat call answer begin (ordered old run)
ordered s (Stepping {old} seat answer new run step) = ordered_step old s seat answer run step (ordered old run)

pub four_held : (s : State) → Run s → (c : ℕ) (op : Record) (st : Holdings) → s.ops c ≡ Some op → op.holdings ≡ Some st → nodes_held st ≤ 4
four_held s run c op st is on = at_most st (go op.phase refl)
  where
    unfinished : (p : Phase) → op.phase ≡ p → ((r : Reply) → p ≡ Finished r → ⊥) → IsUnfinished op
    unfinished p i h r e = h r (sym i ∙ e)

    go : (p : Phase) → op.phase ≡ p → InOrder st
    go (Finished r) i = λ m e. none_some st.behind m (((run_accounts s run).neat c op st is on).closed r i) e
    go Walking i = ordered s run c op st is on (unfinished Walking i (λ r e. cc))
    go (Placed m) i = ordered s run c op st is on (unfinished (Placed m) i (λ r e. cc))
