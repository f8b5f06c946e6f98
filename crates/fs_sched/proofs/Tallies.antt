-- How many calls began, took their place and returned, over every run of the machine.
use Rattle.std.proofs.Common.{◌≡◌, ℕ, zero, suc, ◌+◌, ◌≤◌, cond, List, [], ◌∷◌, ◌++◌, Option, Some, None, refl, sym, ap, ap₂, ◌∙◌, subst, arith, Ok, Err}
use Rattle.std.proofs.lemmas.List.Sums.{sum_by_push, sum_by-append}
use Rattle.fs_names.specs.Keys.{Key}
use Rattle.fs_names.specs.Shapes.{Shape}
use Rattle.fs_calls.specs.Forms.{reserved_by}
use Rattle.fs_calls.specs.declared.call.Call.{Call}
use Rattle.fs_calls.specs.declared.reply.Reply.{Reply}
use Rattle.fs_nodes.specs.Graphs.{Graph, set_at, reserved_in}
use Rattle.fs_timeline.specs.declared.entry.Entry.{Entry}
use Rattle.fs_timeline.specs.declared.entry.Entry.TheVariants.{Begin, Commit, Return}
use Rattle.fs_machine.specs.Finishes.{finish}
use Rattle.fs_machine.specs.Leaving.{let_go, finished_op}
use Rattle.fs_machine.specs.Moves.{target, took, took_by}
use Rattle.fs_machine.specs.Records.{Holdings, Phase, Walking, Placed, Finished, Record, Records}
use Rattle.fs_timeline.specs.Timeline.{begins, commit_count}
use Rattle.fs_machine.specs.Headline.{IsIdle}
use Rattle.fs_machine.specs.States.{State, Run, Starting, Beginning, Stepping, Begun, Begins, Reserves, began, new_op, Step, taking, letting_go, helping, carrying, committing, returning}
use Rattle.fs_machine.specs.declared.answers.Refusal.TheVariants.{SeatBusy, Full, OutOfMemory}
use Rattle.fs_machine.specs.declared.answers.Stepped.{Stepped}
use Rattle.fs_machine.specs.declared.answers.Stepped.TheVariants.{Idle, Took, Busy, LetGo, Helped, Committed, CarriedOut, Returned}
use Rattle.fs_laws.specs.StepsLeft.{total}
use Rattle.fs_laws.proofs.journal.OneMoreEntry.{returns_begins, begins_begins}
use Rattle.fs_laws.proofs.states.GraphOfARun.{begun_before}
use Rattle.fs_laws.proofs.states.Sums.{total_same, total_one}
use Rattle.fs_laws.proofs.events.Help.{upd_here, upd_else, begins_push}
use Rattle.fs_sched.specs.RunTexts.{is_of, number_of}
use Rattle.fs_sched.specs.declared.run_texts.EntryKind.{EntryKind}
use Rattle.fs_sched.specs.declared.run_texts.EntryKind.TheVariants as kind

-- ---- sums over the calls' numbers

total_more : (f : ℕ → ℕ) (n : ℕ) → total f (n + 1) ≡ total f n + f (n + 1)
total_more f n = let e : n + 1 ≡ suc n = omega arith in ap (total f) e ∙ ap (λ (x : ℕ). total f n + f x) (sym e)

total_none : (f : ℕ → ℕ) (n : ℕ) → ((c : ℕ) → f c ≡ 0) → total f n ≡ 0
total_none f zero h = h 0
total_none f (suc n) h = let a : total f n ≡ 0 = total_none f n h in let b : f (suc n) ≡ 0 = h (suc n) in omega (arith, a, b)

-- ---- calls under way

-- one for a call under way
abbrev under_way : Option Record → ℕ
under_way None = 0
under_way (Some op) = 1

-- one for a call under way that has no place yet
abbrev while_walking : Phase → ℕ
while_walking Walking = 1
while_walking (Placed i) = 0
while_walking (Finished r) = 0

abbrev without_place : Option Record → ℕ
without_place None = 0
without_place (Some op) = while_walking op.phase

-- such a count of all calls
abbrev counted : (Option Record → ℕ) → State → ℕ
counted count s = total (λ c. count (s.ops c)) (begins s.timeline)

-- one call's record changes
counted_one : (count : Option Record → ℕ) (s new : State) (c : ℕ) (op : Record) (v : Option Record) → Run s → s.ops c ≡ Some op → new.ops ≡ set_at c v s.ops → begins new.timeline ≡ begins s.timeline → counted count new + count (Some op) ≡ counted count s + count v
counted_one count s new c op v run is ops same =
    let a : total (λ d. count (set_at c v s.ops d)) (begins s.timeline) + count (s.ops c) ≡ counted count s + count (set_at c v s.ops c) =
    total_one (λ d. count (set_at c v s.ops d)) (λ d. count (s.ops d)) c (begins s.timeline) (begun_before s c op run is) (λ d h. ap count (upd_else c v s.ops d h)) in
    let b : count (s.ops c) ≡ count (Some op) = ap count is in
    let e : count (set_at c v s.ops c) ≡ count v = ap count (upd_here c v s.ops) in
    let f : counted count new ≡ total (λ d. count (set_at c v s.ops d)) (begins s.timeline) = ap₂ (λ (g : Records) (n : ℕ). total (λ d. count (g d)) n) ops same in
    omega (arith, a, b, e, f)

-- a call begins
counted_more : (count : Option Record → ℕ) (s : State) (seat : ℕ) (call : Call) (c : ℕ) (reserved : Option ℕ) (graph : Graph) → c ≡ begins s.timeline + 1 → counted count (began s seat call c reserved graph) ≡ counted count s + count (Some (new_op s.start.limits seat call reserved))
counted_more count s seat call c reserved graph number =
    ap (total (λ d. count (set_at c (Some (new_op s.start.limits seat call reserved)) s.ops d))) (begins_begins s.timeline c seat call)
    ∙ total_more (λ d. count (set_at c (Some (new_op s.start.limits seat call reserved)) s.ops d)) (begins s.timeline) ∙ ap₂ (λ (a b : ℕ). a + b) others mine
  where
    others : total (λ d. count (set_at c (Some (new_op s.start.limits seat call reserved)) s.ops d)) (begins s.timeline) ≡ total (λ d. count (s.ops d)) (begins s.timeline)
    others = total_same (λ d. count (set_at c (Some (new_op s.start.limits seat call reserved)) s.ops d)) (λ d. count (s.ops d)) (begins s.timeline) (λ d i. ap count (upd_else c (Some (new_op s.start.limits seat call reserved)) s.ops d (λ e. (let z : d ≡ begins s.timeline + 1 = e ∙ number in omega (arith, z, i)))))

    mine : count (set_at c (Some (new_op s.start.limits seat call reserved)) s.ops (begins s.timeline + 1)) ≡ count (Some (new_op s.start.limits seat call reserved))
    mine = ap (λ (d : ℕ). count (set_at c (Some (new_op s.start.limits seat call reserved)) s.ops d)) (sym number) ∙ ap count (upd_here c (Some (new_op s.start.limits seat call reserved)) s.ops)

-- ---- entries

pub number_push : (k : EntryKind) (es : List Entry) (e : Entry) → number_of k (es ++ e ∷ []) ≡ number_of k es + cond (is_of k e) 1 0
number_push k es e = sum_by_push (λ x. cond (is_of k x) 1 0) es e

pub number_append : (k : EntryKind) (xs ys : List Entry) → number_of k (xs ++ ys) ≡ number_of k xs + number_of k ys
number_append k xs ys = sum_by-append (λ x. cond (is_of k x) 1 0) xs ys

-- each call that began has returned or is under way, and it has its place or walks
pub record Tallied (s : State) : Type 0 where
  pub returned : number_of kind.Return s.timeline + counted under_way s ≡ number_of kind.Begin s.timeline
  pub committed : number_of kind.Commit s.timeline + counted without_place s ≡ number_of kind.Begin s.timeline

-- one call's record changes, and the entries with it
tallied_one : (s new : State) (c : ℕ) (op : Record) (v : Option Record) → Run s → s.ops c ≡ Some op → new.ops ≡ set_at c v s.ops → begins new.timeline ≡ begins s.timeline
    → number_of kind.Begin new.timeline ≡ number_of kind.Begin s.timeline
    → number_of kind.Return new.timeline + under_way v ≡ number_of kind.Return s.timeline + 1
    → number_of kind.Commit new.timeline + without_place v ≡ number_of kind.Commit s.timeline + while_walking op.phase
    → Tallied s → Tallied new
tallied_one s new c op v run is ops same begun returned committed t =
    let a : counted under_way new + 1 ≡ counted under_way s + under_way v = counted_one under_way s new c op v run is ops same in
    let b : counted without_place new + while_walking op.phase ≡ counted without_place s + without_place v = counted_one without_place s new c op v run is ops same in
    let r : number_of kind.Return s.timeline + counted under_way s ≡ number_of kind.Begin s.timeline = t.returned in
    let p : number_of kind.Commit s.timeline + counted without_place s ≡ number_of kind.Begin s.timeline = t.committed in
    record { returned = omega (arith, a, begun, returned, r); committed = omega (arith, b, begun, committed, p) }

took_phase : (op : Record) (o : Option Holdings) (l : Key) (n : ℕ) → (took_by op o l n).phase ≡ op.phase
took_phase op None l n = refl
took_phase op (Some st) [] n = refl
took_phase op (Some st) (x ∷ l) n = refl

-- the call's entry is written, and it walks no more
tallied_commit : (s new : State) (c : ℕ) (op after : Record) → Run s → s.ops c ≡ Some op → op.phase ≡ Walking → while_walking after.phase ≡ 0 → new.ops ≡ set_at c (Some after) s.ops → new.timeline ≡ s.timeline ++ Commit c ∷ [] → Tallied s → Tallied new
tallied_commit s new c op after run is walks placed ops wrote t =
    let b : number_of kind.Begin new.timeline ≡ number_of kind.Begin s.timeline + 0 = ap (number_of kind.Begin) wrote ∙ number_push kind.Begin s.timeline (Commit c) in
    let r : number_of kind.Return new.timeline ≡ number_of kind.Return s.timeline + 0 = ap (number_of kind.Return) wrote ∙ number_push kind.Return s.timeline (Commit c) in
    let p : number_of kind.Commit new.timeline ≡ number_of kind.Commit s.timeline + 1 = ap (number_of kind.Commit) wrote ∙ number_push kind.Commit s.timeline (Commit c) in
    let w : while_walking op.phase ≡ 1 = ap while_walking walks in
    tallied_one s new c op (Some after) run is ops (ap begins wrote ∙ begins_push s.timeline c) (omega (arith, b)) (omega (arith, r)) (omega (arith, p, w, placed)) t

-- the phase stays, or the call walks neither before nor after
tallied_quiet : (s new : State) (c : ℕ) (op after : Record) → Run s → s.ops c ≡ Some op → while_walking after.phase ≡ while_walking op.phase → new.ops ≡ set_at c (Some after) s.ops → new.timeline ≡ s.timeline → Tallied s → Tallied new
tallied_quiet s new c op after run is phase ops kept t =
    let p : number_of kind.Commit new.timeline ≡ number_of kind.Commit s.timeline = ap (number_of kind.Commit) kept in
    tallied_one s new c op (Some after) run is ops (ap begins kept) (ap (number_of kind.Begin) kept) (ap (λ (es : List Entry). number_of kind.Return es + 1) kept) (omega (arith, p, phase)) t

tallied_return : (s : State) (c : ℕ) (op : Record) (r : Reply) → Run s → s.ops c ≡ Some op → op.phase ≡ Finished r → Tallied s → Tallied (returning s c op r)
tallied_return s c op r run is done t =
    let b : number_of kind.Begin (s.timeline ++ Return c r ∷ []) ≡ number_of kind.Begin s.timeline + 0 = number_push kind.Begin s.timeline (Return c r) in
    let q : number_of kind.Return (s.timeline ++ Return c r ∷ []) ≡ number_of kind.Return s.timeline + 1 = number_push kind.Return s.timeline (Return c r) in
    let p : number_of kind.Commit (s.timeline ++ Return c r ∷ []) ≡ number_of kind.Commit s.timeline + 0 = number_push kind.Commit s.timeline (Return c r) in
    let w : while_walking op.phase ≡ 0 = ap while_walking done in
    tallied_one s (returning s c op r) c op None run is refl (returns_begins s.timeline c r) (omega (arith, b)) (omega (arith, q)) (omega (arith, p, w)) t

tallied_step : (s new : State) (seat : ℕ) (answer : Stepped) → Run s → Step s seat answer new → Tallied s → Tallied new
tallied_step s new seat Idle run (off, same) t = subst Tallied (sym same) t
tallied_step s new seat (Busy n d) run (c, op, moves, held, same) t = subst Tallied (sym same) t
tallied_step s new seat (Took n) run (c, op, moves, free, same) t = subst Tallied (sym same) (tallied_quiet s (taking s c op n) c op (took op n) run moves.1 (ap while_walking (took_phase op op.holdings (target op.remaining) n)) refl refl t)
tallied_step s new seat (LetGo n) run (c, op, moves, same) t = subst Tallied (sym same) (tallied_quiet s (letting_go s c op n) c op (let_go op n) run moves.1 refl refl refl t)
tallied_step s new seat (Helped d) run (c, op, u, moves, w, pick, q, is, same) t =
    let a : ◌≡◌ {A = Option Record} (Some pick.0.0.2.0) (Some q) = sym pick.0.0.2.1 ∙ is in
    let b : pick.0.0.2.0 ≡ q = cc in
    subst Tallied (sym same) (tallied_commit s (helping s d q) d q (record q { phase = Placed (commit_count s.timeline) }) run is (ap (λ (o : Record). o.phase) (sym b) ∙ pick.0.0.2.2) refl refl refl t)
tallied_step s new seat Committed run (c, op, o, moves, w, below, same) t = subst Tallied (sym same) (tallied_commit s (committing s c op) c op (finished_op op (finish s.graph op)) run moves.1 w refl refl refl t)
tallied_step s new seat CarriedOut run (c, op, o, i, moves, placed, same) t = subst Tallied (sym same) (tallied_quiet s (carrying s c op) c op (finished_op op (finish s.graph op)) run moves.1 (sym (ap while_walking placed)) refl refl t)
tallied_step s new seat (Returned r) run (c, op, moves, ph, same) t = subst Tallied (sym same) (tallied_return s c op r run moves.1 ph t)

tallied_began : (s : State) (seat : ℕ) (call : Call) (c : ℕ) (reserved : Option ℕ) (graph : Graph) → c ≡ begins s.timeline + 1 → Tallied s → Tallied (began s seat call c reserved graph)
tallied_began s seat call c reserved graph number t =
    let b : number_of kind.Begin (s.timeline ++ Begin c seat call ∷ []) ≡ number_of kind.Begin s.timeline + 1 = number_push kind.Begin s.timeline (Begin c seat call) in
    let q : number_of kind.Return (s.timeline ++ Begin c seat call ∷ []) ≡ number_of kind.Return s.timeline + 0 = number_push kind.Return s.timeline (Begin c seat call) in
    let p : number_of kind.Commit (s.timeline ++ Begin c seat call ∷ []) ≡ number_of kind.Commit s.timeline + 0 = number_push kind.Commit s.timeline (Begin c seat call) in
    let u : counted under_way (began s seat call c reserved graph) ≡ counted under_way s + 1 = counted_more under_way s seat call c reserved graph number in
    let v : counted without_place (began s seat call c reserved graph) ≡ counted without_place s + 1 = counted_more without_place s seat call c reserved graph number in
    let x : number_of kind.Return s.timeline + counted under_way s ≡ number_of kind.Begin s.timeline = t.returned in
    let y : number_of kind.Commit s.timeline + counted without_place s ≡ number_of kind.Begin s.timeline = t.committed in
    record { returned = omega (arith, b, q, u, x); committed = omega (arith, b, p, v, y) }

tallied_begin : (s new : State) (seat : ℕ) (call : Call) (answer : Begun) → Begins s seat call answer new → Tallied s → Tallied new
tallied_begin s new seat call (Err SeatBusy) (c, on, same) t = subst Tallied (sym same) t
tallied_begin s new seat call (Err Full) (off, full, same) t = subst Tallied (sym same) t
tallied_begin s new seat call (Err OutOfMemory) (off, room, same) t = subst Tallied (sym same) t
tallied_begin s new seat call (Ok c) (off, number, r) t = go (reserved_by call) r
  where
    go : (o : Option Shape) → Reserves s seat call c o new → Tallied new
    go None same = subst Tallied (sym same) (tallied_began s seat call c None s.graph number t)
    go (Some shape) (n, less, unused, same) = subst Tallied (sym same) (tallied_began s seat call c (Some n) (reserved_in n shape s.graph) number t)

tallied : (s : State) → Run s → Tallied s
tallied s (Starting limit tree graph is) = record { returned = refl; committed = refl }
tallied s (Beginning {old} seat call answer new run begin) = tallied_begin old s seat call answer begin (tallied old run)
tallied s (Stepping {old} seat answer new run step) = tallied_step old s seat answer run step (tallied old run)

-- there are no more of them than calls that began
pub few_returned : (s : State) → Run s → number_of kind.Return s.timeline ≤ number_of kind.Begin s.timeline
few_returned s run = let t : number_of kind.Return s.timeline + counted under_way s ≡ number_of kind.Begin s.timeline = (tallied s run).returned in omega (arith, t)

pub few_committed : (s : State) → Run s → number_of kind.Commit s.timeline ≤ number_of kind.Begin s.timeline
few_committed s run = let t : number_of kind.Commit s.timeline + counted without_place s ≡ number_of kind.Begin s.timeline = (tallied s run).committed in omega (arith, t)

-- where no call is under way, each that began took its place and returned
pub idle_returned : (s : State) → Run s → IsIdle s → number_of kind.Return s.timeline ≡ number_of kind.Begin s.timeline
idle_returned s run idle =
    let z : counted under_way s ≡ 0 = total_none (λ c. under_way (s.ops c)) (begins s.timeline) (λ c. ap under_way (idle c)) in
    let t : number_of kind.Return s.timeline + counted under_way s ≡ number_of kind.Begin s.timeline = (tallied s run).returned in
    omega (arith, z, t)

pub idle_committed : (s : State) → Run s → IsIdle s → number_of kind.Commit s.timeline ≡ number_of kind.Begin s.timeline
idle_committed s run idle =
    let z : counted without_place s ≡ 0 = total_none (λ c. without_place (s.ops c)) (begins s.timeline) (λ c. ap without_place (idle c)) in
    let t : number_of kind.Commit s.timeline + counted without_place s ≡ number_of kind.Begin s.timeline = (tallied s run).committed in
    omega (arith, z, t)
