-- Each step by which a call goes on leaves fewer steps.
use Rattle.std.proofs.Common.{◌≡◌, ℕ, suc, ◌+◌, ◌≤◌, [], ◌∷◌, Option, Some, None, refl, sym, ap, ap₂, ◌∙◌, subst, arith}
use Rattle.fs_names.specs.Keys.{Key}
use Rattle.fs_names.specs.Shapes.{Shape}
use Rattle.fs_calls.specs.Forms.{form, Form, by_paths, reserved_by}
use Rattle.fs_calls.specs.declared.call.Call.{Call}
use Rattle.fs_calls.specs.declared.errno.Errno.{Errno}
use Rattle.fs_calls.specs.declared.reply.Reply.{Reply}
use Rattle.fs_calls.specs.Graphs.{Graph, set_at, reserved_in}
use Rattle.fs_machine.specs.Finishes.{finish, Effect}
use Rattle.fs_machine.specs.Leaving.{let_go, finished_op}
use Rattle.fs_machine.specs.Moves.{next, next_by, took, took_by, target, left_holdings, left_last, left_heads, next_on}
use Rattle.fs_machine.specs.declared.moves.Move.TheVariants.{Take as Takes, LetGo as Leaves}
use Rattle.fs_machine.specs.Records.{Phase, Walking, Placed, Finished, Record, Records, Holdings, holdings_at}
use Rattle.fs_timeline.specs.Timeline.{begins, commit_count}
use Rattle.fs_laws.specs.Invariants.{IsUnfinished, limits_of}
use Rattle.fs_laws.specs.Settled.{names_left}
use Rattle.fs_machine.specs.States.{State, Reserves, began, new_op, Run, taking, letting_go, helping, carrying, committing, returning}
use Rattle.fs_machine.specs.declared.answers.Stepped.TheVariants.{Idle, Took, Busy, LetGo, Helped, Committed, CarriedOut, Returned}
use Rattle.fs_laws.specs.StepsLeft.{total, one_if, moves_left, one_walked, first_steps, steps_left_by, steps_left_of, steps_left, TakesWork, AddsWork}
use Rattle.fs_laws.proofs.events.Help.{upd_here, upd_else, begins_push}
use Rattle.fs_laws.proofs.journal.OneMoreEntry.{returns_begins, begins_begins}
use Rattle.fs_laws.proofs.events.LetGo.{held_on_move}
use Rattle.fs_laws.proofs.events.Take.{TakesFrom, From_nowhere, From_holdings, takes_from}
use Rattle.fs_laws.proofs.calls.Takes.{takes_by}
use Rattle.fs_laws.proofs.events.Return.{ends_nowhere}
use Rattle.fs_laws.proofs.states.Headline.{run_keeps}
use Rattle.fs_laws.proofs.states.Agreement.{run_accounts}
use Rattle.fs_laws.proofs.states.GraphOfARun.{begun_before}
use Rattle.fs_laws.proofs.states.Sums.{total_same, total_one}
use Rattle.fs_laws.proofs.calls.OneUnfinishedCall.{solo_of}
use Rattle.fs_laws.proofs.calls.GoingOnAlone.{Advanced, solo_took, solo_left, left_alone, enough, if_one}

-- one call's record changes
changed_work : (ops : Records) (c n : ℕ) (v : Option Record) → c ≤ n → total (λ d. steps_left_of (set_at c v ops d)) n + steps_left_of (ops c) ≡ total (λ d. steps_left_of (ops d)) n + steps_left_of v
changed_work ops c n v i =
    let t : total (λ d. steps_left_of (set_at c v ops d)) n + steps_left_of (ops c) ≡ total (λ d. steps_left_of (ops d)) n + steps_left_of (set_at c v ops c) =
    total_one (λ d. steps_left_of (set_at c v ops d)) (λ d. steps_left_of (ops d)) c n i (λ d h. ap steps_left_of (upd_else c v ops d h)) in
    t ∙ ap (λ (o : Option Record). total (λ d. steps_left_of (ops d)) n + steps_left_of o) (upd_here c v ops)

less_work : (s : State) (run : Run s) (c : ℕ) (op : Record) (v : Option Record) (new : State) → s.ops c ≡ Some op → new.ops ≡ set_at c v s.ops → begins new.timeline ≡ begins s.timeline → steps_left_of v + 1 ≤ steps_left_of (Some op) → steps_left new + 1 ≤ steps_left s
less_work s run c op v new is ops same less =
    let a : total (λ d. steps_left_of (set_at c v s.ops d)) (begins s.timeline) + steps_left_of (s.ops c) ≡ steps_left s + steps_left_of v = changed_work s.ops c (begins s.timeline) v (begun_before s c op run is) in
    let b : steps_left_of (s.ops c) ≡ steps_left_of (Some op) = ap steps_left_of is in
    let d : steps_left new ≡ total (λ d. steps_left_of (set_at c v s.ops d)) (begins s.timeline) = ap₂ (λ (f : Records) (n : ℕ). total (λ x. steps_left_of (f x)) n) ops same in
    omega (arith, a, b, d, less)

-- what the phases ask
open_more : (remaining : Form) (p : Phase) (st : Option Holdings) → ((r : Reply) → p ≡ Finished r → ⊥) → 6 ≤ steps_left_by remaining p st
open_more remaining Walking None u = omega arith
open_more remaining Walking (Some st) u = omega arith
open_more remaining (Placed i) None u = omega arith
open_more remaining (Placed i) (Some st) u = omega arith
open_more remaining (Finished r) st u = absurd (u r refl)

walked_one : (w : Key) → one_walked w ≤ 1
walked_one [] = omega arith
walked_one (x ∷ w) = omega arith

finished_few : (remaining : Form) (r : Reply) (st : Option Holdings) → steps_left_by remaining (Finished r) st ≤ 5
finished_few remaining r None = omega arith
finished_few remaining r (Some st) =
    let a : one_walked st.source.walked ≤ 1 = walked_one st.source.walked in
    let b : one_walked st.dest.walked ≤ 1 = walked_one st.dest.walked in
    let c : one_if st.victim ≤ 1 = if_one st.victim in
    omega (arith, a, b, c)

-- fewer moves, with the same phase
fewer : (f g : Form) (p : Phase) (st new : Holdings) → ((r : Reply) → p ≡ Finished r → ⊥) → moves_left g new + 1 ≤ moves_left f st → steps_left_by g p (Some new) + 1 ≤ steps_left_by f p (Some st)
fewer f g Walking st new u h = omega (arith, h)
fewer f g (Placed i) st new u h = omega (arith, h)
fewer f g (Finished r) st new u h = absurd (u r refl)

-- a take
took_less : (s : State) (run : Run s) (c : ℕ) (op : Record) (n : ℕ) → s.ops c ≡ Some op → next s.graph op ≡ Takes n → steps_left_of (Some (took op n)) + 1 ≤ steps_left_of (Some op)
took_less s run c op n is m = go (takes_from s.graph op n m).0 (takes_from s.graph op n m).1
  where
    at_root : op.holdings ≡ None → (p : Phase) → op.phase ≡ p → IsUnfinished op → steps_left_by op.remaining p (Some (holdings_at n None)) + 1 ≤ steps_left_by op.remaining p None
    at_root off Walking e u =
        let a : moves_left op.remaining (holdings_at n None) ≤ names_left op.remaining + names_left op.remaining + 4 = enough op.remaining (holdings_at n None) in
        omega (arith, a)
    at_root off (Placed i) e u =
        let p : (st : Holdings) × (op.holdings ≡ Some st) = ((run_keeps s run).own c op is).placed i e in
        let z : ◌≡◌ {A = Option Holdings} None (Some p.0) = sym off ∙ p.1 in cc
    at_root off (Finished r) e u = absurd (u r e)

    go : TakesFrom s.graph op n → IsUnfinished op → steps_left_of (Some (took op n)) + 1 ≤ steps_left_of (Some op)
    go (From_nowhere text off z) u =
        let v : took op n ≡ record op { holdings = Some (holdings_at n None) } = ap (λ (o : Option Holdings). took_by op o (target op.remaining) n) off in
        subst (λ (o : Record). steps_left_of (Some o) + 1 ≤ steps_left_of (Some op)) (sym v) (subst (λ (o : Option Holdings). steps_left_by op.remaining op.phase (Some (holdings_at n None)) + 1 ≤ steps_left_by op.remaining op.phase o) (sym off) (at_root off op.phase refl u))
    go (From_holdings st on t) u =
        let a : Advanced s.graph ((run_keeps s run).key c) op st (took op n) = solo_took s.graph (run_keeps s run).is_graph ((run_keeps s run).key c) op n st (solo_of s (run_keeps s run) (run_accounts s run) c op st is u on) (takes_by s.graph op n st on t) in
        subst (λ (o : Option Holdings). steps_left_of (Some (took op n)) + 1 ≤ steps_left_by op.remaining op.phase o) (sym on)
        (subst (λ (o : Option Holdings). steps_left_by (took op n).remaining (took op n).phase o + 1 ≤ steps_left_by op.remaining op.phase (Some st)) (sym a.solo.on)
        (subst (λ (p : Phase). steps_left_by (took op n).remaining p (Some a.new) + 1 ≤ steps_left_by op.remaining op.phase (Some st)) (sym a.phase)
        (fewer op.remaining (took op n).remaining op.phase st a.new u a.less)))

-- a let go of a finished call
last_less : (remaining : Form) (r : Reply) (st : Holdings) → steps_left_by remaining (Finished r) (left_last st st.victim) + 1 ≤ steps_left_by remaining (Finished r) (Some st)
last_less remaining r st = victim st.victim refl
  where
    source : (w : Key) → st.dest.walked ≡ [] → st.source.walked ≡ w → steps_left_by remaining (Finished r) (left_heads st [] w) + 1 ≤ steps_left_by remaining (Finished r) (Some st)
    source (x ∷ w) j k = let a : one_walked st.source.walked ≡ 1 = ap one_walked k in omega (arith, a)
    source [] j k = omega arith

    dest : (w : Key) → st.dest.walked ≡ w → steps_left_by remaining (Finished r) (left_heads st w st.source.walked) + 1 ≤ steps_left_by remaining (Finished r) (Some st)
    dest (x ∷ w) j = let a : one_walked st.dest.walked ≡ 1 = ap one_walked j in omega (arith, a)
    dest [] j = source st.source.walked j refl

    victim : (o : Option ℕ) → st.victim ≡ o → steps_left_by remaining (Finished r) (left_last st o) + 1 ≤ steps_left_by remaining (Finished r) (Some st)
    victim (Some v) i = let a : one_if st.victim ≡ 1 = ap one_if i in omega (arith, a)
    victim None i = dest st.dest.walked refl

left_less : (s : State) (run : Run s) (c : ℕ) (op : Record) (n : ℕ) → s.ops c ≡ Some op → next s.graph op ≡ Leaves n → steps_left_of (Some (let_go op n)) + 1 ≤ steps_left_of (Some op)
left_less s run c op n is m = go op.phase (by_paths op.call) op.holdings refl refl m
  where
    on_way : (st : Holdings) → IsUnfinished op → op.holdings ≡ Some st → next_on s.graph op.remaining st ≡ Leaves n → steps_left_of (Some (let_go op n)) + 1 ≤ steps_left_of (Some op)
    on_way st u on f =
        let a : Advanced s.graph ((run_keeps s run).key c) op st (left_alone op) = solo_left s.graph ((run_keeps s run).key c) op n st (solo_of s (run_keeps s run) (run_accounts s run) c op st is u on) (held_on_move s.graph op.remaining st n f) in
        subst (λ (o : Option Holdings). steps_left_by op.remaining op.phase (left_holdings op.phase op.holdings) + 1 ≤ steps_left_by op.remaining op.phase o) (sym on)
        (subst (λ (o : Option Holdings). steps_left_by op.remaining op.phase o + 1 ≤ steps_left_by op.remaining op.phase (Some st)) (sym a.solo.on) (fewer op.remaining op.remaining op.phase st a.new u a.less))

    go : (p : Phase) (e : Option Errno) (o : Option Holdings) → op.phase ≡ p → op.holdings ≡ o → next_by s.graph op e p o ≡ Leaves n → steps_left_of (Some (let_go op n)) + 1 ≤ steps_left_of (Some op)
    go (Finished r) e None i j f = cc
    go (Finished r) e (Some st) i j f = subst (λ (p : Phase). steps_left_by op.remaining p (left_holdings p op.holdings) + 1 ≤ steps_left_by op.remaining p op.holdings) (sym i) (subst (λ (x : Option Holdings). steps_left_by op.remaining (Finished r) (left_holdings (Finished r) x) + 1 ≤ steps_left_by op.remaining (Finished r) x) (sym j) (last_less op.remaining r st))
    go Walking (Some e) o i j f = cc
    go (Placed k) (Some e) o i j f = cc
    go Walking None None i j f = cc
    go (Placed k) None None i j f = cc
    go Walking None (Some st) i j f = on_way st (λ r h. (let z : ◌≡◌ {A = Phase} Walking (Finished r) = sym i ∙ h in cc)) j f
    go (Placed k) None (Some st) i j f = on_way st (λ r h. (let z : ◌≡◌ {A = Phase} (Placed k) (Finished r) = sym i ∙ h in cc)) j f

-- a finish
finish_less : (op : Record) (m : Effect) → IsUnfinished op → steps_left_of (Some (finished_op op m)) + 1 ≤ steps_left_of (Some op)
finish_less op m u =
    let a : steps_left_by op.remaining (Finished m.reply) op.holdings ≤ 5 = finished_few op.remaining m.reply op.holdings in
    let b : 6 ≤ steps_left_by op.remaining op.phase op.holdings = open_more op.remaining op.phase op.holdings u in
    omega (arith, a, b)

walking_open : (op : Record) → op.phase ≡ Walking → IsUnfinished op
walking_open op w r e = let z : ◌≡◌ {A = Phase} Walking (Finished r) = sym w ∙ e in cc

-- helping
helped_less : (q : Record) (st : Holdings) (i : ℕ) → q.phase ≡ Walking → q.holdings ≡ Some st → steps_left_of (Some (record q { phase = Placed i })) + 1 ≤ steps_left_of (Some q)
helped_less q st i w on = subst (λ (p : Phase). steps_left_by q.remaining (Placed i) q.holdings + 1 ≤ steps_left_by q.remaining p q.holdings) (sym w) (subst (λ (o : Option Holdings). steps_left_by q.remaining (Placed i) o + 1 ≤ steps_left_by q.remaining Walking o) (sym on) (omega arith))

-- each step by which a call goes on
pub takes_work : (s : State) → Run s → TakesWork s
takes_work s run seat Idle new st g = absurd g
takes_work s run seat (Busy n d) new st g = absurd g
takes_work s run seat (Took n) new (c, op, moves, free, same) g = subst (λ (x : State). steps_left x + 1 ≤ steps_left s) (sym same) (less_work s run c op (Some (took op n)) (taking s c op n) moves.1 refl refl (took_less s run c op n moves.1 moves.2))
takes_work s run seat (LetGo n) new (c, op, moves, same) g = subst (λ (x : State). steps_left x + 1 ≤ steps_left s) (sym same) (less_work s run c op (Some (let_go op n)) (letting_go s c op n) moves.1 refl refl (left_less s run c op n moves.1 moves.2))
takes_work s run seat (Helped d) new (c, op, t, moves, w, pick, q, is, same) g =
    let a : ◌≡◌ {A = Option Record} (Some pick.0.0.2.0) (Some q) = sym pick.0.0.2.1 ∙ is in
    let b : pick.0.0.2.0 ≡ q = cc in
    subst (λ (x : State). steps_left x + 1 ≤ steps_left s) (sym same)
    (less_work s run d q (Some (record q { phase = Placed (commit_count s.timeline) })) (helping s d q) is refl (begins_push s.timeline d)
    (helped_less q pick.0.0.2.3.0 (commit_count s.timeline) (ap (λ (o : Record). o.phase) (sym b) ∙ pick.0.0.2.2) (ap (λ (o : Record). o.holdings) (sym b) ∙ pick.0.0.2.3.2)))
takes_work s run seat Committed new (c, op, o, moves, w, below, same) g = subst (λ (x : State). steps_left x + 1 ≤ steps_left s) (sym same) (less_work s run c op (Some (finished_op op (finish s.graph op))) (committing s c op) moves.1 refl (begins_push s.timeline c) (finish_less op (finish s.graph op) (walking_open op w)))
takes_work s run seat CarriedOut new (c, op, o, i, moves, placed, same) g = subst (λ (x : State). steps_left x + 1 ≤ steps_left s) (sym same) (less_work s run c op (Some (finished_op op (finish s.graph op))) (carrying s c op) moves.1 refl refl (finish_less op (finish s.graph op) (λ r e. (let z : ◌≡◌ {A = Phase} (Placed i) (Finished r) = sym placed ∙ e in cc))))
takes_work s run seat (Returned r) new (c, op, moves, ph, same) g =
    subst (λ (x : State). steps_left x + 1 ≤ steps_left s) (sym same)
    (less_work s run c op None (returning s c op r) moves.1 refl (returns_begins s.timeline c r)
    (subst (λ (p : Phase). 1 ≤ steps_left_by op.remaining p op.holdings) (sym ph) (subst (λ (o : Option Holdings). 1 ≤ steps_left_by op.remaining (Finished r) o) (sym (ends_nowhere s.graph op r ph moves.2)) (omega arith))))

-- a begin
began_work : (s : State) → Run s → (seat : ℕ) (call : Call) (c : ℕ) (reserved : Option ℕ) (graph : Graph) → c ≡ begins s.timeline + 1 → steps_left (began s seat call c reserved graph) ≡ steps_left s + first_steps (form (limits_of s) call)
began_work s run seat call c reserved graph number = ap (total (λ d. steps_left_of (set_at c (Some (new_op s.start.limits seat call reserved)) s.ops d))) (begins_begins s.timeline c seat call) ∙ more
  where
    n : ℕ
    n = begins s.timeline

    others : total (λ d. steps_left_of (set_at c (Some (new_op s.start.limits seat call reserved)) s.ops d)) (begins s.timeline) ≡ total (λ d. steps_left_of (s.ops d)) (begins s.timeline)
    others = total_same (λ d. steps_left_of (set_at c (Some (new_op s.start.limits seat call reserved)) s.ops d)) (λ d. steps_left_of (s.ops d)) (begins s.timeline) (λ d i. ap steps_left_of (upd_else c (Some (new_op s.start.limits seat call reserved)) s.ops d (λ e. (let z : d ≡ begins s.timeline + 1 = e ∙ number in omega (arith, z, i)))))

    mine : steps_left_of (set_at c (Some (new_op s.start.limits seat call reserved)) s.ops (begins s.timeline + 1)) ≡ first_steps (form (limits_of s) call)
    mine = ap (λ (d : ℕ). steps_left_of (set_at c (Some (new_op s.start.limits seat call reserved)) s.ops d)) (sym number) ∙ ap steps_left_of (upd_here c (Some (new_op s.start.limits seat call reserved)) s.ops)

    more : total (λ d. steps_left_of (set_at c (Some (new_op s.start.limits seat call reserved)) s.ops d)) (begins s.timeline + 1) ≡ steps_left s + first_steps (form (limits_of s) call)
    more = next_total (λ d. steps_left_of (set_at c (Some (new_op s.start.limits seat call reserved)) s.ops d)) (begins s.timeline) ∙ ap₂ (λ (a b : ℕ). a + b) others mine
      where
        next_total : (f : ℕ → ℕ) (m : ℕ) → total f (m + 1) ≡ total f m + f (m + 1)
        next_total f m = let e : m + 1 ≡ suc m = omega arith in ap (total f) e ∙ ap (λ (x : ℕ). total f m + f x) (sym e)

pub adds_work : (s : State) → Run s → AddsWork s
adds_work s run seat c call new (free, number, r) = go (reserved_by call) r
  where
    go : (o : Option Shape) → Reserves s seat call c o new → steps_left new ≡ steps_left s + first_steps (form (limits_of s) call)
    go None same = ap steps_left same ∙ began_work s run seat call c None s.graph number
    go (Some shape) (n, less, unused, same) = ap steps_left same ∙ began_work s run seat call c (Some n) (reserved_in n shape s.graph) number
