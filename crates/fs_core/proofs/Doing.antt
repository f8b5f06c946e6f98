-- What a core's methods rest on and leave, by the call on a seat and what was read and written there.
use Rattle.std.proofs.Common.{◌≡◌, ℕ, zero, suc, ◌+◌, ◌-◌, ◌<◌, ◌≤◌, Bool, true, false, List, [], ◌∷◌, ◌++◌, Option, Some, None, length, get_or, Fits, w64, refl, sym, ap, ◌∙◌, arith, subst}
use Rattle.std.specs.Prelude.{slice_get, slice_set, IsSome}
use Rattle.std.proofs.lemmas.Option.{slice_get_within, slice_get_read}
use Rattle.fs_names.specs.Limits.{in_blocks}
use Rattle.fs_names.specs.Shapes.{Shape}
use Rattle.fs_calls.specs.declared.reply.Reply.{Reply}
use Rattle.fs_nodes.specs.Graphs.{set_at}
use Rattle.fs_nodes.specs.Stores.{Places, graph_of}
use Rattle.fs_nodes.specs.Seen.{seen, IsReal}
use Rattle.fs_locks.specs.Holding.{Holding, holder, room}
use Rattle.fs_locks.specs.declared.word.TheConstants.{CALL_LIMIT}
use Rattle.fs_timeline.specs.declared.entry.Entry.TheVariants.{Commit, Return}
use Rattle.fs_timeline.specs.Timeline.{begins}
use Rattle.fs_machine.specs.Leaving.{is_removed, releasing, unreserved}
use Rattle.fs_machine.specs.Moves.{next}
use Rattle.fs_machine.specs.declared.moves.Move.{Move}
use Rattle.fs_machine.specs.declared.moves.Move.TheVariants.{Take as Takes, LetGo as Leaves, Finish as Finishes, Return as Ends}
use Rattle.fs_machine.specs.OpValues.{OpValue, record_of, next_of, IsTook, IsLetGo, IsFinished, IsSpare, SpareIf, CanFinish, graph_after}
use Rattle.fs_machine.specs.States.{State, Step, NoneBelow}
use Rattle.fs_machine.specs.declared.answers.Stepped.TheVariants.{Idle, Took, Busy, LetGo, Helped, Committed, CarriedOut, Returned}
use Rattle.fs_machine.specs.declared.moves.Moved.{Moved}
use Rattle.fs_laws.proofs.calls.NextMoves.{takes_used, takes_another, leaves_held}
use Rattle.fs_laws.proofs.states.GraphOfARun.{spare_reserved, spare_removed, can_finish, begun_before}
use Rattle.fs_core_seats.specs.declared.seat.Running.{Running}
use Rattle.fs_core.specs.CoreValues.{CoreValue, state_of}
use Rattle.fs_core_seats.specs.Seats.{number_of, records}
use Rattle.fs_core_seats.specs.code.Owed.{walking, walking_at, owed_at, owed}
use Rattle.fs_core.specs.code.Rooms.{IsKept}
use Rattle.fs_core.specs.declared.done.Done.TheVariants as done
use Rattle.fs_core.specs.code.Doing.{Does}
use Rattle.fs_core.specs.code.Helping.{Helps}
use Rattle.fs_core.specs.code.Seats.{MovesOn, PlacedOn, PlansOn}
use Rattle.fs_core_seats.specs.code.Changes.{Goes, placed}
use Rattle.fs_ops_effects.specs.Plans.{Changes}
use Rattle.fs_ops_effects.specs.declared.plan.Plan.{Plan}
use Rattle.fs_ops.specs.PlanOf.{HasSetOut, IsPlan, plan_of, IfFinish}
use Rattle.fs_ops.specs.declared.next.Next.{Next}
use Rattle.fs_core_seats.proofs.SeatLemmas.{number_read}
use Rattle.fs_core.proofs.States.{call_on, moves}
use Rattle.fs_core.proofs.Steps.{took_step, let_go_step, helped_step, committed_step, carried_step, returned_step}
use Rattle.fs_core.proofs.SetsOut.{sets_out}
use Rattle.fs_core.proofs.WorkLemmas.{next_is, unfinished_at, finished_at}

-- the call on a seat in the machine's state
on_state : (m : CoreValue) (b k p seat call : ℕ) (move : Move) → IsKept m b k p → (x : MovesOn m seat call move) → records m.seats call ≡ Some (record_of seat x.running.place x.running.op)
on_state m b k p seat call move kept x = ap (records m.seats) (sym x.number) ∙ call_on m seat x.running kept.run x.on

next_on : (m : CoreValue) (seat call : ℕ) (move : Move) → (x : MovesOn m seat call move) → next (graph_of m.store) (record_of seat x.running.place x.running.op) ≡ move
next_on m seat call move x = next_is (graph_of m.store) seat x.running.place x.running.op ∙ x.next

pub seat_within : (m : CoreValue) (seat call : ℕ) (move : Move) → MovesOn m seat call move → seat < length m.seats
seat_within m seat call move x = slice_get_within m.seats seat (Some x.running) x.on

-- what was read on the seat
pub read_on : (m : CoreValue) (seat call : ℕ) (move : Move) (old : Option Running) → (x : MovesOn m seat call move) → old ≡ get_or m.seats seat old → old ≡ Some x.running
read_on m seat call move old x e =
    let z : ◌≡◌ {A = Option (Option Running)} (Some old) (Some (Some x.running)) = sym (slice_get_read m.seats _ seat old refl (seat_within m seat call move x) e) ∙ x.on in cc

goes_on : (R : OpValue → OpValue → Type 0) (m : CoreValue) (seat call : ℕ) (move : Move) (old new : Option Running) → (x : MovesOn m seat call move) → old ≡ get_or m.seats seat old → Goes R old new → (w : OpValue) × R x.running.op w × (w.limits ≡ x.running.op.limits) × (new ≡ Some (record x.running { op = w }))
goes_on R m seat call move old new x e g = subst (λ (o : Option Running). Goes R o new) (read_on m seat call move old x e) g

-- a take
pub take_within : (m : CoreValue) (b k p seat call n : ℕ) → IsKept m b k p → MovesOn m seat call (Takes n) → n < room m.holding
take_within m b k p seat call n kept x =
    let s : (s : Shape) × ((graph_of m.store).shape n ≡ Some s) = takes_used (state_of m) call (record_of seat x.running.place x.running.op) n kept.run (on_state m b k p seat call (Takes n) kept x) (next_on m seat call (Takes n) x) in
    kept.roomy n s.0 s.1

-- a call under way is not the one whose number cannot hold a node
pub take_few : (m : CoreValue) (b k p seat call : ℕ) (move : Move) → IsKept m b k p → MovesOn m seat call move → call < CALL_LIMIT
take_few m b k p seat call move kept x =
    let before : call ≤ begins m.timeline = begun_before (state_of m) call (record_of seat x.running.place x.running.op) kept.run (on_state m b k p seat call move kept x) in
    let less : b < CALL_LIMIT = kept.few in
    let is : b ≡ begins m.timeline = kept.begun_is in
    omega (arith, before, less, is)

pub take_another : (m : CoreValue) (b k p seat call n : ℕ) → IsKept m b k p → MovesOn m seat call (Takes n) → holder m.holding n ≡ Some call → ⊥
take_another m b k p seat call n kept x held = takes_another (state_of m) call (record_of seat x.running.place x.running.op) n kept.run (on_state m b k p seat call (Takes n) kept x) (next_on m seat call (Takes n) x) held

pub took_kept : (m : CoreValue) (b k p seat call n : ℕ) → IsKept m b k p → MovesOn m seat call (Takes n) → holder m.holding n ≡ None
    → (hs : Holding) (old new : Option Running) → holder hs ≡ set_at n (Some call) (holder m.holding) → room hs ≡ room m.holding → old ≡ get_or m.seats seat old → Goes (λ a c. IsTook a n c) old new
    → Step (state_of m) seat (Took n) (state_of (record m { holding = hs; seats = slice_set m.seats seat new })) × IsKept (record m { holding = hs; seats = slice_set m.seats seat new }) b k p
took_kept m b k p seat call n kept x free hs old new is_hs is_room read goes =
    let g : (w : OpValue) × IsTook x.running.op n w × (w.limits ≡ x.running.op.limits) × (new ≡ Some (record x.running { op = w })) = goes_on (λ a c. IsTook a n c) m seat call (Takes n) old new x read goes in
    took_step m b k p seat x.running n kept x.on x.next free hs g.0 new (is_hs ∙ ap (λ (c : ℕ). set_at n (Some c) (holder m.holding)) (sym x.number)) is_room g.1 g.2 g.3

pub busy_step : (m : CoreValue) (b k p seat call n d : ℕ) → IsKept m b k p → MovesOn m seat call (Takes n) → holder m.holding n ≡ Some d → Step (state_of m) seat (Busy n d) (state_of m)
busy_step m b k p seat call n d kept x held = (x.running.call, record_of seat x.running.place x.running.op, moves m seat x.running (Takes n) kept.run x.on x.next, held, refl)

-- the node is held still, and by the call that is told
busy_held : (old new : State) (seat n d : ℕ) → Step old seat (Busy n d) new → new.holder n ≡ Some d
busy_held old new seat n d x = ap (λ (s : State). s.holder n) x.4 ∙ x.3

pub busy_by_some : (old new : CoreValue) (seat n : ℕ) → Does old seat (done.Busy n) new → holder new.holding n ≡ None → ⊥
busy_by_some old new seat n x e =
    let z : ◌≡◌ {A = Option ℕ} None (Some x.0) = sym e ∙ busy_held (state_of old) (state_of new) seat n x.0 x.1 in
    cc

pub busy_told : (old new : CoreValue) (seat n d : ℕ) → Does old seat (done.Busy n) new → holder new.holding n ≡ Some d → Step (state_of old) seat (Busy n d) (state_of new)
busy_told old new seat n d x e =
    let z : ◌≡◌ {A = Option ℕ} (Some x.0) (Some d) = sym (busy_held (state_of old) (state_of new) seat n x.0 x.1) ∙ e in
    let y : x.0 ≡ d = cc in
    subst (λ (b : ℕ). Step (state_of old) seat (Busy n b) (state_of new)) y x.1

-- a let go
pub let_go_held : (m : CoreValue) (b k p seat call n : ℕ) → IsKept m b k p → MovesOn m seat call (Leaves n) → IsSome (holder m.holding n)
let_go_held m b k p seat call n kept x = by (holder m.holding n) call (leaves_held (state_of m) call (record_of seat x.running.place x.running.op) n kept.run (on_state m b k p seat call (Leaves n) kept x) (next_on m seat call (Leaves n) x))
  where
    by : (o : Option ℕ) (c : ℕ) → o ≡ Some c → IsSome o
    by None c e = cc
    by (Some d) c e = refl

pub let_go_spare : (m : CoreValue) (b k p seat call n : ℕ) → IsKept m b k p → (x : MovesOn m seat call (Leaves n)) → (old : Option Running) → old ≡ get_or m.seats seat old → (r : Running) → old ≡ Some r → is_removed r.op.removed n ≡ true → IsSpare (graph_of m.store) n
let_go_spare m b k p seat call n kept x old read r e removed =
    let z : ◌≡◌ {A = Option Running} (Some r) (Some x.running) = sym e ∙ read_on m seat call (Leaves n) old x read in
    let y : r ≡ x.running = cc in
    spare_removed (state_of m) call (record_of seat x.running.place x.running.op) n kept.run (on_state m b k p seat call (Leaves n) kept x) (ap (λ (q : Running). is_removed q.op.removed n) (sym y) ∙ removed)

pub left_kept : (m : CoreValue) (b k p seat call n : ℕ) → IsKept m b k p → (x : MovesOn m seat call (Leaves n))
    → (st : Places) (hs : Holding) (old new : Option Running) → ((r : Running) → old ≡ Some r → graph_of st ≡ releasing (is_removed r.op.removed n) n (graph_of m.store)) → (seen st).limit ≡ (seen m.store).limit → (seen st).in_blocks ≡ (seen m.store).in_blocks
    → holder hs ≡ set_at n None (holder m.holding) → room hs ≡ room m.holding → old ≡ get_or m.seats seat old → Goes (λ a c. IsLetGo a n c) old new
    → Step (state_of m) seat (LetGo n) (state_of (record m { store = st; holding = hs; seats = slice_set m.seats seat new })) × IsKept (record m { store = st; holding = hs; seats = slice_set m.seats seat new }) b k p
left_kept m b k p seat call n kept x st hs old new graph limit blocks is_hs is_room read goes =
    let g : (w : OpValue) × IsLetGo x.running.op n w × (w.limits ≡ x.running.op.limits) × (new ≡ Some (record x.running { op = w })) = goes_on (λ a c. IsLetGo a n c) m seat call (Leaves n) old new x read goes in
    let_go_step m b k p seat x.running n kept x.on x.next st hs g.0 new (graph x.running (read_on m seat call (Leaves n) old x read)) limit blocks is_hs is_room g.1 g.2 g.3

-- a finish
pub finish_can : (m : CoreValue) (b k p seat call : ℕ) (s : Moved) → IsKept m b k p → (x : MovesOn m seat call (Finishes s)) → (old : Option Running) → old ≡ get_or m.seats seat old → (r : Running) → old ≡ Some r → CanFinish (graph_of m.store) r.op.reserved r.op.remaining r.op.holdings
finish_can m b k p seat call s kept x old read r e =
    let z : ◌≡◌ {A = Option Running} (Some r) (Some x.running) = sym e ∙ read_on m seat call (Finishes s) old x read in
    let y : x.running ≡ r = cc in
    subst (λ (q : Running). CanFinish (graph_of m.store) q.op.reserved q.op.remaining q.op.holdings) y
    (can_finish (state_of m) call (record_of seat x.running.place x.running.op) s kept.run (on_state m b k p seat call (Finishes s) kept x) (next_on m seat call (Finishes s) x))

pub finish_form : (m : CoreValue) (b k p seat call : ℕ) (s : Moved) → IsKept m b k p → (x : MovesOn m seat call (Finishes s)) → (old : Option Running) → old ≡ get_or m.seats seat old → (r : Running) → old ≡ Some r → (seen m.store).in_blocks ≡ in_blocks r.op.limits
finish_form m b k p seat call s kept x old read r e =
    let z : ◌≡◌ {A = Option Running} (Some r) (Some x.running) = sym e ∙ read_on m seat call (Finishes s) old x read in
    let y : x.running ≡ r = cc in
    kept.form ∙ ap in_blocks (sym (kept.limits seat x.running x.on)) ∙ ap (λ (q : Running). in_blocks q.op.limits) y

pub finish_plan : (m : CoreValue) (seat call : ℕ) (s : Moved) (plan : Plan) → (x : MovesOn m seat call (Finishes s)) → PlansOn m seat plan → (old : Option Running) → old ≡ get_or m.seats seat old → (r : Running) → old ≡ Some r → IsPlan (seen m.store) r.op plan
finish_plan m seat call s plan x plans old read r e =
    let z : ◌≡◌ {A = Option Running} (Some r) (Some x.running) = sym e ∙ read_on m seat call (Finishes s) old x read in
    let y : x.running ≡ r = cc in
    subst (λ (q : Running). IsPlan (seen m.store) q.op plan) y (plans x.running x.on)

-- a place is there for the entry that is owed, and there are more begins than commits while a call walks
owes : (seats : List (Option Running)) (seat : ℕ) (slot : Option Running) → slice_get seats seat ≡ Some slot → (owed_at slot ≤ owed seats) × (walking_at slot ≤ walking seats)
owes [] seat slot e = cc
owes (p ∷ seats) zero slot e = let z : p ≡ slot = cc in rw z (omega arith, omega arith)
owes (p ∷ seats) (suc seat) slot e = let r : (owed_at slot ≤ owed seats) × (walking_at slot ≤ walking seats) = owes seats seat slot e in (omega (arith, r.0), omega (arith, r.1))

pub push_place : (m : CoreValue) (b k p seat : ℕ) (r : Running) → IsKept m b k p → slice_get m.seats seat ≡ Some (Some r) → 0 < p
push_place m b k p seat r kept on = let o : owed_at (Some r) ≤ owed m.seats = (owes m.seats seat (Some r) on).0 in let q : 0 < owed_at (Some r) = positive (Rattle.fs_core_seats.specs.code.Owed.is_walking r) in let l : owed m.seats ≤ p = kept.owed_is in omega (arith, o, q, l)
  where
    positive : (c : Bool) → 0 < Rattle.std.proofs.Common.cond c 2 1
    positive true = omega arith
    positive false = omega arith

pub moving_place : (m : CoreValue) (b k p seat call : ℕ) (move : Move) → IsKept m b k p → MovesOn m seat call move → 0 < p
moving_place m b k p seat call move kept x = push_place m b k p seat x.running kept x.on

pub commit_fits : (m : CoreValue) (b k p seat : ℕ) (r : Running) → IsKept m b k p → slice_get m.seats seat ≡ Some (Some r) → r.place ≡ None → r.op.reply ≡ None → k + 1 ≤ b
commit_fits m b k p seat r kept on e f =
    let o : walking_at (Some r) ≤ walking m.seats = (owes m.seats seat (Some r) on).1 in
    let w : walking_at (Some r) ≡ 1 = (Rattle.fs_core.proofs.Steps.walks_owed r e f).1 in
    let l : k + walking m.seats ≤ b = kept.within in omega (arith, o, w, l)

pub committed_kept : (m : CoreValue) (b k p seat call : ℕ) (s : Moved) → IsKept m b k p → (x : MovesOn m seat call (Finishes s)) → PlacedOn m seat None → NoneBelow (state_of m) s
    → (st : Places) (old new : Option Running) → ((r : Running) → old ≡ Some r → graph_of st ≡ graph_after (graph_of m.store) r.op) → (seen st).limit ≡ (seen m.store).limit → (seen st).in_blocks ≡ (seen m.store).in_blocks → old ≡ get_or m.seats seat old → Goes (λ a c. IsFinished (graph_of m.store) a c) old new
    → Step (state_of m) seat Committed (state_of (record m { store = st; seats = slice_set m.seats seat new; timeline = m.timeline ++ Commit call ∷ [] })) × IsKept (record m { store = st; seats = slice_set m.seats seat new; timeline = m.timeline ++ Commit call ∷ [] }) b (k + 1) (p - 1)
committed_kept m b k p seat call s kept x unplaced none st old new graph limit blocks read goes =
    let g : (w : OpValue) × IsFinished (graph_of m.store) x.running.op w × (w.limits ≡ x.running.op.limits) × (new ≡ Some (record x.running { op = w })) = goes_on (λ a c. IsFinished (graph_of m.store) a c) m seat call (Finishes s) old new x read goes in
    subst (λ (c : ℕ). Step (state_of m) seat Committed (state_of (record m { store = st; seats = slice_set m.seats seat new; timeline = m.timeline ++ Commit c ∷ [] })) × IsKept (record m { store = st; seats = slice_set m.seats seat new; timeline = m.timeline ++ Commit c ∷ [] }) b (k + 1) (p - 1)) x.number
    (committed_step m b k p seat x.running s kept x.on x.next (unplaced x.running x.on) none st g.0 new (graph x.running (read_on m seat call (Finishes s) old x read)) limit blocks g.1 g.2 g.3)

pub carried_kept : (m : CoreValue) (b k p seat call : ℕ) (s : Moved) (i : ℕ) → IsKept m b k p → (x : MovesOn m seat call (Finishes s)) → PlacedOn m seat (Some i)
    → (st : Places) (old new : Option Running) → ((r : Running) → old ≡ Some r → graph_of st ≡ graph_after (graph_of m.store) r.op) → (seen st).limit ≡ (seen m.store).limit → (seen st).in_blocks ≡ (seen m.store).in_blocks → old ≡ get_or m.seats seat old → Goes (λ a c. IsFinished (graph_of m.store) a c) old new
    → Step (state_of m) seat CarriedOut (state_of (record m { store = st; seats = slice_set m.seats seat new })) × IsKept (record m { store = st; seats = slice_set m.seats seat new }) b k p
carried_kept m b k p seat call s i kept x is_placed st old new graph limit blocks read goes =
    let g : (w : OpValue) × IsFinished (graph_of m.store) x.running.op w × (w.limits ≡ x.running.op.limits) × (new ≡ Some (record x.running { op = w })) = goes_on (λ a c. IsFinished (graph_of m.store) a c) m seat call (Finishes s) old new x read goes in
    carried_step m b k p seat x.running s i kept x.on x.next (is_placed x.running x.on) st g.0 new (graph x.running (read_on m seat call (Finishes s) old x read)) limit blocks g.1 g.2 g.3

-- a commit's number fits, where the number of begins does
pub finish_fits : (m : CoreValue) (b k p seat call : ℕ) (s : Moved) → IsKept m b k p → (x : MovesOn m seat call (Finishes s)) → PlacedOn m seat None → k + 1 ≤ b
finish_fits m b k p seat call s kept x unplaced = commit_fits m b k p seat x.running kept x.on (unplaced x.running x.on) (unfinished_at (graph_of m.store) x.running.op s x.next)

-- what a helped call's place holds
pub helped_kept : (m : CoreValue) (b k p seat call : ℕ) (s : Moved) → IsKept m b k p → (x : MovesOn m seat call (Finishes s)) → PlacedOn m seat None → (other : ℕ) → Helps m s other
    → (d : ℕ) (old new : Option Running) → old ≡ get_or m.seats other old → number_of old ≡ Some d → new ≡ placed old k
    → Step (state_of m) seat (Helped d) (state_of (record m { seats = slice_set m.seats other new; timeline = m.timeline ++ Commit d ∷ [] })) × IsKept (record m { seats = slice_set m.seats other new; timeline = m.timeline ++ Commit d ∷ [] }) b (k + 1) (p - 1)
helped_kept m b k p seat call s kept x unplaced other h d old new read is_d is_new =
    let w : other < length m.seats = slice_get_within m.seats other (Some h.running) h.on in
    let z : ◌≡◌ {A = Option (Option Running)} (Some old) (Some (Some h.running)) = sym (slice_get_read m.seats _ other old refl w read) ∙ h.on in
    let y : old ≡ Some h.running = cc in
    let v : ◌≡◌ {A = Option ℕ} (Some h.running.call) (Some d) = sym (ap number_of y) ∙ is_d in
    let u : h.running.call ≡ d = cc in
    subst (λ (c : ℕ). Step (state_of m) seat (Helped c) (state_of (record m { seats = slice_set m.seats other new; timeline = m.timeline ++ Commit c ∷ [] })) × IsKept (record m { seats = slice_set m.seats other new; timeline = m.timeline ++ Commit c ∷ [] }) b (k + 1) (p - 1)) u
    (helped_step m b k p seat x.running s kept x.on x.next (unplaced x.running x.on) other h.running h.on h.unplaced h.unanswered h.chosen new (is_new ∙ ap (λ (o : Option Running). placed o k) y))

pub help_fits : (m : CoreValue) (b k p : ℕ) (s : Moved) (other : ℕ) → IsKept m b k p → Helps m s other → k + 1 ≤ b
help_fits m b k p s other kept h = commit_fits m b k p other h.running kept h.on h.unplaced h.unanswered

pub help_place : (m : CoreValue) (b k p : ℕ) (s : Moved) (other : ℕ) → IsKept m b k p → Helps m s other → 0 < p
help_place m b k p s other kept h = push_place m b k p other h.running kept h.on

pub help_within : (m : CoreValue) (s : Moved) (other : ℕ) → Helps m s other → other < length m.seats
help_within m s other h = slice_get_within m.seats other (Some h.running) h.on

-- a return
pub end_some : (m : CoreValue) (seat call : ℕ) (move : Move) (old : Option Running) → (x : MovesOn m seat call move) → old ≡ get_or m.seats seat old → IsSome old
end_some m seat call move old x read = by old x.running (read_on m seat call move old x read)
  where
    by : (o : Option Running) (r : Running) → o ≡ Some r → IsSome o
    by None r e = cc
    by (Some q) r e = refl

pub end_is : (m : CoreValue) (seat call : ℕ) (move : Move) (old : Option Running) (r : Running) → (x : MovesOn m seat call move) → old ≡ get_or m.seats seat old → old ≡ Some r → r ≡ x.running
end_is m seat call move old r x read is = let z : ◌≡◌ {A = Option Running} (Some r) (Some x.running) = sym is ∙ read_on m seat call move old x read in cc

pub end_fixed : (m : CoreValue) (seat call : ℕ) (old : Option Running) (r : Running) → (x : MovesOn m seat call Ends) → old ≡ get_or m.seats seat old → old ≡ Some r → IsSome r.op.reply
end_fixed m seat call old r x read is =
    let f : (q : Reply) × (x.running.op.reply ≡ Some q) = finished_at (graph_of m.store) x.running.op x.next in
    by r.op.reply f.0 (ap (λ (q : Running). q.op.reply) (end_is m seat call Ends old r x read is) ∙ f.1)
  where
    by : (o : Option Reply) (q : Reply) → o ≡ Some q → IsSome o
    by None q e = cc
    by (Some p) q e = refl

pub end_spare : (m : CoreValue) (b k p seat call : ℕ) (old : Option Running) (r : Running) → IsKept m b k p → (x : MovesOn m seat call Ends) → old ≡ get_or m.seats seat old → old ≡ Some r → SpareIf (graph_of m.store) r.op.reserved
end_spare m b k p seat call old r kept x read is =
    subst (λ (q : Running). SpareIf (graph_of m.store) q.op.reserved) (sym (end_is m seat call Ends old r x read is))
    (spare_reserved (state_of m) call (record_of seat x.running.place x.running.op) kept.run (on_state m b k p seat call Ends kept x))

pub returned_kept : (m : CoreValue) (b k p seat call : ℕ) → IsKept m b k p → (x : MovesOn m seat call Ends) → (st : Places) (old new : Option Running) (r : Running) (one two : Reply)
    → old ≡ get_or m.seats seat old → old ≡ Some r → new ≡ None → graph_of st ≡ unreserved r.op.reserved (graph_of m.store) → (seen st).limit ≡ (seen m.store).limit → (seen st).in_blocks ≡ (seen m.store).in_blocks → r.op.reply ≡ Some one → r.op.reply ≡ Some two
    → Step (state_of m) seat (Returned two) (state_of (record m { store = st; seats = slice_set m.seats seat new; timeline = m.timeline ++ Return call one ∷ [] })) × IsKept (record m { store = st; seats = slice_set m.seats seat new; timeline = m.timeline ++ Return call one ∷ [] }) b k (p - 1)
returned_kept m b k p seat call kept x st old new r one two read is is_new graph limit blocks f g =
    let z : ◌≡◌ {A = Option Reply} (Some two) (Some one) = sym g ∙ f in
    let y : two ≡ one = cc in
    let e : r ≡ x.running = end_is m seat call Ends old r x read is in
    let on : slice_get m.seats seat ≡ Some (Some r) = x.on ∙ ap (λ (q : Running). Some (Some q)) (sym e) in
    let ends : next_of (graph_of m.store) r.op ≡ Ends = ap (λ (q : Running). next_of (graph_of m.store) q.op) e ∙ x.next in
    let n : r.call ≡ call = ap (λ (q : Running). q.call) e ∙ x.number in
    subst (λ (c : ℕ). Step (state_of m) seat (Returned two) (state_of (record m { store = st; seats = slice_set m.seats seat new; timeline = m.timeline ++ Return c one ∷ [] })) × IsKept (record m { store = st; seats = slice_set m.seats seat new; timeline = m.timeline ++ Return c one ∷ [] }) b k (p - 1)) n
    (subst (λ (q : Reply). Step (state_of m) seat (Returned two) (state_of (record m { store = st; seats = slice_set m.seats seat new; timeline = m.timeline ++ Return r.call q ∷ [] })) × IsKept (record m { store = st; seats = slice_set m.seats seat new; timeline = m.timeline ++ Return r.call q ∷ [] }) b k (p - 1)) y
    (returned_step m b k p seat r two kept on ends g st new graph limit blocks is_new))

pub help_some : (m : CoreValue) (moved : Moved) (other : ℕ) (old : Option Running) → Helps m moved other → old ≡ get_or m.seats other old → IsSome old
help_some m moved other old h read =
    let w : other < length m.seats = help_within m moved other h in
    let z : ◌≡◌ {A = Option (Option Running)} (Some old) (Some (Some h.running)) = sym (slice_get_read m.seats _ other old refl w read) ∙ h.on in
    let y : old ≡ Some h.running = cc in
    by old h.running y
  where
    by : (o : Option Running) (r : Running) → o ≡ Some r → IsSome o
    by None r e = cc
    by (Some q) r e = refl

-- the call on a seat, by what was read there
pub moves_at : (m : CoreValue) (seat : ℕ) (slot : Option Running) (r : Running) (move : Move) → seat < length m.seats → slot ≡ get_or m.seats seat slot → slot ≡ Some r → next_of (graph_of m.store) r.op ≡ move → MovesOn m seat r.call move
moves_at m seat slot r move within read is e = record { running = r; on = slice_get_read m.seats _ seat slot refl within read ∙ ap (λ (o : Option Running). Some o) is; number = refl; next = e }

pub placed_at : (m : CoreValue) (seat : ℕ) (slot : Option Running) (r : Running) (place : Option ℕ) → seat < length m.seats → slot ≡ get_or m.seats seat slot → slot ≡ Some r → r.place ≡ place → PlacedOn m seat place
placed_at m seat slot r place within read is e q on =
    let z : ◌≡◌ {A = Option (Option Running)} (Some (Some q)) (Some (Some r)) = sym on ∙ slice_get_read m.seats _ seat slot refl within read ∙ ap (λ (o : Option Running). Some o) is in
    let y : q ≡ r = cc in ap (λ (x : Running). x.place) y ∙ e

pub plans_at : (m : CoreValue) (b k p seat : ℕ) (slot : Option Running) (r : Running) (next : Next) → IsKept m b k p → seat < length m.seats → slot ≡ get_or m.seats seat slot → slot ≡ Some r
    → IfFinish next (λ plan. HasSetOut (graph_of m.store) r.op → plan ≡ plan_of (graph_of m.store) r.op) → IfFinish next (λ plan. Changes plan (IsReal (seen m.store))) → IfFinish next (PlansOn m seat)
plans_at m b k p seat slot r (Next.Take n) kept within read is plan found = tt
plans_at m b k p seat slot r (Next.LetGo n) kept within read is plan found = tt
plans_at m b k p seat slot r Next.Return kept within read is plan found = tt
plans_at m b k p seat slot r (Next.Finish plan) kept within read is h found = λ q on.
    (let here : slice_get m.seats seat ≡ Some (Some r) = slice_get_read m.seats _ seat slot refl within read ∙ ap (λ (o : Option Running). Some o) is in
    let z : ◌≡◌ {A = Option (Option Running)} (Some (Some r)) (Some (Some q)) = sym here ∙ on in
    let y : r ≡ q = cc in
    subst (λ (x : Running). IsPlan (seen m.store) x.op plan) y (record { is = h (λ st e. sets_out (state_of m) r.call (record_of seat r.place r.op) st kept.run (call_on m seat r kept.run here) e); real = found }))

pub idle_step : (m : CoreValue) (seat : ℕ) (slot : Option Running) → seat < length m.seats → slot ≡ get_or m.seats seat slot → slot ≡ None → Step (state_of m) seat Idle (state_of m)
idle_step m seat slot within read is = (number_read m.seats seat slot (slice_get_read m.seats _ seat slot refl within read) ∙ ap number_of is, refl)

-- a number that is no greater than one that fits
pub fits_below : (b n : ℕ) → n ≤ b → b < 18446744073709551616 → Fits w64 n
fits_below b n less fits = omega (arith, less, fits)
