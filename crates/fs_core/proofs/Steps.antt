-- What each step of a core rests on, and what it leaves.
use Rattle.std.proofs.Common.{◌≡◌, ℕ, ◌+◌, ◌-◌, ◌<◌, Bool, true, false, cond, eqb, [], ◌∷◌, ◌++◌, Option, Some, None, length, refl, sym, ap, ◌∙◌, arith}
use Rattle.std.specs.Prelude.{slice_get, slice_set}
use Rattle.std.proofs.lemmas.Option.{slice_get_within}
use Rattle.fs_names.specs.declared.limits.Limits.{Limits}
use Rattle.fs_calls.specs.declared.reply.Reply.{Reply}
use Rattle.fs_names.specs.Shapes.{Shape}
use Rattle.fs_nodes.specs.Graphs.{Graph, set_at, released_in}
use Rattle.fs_nodes.specs.Stores.{Places}
use Rattle.fs_nodes.specs.Seen.{seen}
use Rattle.fs_nodes.specs.Stores.{graph_of}
use Rattle.fs_locks.specs.Holding as holders
use Rattle.fs_locks.specs.Holding.{Holding, holder}
use Rattle.fs_timeline.specs.declared.entry.Entry.TheVariants.{Commit, Return}
use Rattle.fs_machine.specs.Finishes.{finish}
use Rattle.fs_machine.specs.Leaving.{is_removed, releasing, unreserved}
use Rattle.fs_machine.specs.declared.moves.Move.TheVariants.{Take as Takes, LetGo as Leaves, Finish as Finishes, Return as Ends}
use Rattle.fs_machine.specs.Records.{Phase, Walking, Placed, Record}
use Rattle.fs_machine.specs.OpValues.{OpValue, phase_of, record_of, next_of, IsTook, IsLetGo, IsFinished, graph_after}
use Rattle.fs_timeline.specs.Timeline.{commit_count}
use Rattle.fs_machine.specs.States.{Step, IsChosen, NoneBelow, Run, Stepping}
use Rattle.fs_machine.specs.declared.answers.Stepped.TheVariants.{Took, LetGo, Helped, Committed, CarriedOut, Returned}
use Rattle.fs_machine.specs.declared.moves.Moved.{Moved}
use Rattle.fs_laws.specs.Invariants.{Invariant, limits_of}
use Rattle.fs_laws.proofs.states.Agreement.{run_accounts}
use Rattle.fs_laws.proofs.states.Headline.{run_keeps}
use Rattle.fs_laws.proofs.finish.Limits.{finish_resizes, own_limited}
use Rattle.fs_core_seats.specs.declared.seat.Running.{Running}
use Rattle.fs_core.specs.CoreValues.{CoreValue, state_of}
use Rattle.fs_core_seats.specs.Seats.{records}
use Rattle.fs_core_seats.specs.code.Owed.{is_walking, walking_at, owed_at}
use Rattle.fs_core.specs.code.Rooms.{IsKept}
use Rattle.fs_core_seats.proofs.SeatLemmas.{records_changed, records_ended, numbers_set, numbers_changed, owed_set, walking_set}
use Rattle.fs_core.proofs.Keeping.{keep_moved, keep_ended}
use Rattle.fs_core.proofs.WorkLemmas.{finish_is, unfinished_at}
use Rattle.fs_core.proofs.States.{same_state, apart_of, call_on, moves, took_reply, left_reply, finished_reply, begins_commit, begins_return, commits_more, commits_return}

-- a seat with a call is there
within_seats : (m : CoreValue) (seat : ℕ) (r : Running) → slice_get m.seats seat ≡ Some (Some r) → seat < length m.seats
within_seats m seat r on = slice_get_within m.seats seat (Some r) on

-- a call that goes on, walking or not as before
same_walking : (r : Running) (w : OpValue) → w.reply ≡ r.op.reply → is_walking (record r { op = w }) ≡ is_walking r
same_walking r w e = ap (λ (o : Option Reply). is_walking (record r { op = record w { reply = o } })) e

same_owed : (r : Running) (w : OpValue) (v : Option Running) → v ≡ Some (record r { op = w }) → w.reply ≡ r.op.reply → (owed_at v ≡ owed_at (Some r)) × (walking_at v ≡ walking_at (Some r))
same_owed r w v is e =
    (ap owed_at is ∙ ap (λ (b : Bool). cond b 2 1) (same_walking r w e), ap walking_at is ∙ ap (λ (b : Bool). cond b 1 0) (same_walking r w e))

-- a take
pub took_step : (m : CoreValue) (b k p seat : ℕ) (r : Running) (n : ℕ) → IsKept m b k p → slice_get m.seats seat ≡ Some (Some r) → next_of (graph_of m.store) r.op ≡ Takes n → holder m.holding n ≡ None
    → (hs : Holding) (w : OpValue) (v : Option Running) → holder hs ≡ set_at n (Some r.call) (holder m.holding) → holders.room hs ≡ holders.room m.holding → IsTook r.op n w → w.limits ≡ r.op.limits → v ≡ Some (record r { op = w })
    → Step (state_of m) seat (Took n) (state_of (record m { holding = hs; seats = slice_set m.seats seat v })) × IsKept (record m { holding = hs; seats = slice_set m.seats seat v }) b k p
took_step m b k p seat r n kept on move free hs w v is_hs room took_it by is = (
  step,
  record {
    run = Stepping seat (Took n) _ kept.run step;
    limited = kept.limited;
    form = kept.form;
    limits = keep_moved m.start.limits m.seats seat r (record r { op = w }) v kept.limits on is by;
    roomy = rw room kept.roomy;
    begun_is = kept.begun_is;
    few = kept.few;
    commits_is = kept.commits_is;
    within = omega (arith, walking_set m.seats seat (Some r) v on, same.1, kept.within);
    owed_is = omega (arith, owed_set m.seats seat (Some r) v on, same.0, kept.owed_is);
  },
)
  where
    same : (owed_at v ≡ owed_at (Some r)) × (walking_at v ≡ walking_at (Some r))
    same = same_owed r w v is (took_reply r.op w n took_it)

    step : Step (state_of m) seat (Took n) (state_of (record m { holding = hs; seats = slice_set m.seats seat v }))
    step = (
      r.call,
      record_of seat r.place r.op,
      moves m seat r (Takes n) kept.run on move,
      free,
      same_state _ _ _ _ _ _ _ _ _ _ _ _ refl refl is_hs
          (records_changed m.seats seat r (record r { op = w }) v on is refl (apart_of m kept.run) ∙ ap (λ (o : Record). set_at r.call (Some o) (records m.seats)) (took_it seat r.place))
          (numbers_changed m.seats seat r (record r { op = w }) v on (within_seats m seat r on) is refl),
    )

-- which numbers a change leaves in use
fewer_released : (graph : Graph) (n q : ℕ) (t : Shape) → (released_in n graph).shape q ≡ Some t → (u : Shape) × (graph.shape q ≡ Some u)
fewer_released graph n q t e = go (eqb q n) e
  where
    go : (b : Bool) → cond b None (graph.shape q) ≡ Some t → (u : Shape) × (graph.shape q ≡ Some u)
    go true f = cc
    go false f = (t, f)

fewer_left : (graph : Graph) (b : Bool) (n q : ℕ) (t : Shape) → (releasing b n graph).shape q ≡ Some t → (u : Shape) × (graph.shape q ≡ Some u)
fewer_left graph true n q t e = fewer_released graph n q t e
fewer_left graph false n q t e = (t, e)

fewer_unreserved : (graph : Graph) (o : Option ℕ) (q : ℕ) (t : Shape) → (unreserved o graph).shape q ≡ Some t → (u : Shape) × (graph.shape q ≡ Some u)
fewer_unreserved graph None q t e = (t, e)
fewer_unreserved graph (Some n) q t e = fewer_released graph n q t e

-- a let go
pub let_go_step : (m : CoreValue) (b k p seat : ℕ) (r : Running) (n : ℕ) → IsKept m b k p → slice_get m.seats seat ≡ Some (Some r) → next_of (graph_of m.store) r.op ≡ Leaves n
    → (st : Places) (hs : Holding) (w : OpValue) (v : Option Running) → graph_of st ≡ releasing (is_removed r.op.removed n) n (graph_of m.store) → (seen st).limit ≡ (seen m.store).limit → (seen st).in_blocks ≡ (seen m.store).in_blocks
    → holder hs ≡ set_at n None (holder m.holding) → holders.room hs ≡ holders.room m.holding → IsLetGo r.op n w → w.limits ≡ r.op.limits → v ≡ Some (record r { op = w })
    → Step (state_of m) seat (LetGo n) (state_of (record m { store = st; holding = hs; seats = slice_set m.seats seat v })) × IsKept (record m { store = st; holding = hs; seats = slice_set m.seats seat v }) b k p
let_go_step m b k p seat r n kept on move st hs w v graph limit blocks is_hs room left_it by is = (
  step,
  record {
    run = Stepping seat (LetGo n) _ kept.run step;
    limited = omega (arith, limit, kept.limited);
    form = blocks ∙ kept.form;
    limits = keep_moved m.start.limits m.seats seat r (record r { op = w }) v kept.limits on is by;
    roomy = λ q t e. rw room (let u : (u : Shape) × ((graph_of m.store).shape q ≡ Some u) = fewer_left (graph_of m.store) (is_removed r.op.removed n) n q t (ap (λ (g : Graph). g.shape q) (sym graph) ∙ e) in kept.roomy q u.0 u.1);
    begun_is = kept.begun_is;
    few = kept.few;
    commits_is = kept.commits_is;
    within = omega (arith, walking_set m.seats seat (Some r) v on, same.1, kept.within);
    owed_is = omega (arith, owed_set m.seats seat (Some r) v on, same.0, kept.owed_is);
  },
)
  where
    same : (owed_at v ≡ owed_at (Some r)) × (walking_at v ≡ walking_at (Some r))
    same = same_owed r w v is (left_reply r.op w n left_it)

    step : Step (state_of m) seat (LetGo n) (state_of (record m { store = st; holding = hs; seats = slice_set m.seats seat v }))
    step = (
      r.call,
      record_of seat r.place r.op,
      moves m seat r (Leaves n) kept.run on move,
      same_state _ _ _ _ _ _ _ _ _ _ _ _ limit graph is_hs
          (records_changed m.seats seat r (record r { op = w }) v on is refl (apart_of m kept.run) ∙ ap (λ (o : Record). set_at r.call (Some o) (records m.seats)) (left_it seat r.place))
          (numbers_changed m.seats seat r (record r { op = w }) v on (within_seats m seat r on) is refl),
    )

-- what is owed by a walking call, and by one that is not
pub walks_owed : (r : Running) → r.place ≡ None → r.op.reply ≡ None → (owed_at (Some r) ≡ 2) × (walking_at (Some r) ≡ 1)
walks_owed r e f = (
  ap (λ (o : Option ℕ). owed_at (Some (record r { place = o }))) e ∙ ap (λ (o : Option Reply). owed_at (Some (record r { place = None; op = record r.op { reply = o } }))) f,
  ap (λ (o : Option ℕ). walking_at (Some (record r { place = o }))) e ∙ ap (λ (o : Option Reply). walking_at (Some (record r { place = None; op = record r.op { reply = o } }))) f,
)

placed_owed : (r : Running) (i : ℕ) → r.place ≡ Some i → (owed_at (Some r) ≡ 1) × (walking_at (Some r) ≡ 0)
placed_owed r i e = (ap (λ (o : Option ℕ). owed_at (Some (record r { place = o }))) e, ap (λ (o : Option ℕ). walking_at (Some (record r { place = o }))) e)

replied_owed : (r : Running) (q : Reply) → r.op.reply ≡ Some q → (owed_at (Some r) ≡ 1) × (walking_at (Some r) ≡ 0)
replied_owed r q e = go r.place refl
  where
    go : (o : Option ℕ) → r.place ≡ o → (owed_at (Some r) ≡ 1) × (walking_at (Some r) ≡ 0)
    go (Some i) f = placed_owed r i f
    go None f = (
      ap (λ (o : Option ℕ). owed_at (Some (record r { place = o }))) f ∙ ap (λ (o : Option Reply). owed_at (Some (record r { place = None; op = record r.op { reply = o } }))) e,
      ap (λ (o : Option ℕ). walking_at (Some (record r { place = o }))) f ∙ ap (λ (o : Option Reply). walking_at (Some (record r { place = None; op = record r.op { reply = o } }))) e,
    )

-- its phase
pub walks_phase : (r : Running) → r.place ≡ None → r.op.reply ≡ None → phase_of r.place r.op.reply ≡ Walking
walks_phase r e f = ap (λ (o : Option ℕ). phase_of o r.op.reply) e ∙ ap (λ (o : Option Reply). phase_of None o) f

placed_phase : (i : ℕ) (o : Option Reply) → o ≡ None → phase_of (Some i) o ≡ Placed i
placed_phase i o f = ap (λ (o : Option Reply). phase_of (Some i) o) f

-- a call that is helped
pub helped_step : (m : CoreValue) (b k p seat : ℕ) (r : Running) (s : Moved) → IsKept m b k p → slice_get m.seats seat ≡ Some (Some r) → next_of (graph_of m.store) r.op ≡ Finishes s → r.place ≡ None
    → (other : ℕ) (q : Running) → slice_get m.seats other ≡ Some (Some q) → q.place ≡ None → q.op.reply ≡ None → IsChosen (state_of m) s q.call
    → (v : Option Running) → v ≡ Some (record q { place = Some k })
    → Step (state_of m) seat (Helped q.call) (state_of (record m { seats = slice_set m.seats other v; timeline = m.timeline ++ Commit q.call ∷ [] })) × IsKept (record m { seats = slice_set m.seats other v; timeline = m.timeline ++ Commit q.call ∷ [] }) b (k + 1) (p - 1)
helped_step m b k p seat r s kept on move unplaced other q on_other q_unplaced q_open chosen v is = (
  step,
  record {
    run = Stepping seat (Helped q.call) _ kept.run step;
    limited = kept.limited;
    form = kept.form;
    limits = keep_moved m.start.limits m.seats other q (record q { place = Some k }) v kept.limits on_other is refl;
    roomy = kept.roomy;
    begun_is = kept.begun_is ∙ sym (begins_commit m.timeline q.call);
    few = kept.few;
    commits_is = ap (λ (x : ℕ). x + 1) kept.commits_is ∙ sym (commits_more m.timeline q.call);
    within = omega (arith, walking_set m.seats other (Some q) v on_other, before.1, after.1, kept.within);
    owed_is = omega (arith, owed_set m.seats other (Some q) v on_other, before.0, after.0, kept.owed_is);
  },
)
  where
    before : (owed_at (Some q) ≡ 2) × (walking_at (Some q) ≡ 1)
    before = walks_owed q q_unplaced q_open

    after : (owed_at v ≡ 1) × (walking_at v ≡ 0)
    after = (ap owed_at is, ap walking_at is)

    op : Record
    op = record_of other q.place q.op

    is_op : record_of other (Some k) q.op ≡ record op { phase = Placed (commit_count m.timeline) }
    is_op = ap (λ (x : Phase). record op { phase = x }) (placed_phase k q.op.reply q_open ∙ ap (λ (x : ℕ). Placed x) kept.commits_is)

    step : Step (state_of m) seat (Helped q.call) (state_of (record m { seats = slice_set m.seats other v; timeline = m.timeline ++ Commit q.call ∷ [] }))
    step = (
      r.call,
      record_of seat r.place r.op,
      s,
      moves m seat r (Finishes s) kept.run on move,
      walks_phase r unplaced (unfinished_at (graph_of m.store) r.op s move),
      chosen,
      op,
      call_on m other q kept.run on_other,
      same_state _ _ _ _ _ _ _ _ _ _ _ _ refl refl refl
          (records_changed m.seats other q (record q { place = Some k }) v on_other is refl (apart_of m kept.run) ∙ ap (λ (o : Record). set_at q.call (Some o) (records m.seats)) is_op)
          (numbers_changed m.seats other q (record q { place = Some k }) v on_other (within_seats m other q on_other) is refl),
    )

-- the graph and the record after a finish
graph_made : (m : CoreValue) (seat : ℕ) (r : Running) (st : Places) → graph_of st ≡ graph_after (graph_of m.store) r.op → graph_of st ≡ (finish (graph_of m.store) (record_of seat r.place r.op)).graph
graph_made m seat r st e = e ∙ ap (λ (x : Rattle.fs_machine.specs.Finishes.Effect). x.graph) (sym (finish_is (graph_of m.store) seat r.place r.op))

fewer_made : (m : CoreValue) (seat : ℕ) (r : Running) → Run (state_of m) → slice_get m.seats seat ≡ Some (Some r) → (st : Places) → graph_of st ≡ graph_after (graph_of m.store) r.op → (q : ℕ) (t : Shape) → (graph_of st).shape q ≡ Some t → (u : Shape) × ((graph_of m.store).shape q ≡ Some u)
fewer_made m seat r run on st graph q t e =
    let inv : Invariant (state_of m) = run_keeps (state_of m) run in
    let limits : Limits = limits_of (state_of m) in
    let own = inv.own r.call (record_of seat r.place r.op) (call_on m seat r run on) in
    (finish_resizes limits (graph_of m.store) inv.is_graph (run_accounts (state_of m) run).within (record_of seat r.place r.op) (own_limited limits (graph_of m.store) (record_of seat r.place r.op) own) own.well).to_old q t
    (ap (λ (g : Graph). g.shape q) (sym (graph_made m seat r st graph)) ∙ e)

-- a walking call that finishes
pub committed_step : (m : CoreValue) (b k p seat : ℕ) (r : Running) (s : Moved) → IsKept m b k p → slice_get m.seats seat ≡ Some (Some r) → next_of (graph_of m.store) r.op ≡ Finishes s → r.place ≡ None → NoneBelow (state_of m) s
    → (st : Places) (w : OpValue) (v : Option Running) → graph_of st ≡ graph_after (graph_of m.store) r.op → (seen st).limit ≡ (seen m.store).limit → (seen st).in_blocks ≡ (seen m.store).in_blocks → IsFinished (graph_of m.store) r.op w → w.limits ≡ r.op.limits → v ≡ Some (record r { op = w })
    → Step (state_of m) seat Committed (state_of (record m { store = st; seats = slice_set m.seats seat v; timeline = m.timeline ++ Commit r.call ∷ [] })) × IsKept (record m { store = st; seats = slice_set m.seats seat v; timeline = m.timeline ++ Commit r.call ∷ [] }) b (k + 1) (p - 1)
committed_step m b k p seat r s kept on move unplaced none st w v graph limit blocks done by is = (
  step,
  record {
    run = Stepping seat Committed _ kept.run step;
    limited = omega (arith, limit, kept.limited);
    form = blocks ∙ kept.form;
    limits = keep_moved m.start.limits m.seats seat r (record r { op = w }) v kept.limits on is by;
    roomy = λ q t e. (let u : (u : Shape) × ((graph_of m.store).shape q ≡ Some u) = fewer_made m seat r kept.run on st graph q t e in kept.roomy q u.0 u.1);
    begun_is = kept.begun_is ∙ sym (begins_commit m.timeline r.call);
    few = kept.few;
    commits_is = ap (λ (x : ℕ). x + 1) kept.commits_is ∙ sym (commits_more m.timeline r.call);
    within = omega (arith, walking_set m.seats seat (Some r) v on, before.1, after.1, kept.within);
    owed_is = omega (arith, owed_set m.seats seat (Some r) v on, before.0, after.0, kept.owed_is);
  },
)
  where
    before : (owed_at (Some r) ≡ 2) × (walking_at (Some r) ≡ 1)
    before = walks_owed r unplaced (unfinished_at (graph_of m.store) r.op s move)

    after : (owed_at v ≡ 1) × (walking_at v ≡ 0)
    after = let f : (q : Reply) × (w.reply ≡ Some q) = finished_reply (graph_of m.store) r.op w done in let g : (owed_at (Some (record r { op = w })) ≡ 1) × (walking_at (Some (record r { op = w })) ≡ 0) = replied_owed (record r { op = w }) f.0 f.1 in (ap owed_at is ∙ g.0, ap walking_at is ∙ g.1)

    step : Step (state_of m) seat Committed (state_of (record m { store = st; seats = slice_set m.seats seat v; timeline = m.timeline ++ Commit r.call ∷ [] }))
    step = (
      r.call,
      record_of seat r.place r.op,
      s,
      moves m seat r (Finishes s) kept.run on move,
      walks_phase r unplaced (unfinished_at (graph_of m.store) r.op s move),
      none,
      same_state _ _ _ _ _ _ _ _ _ _ _ _ limit (graph_made m seat r st graph) refl
          (records_changed m.seats seat r (record r { op = w }) v on is refl (apart_of m kept.run) ∙ ap (λ (o : Record). set_at r.call (Some o) (records m.seats)) (done seat r.place))
          (numbers_changed m.seats seat r (record r { op = w }) v on (within_seats m seat r on) is refl),
    )

-- a placed call that finishes
pub carried_step : (m : CoreValue) (b k p seat : ℕ) (r : Running) (s : Moved) (i : ℕ) → IsKept m b k p → slice_get m.seats seat ≡ Some (Some r) → next_of (graph_of m.store) r.op ≡ Finishes s → r.place ≡ Some i
    → (st : Places) (w : OpValue) (v : Option Running) → graph_of st ≡ graph_after (graph_of m.store) r.op → (seen st).limit ≡ (seen m.store).limit → (seen st).in_blocks ≡ (seen m.store).in_blocks → IsFinished (graph_of m.store) r.op w → w.limits ≡ r.op.limits → v ≡ Some (record r { op = w })
    → Step (state_of m) seat CarriedOut (state_of (record m { store = st; seats = slice_set m.seats seat v })) × IsKept (record m { store = st; seats = slice_set m.seats seat v }) b k p
carried_step m b k p seat r s i kept on move is_placed st w v graph limit blocks done by is = (
  step,
  record {
    run = Stepping seat CarriedOut _ kept.run step;
    limited = omega (arith, limit, kept.limited);
    form = blocks ∙ kept.form;
    limits = keep_moved m.start.limits m.seats seat r (record r { op = w }) v kept.limits on is by;
    roomy = λ q t e. (let u : (u : Shape) × ((graph_of m.store).shape q ≡ Some u) = fewer_made m seat r kept.run on st graph q t e in kept.roomy q u.0 u.1);
    begun_is = kept.begun_is;
    few = kept.few;
    commits_is = kept.commits_is;
    within = omega (arith, walking_set m.seats seat (Some r) v on, before.1, after.1, kept.within);
    owed_is = omega (arith, owed_set m.seats seat (Some r) v on, before.0, after.0, kept.owed_is);
  },
)
  where
    before : (owed_at (Some r) ≡ 1) × (walking_at (Some r) ≡ 0)
    before = placed_owed r i is_placed

    after : (owed_at v ≡ 1) × (walking_at v ≡ 0)
    after = let g : (owed_at (Some (record r { op = w })) ≡ 1) × (walking_at (Some (record r { op = w })) ≡ 0) = placed_owed (record r { op = w }) i is_placed in (ap owed_at is ∙ g.0, ap walking_at is ∙ g.1)

    step : Step (state_of m) seat CarriedOut (state_of (record m { store = st; seats = slice_set m.seats seat v }))
    step = (
      r.call,
      record_of seat r.place r.op,
      s,
      i,
      moves m seat r (Finishes s) kept.run on move,
      ap (λ (o : Option ℕ). phase_of o r.op.reply) is_placed ∙ placed_phase i r.op.reply (unfinished_at (graph_of m.store) r.op s move),
      same_state _ _ _ _ _ _ _ _ _ _ _ _ limit (graph_made m seat r st graph) refl
          (records_changed m.seats seat r (record r { op = w }) v on is refl (apart_of m kept.run) ∙ ap (λ (o : Record). set_at r.call (Some o) (records m.seats)) (done seat r.place))
          (numbers_changed m.seats seat r (record r { op = w }) v on (within_seats m seat r on) is refl),
    )

-- a return
pub returned_step : (m : CoreValue) (b k p seat : ℕ) (r : Running) (reply : Reply) → IsKept m b k p → slice_get m.seats seat ≡ Some (Some r) → next_of (graph_of m.store) r.op ≡ Ends → r.op.reply ≡ Some reply
    → (st : Places) (v : Option Running) → graph_of st ≡ unreserved r.op.reserved (graph_of m.store) → (seen st).limit ≡ (seen m.store).limit → (seen st).in_blocks ≡ (seen m.store).in_blocks → v ≡ None
    → Step (state_of m) seat (Returned reply) (state_of (record m { store = st; seats = slice_set m.seats seat v; timeline = m.timeline ++ Return r.call reply ∷ [] })) × IsKept (record m { store = st; seats = slice_set m.seats seat v; timeline = m.timeline ++ Return r.call reply ∷ [] }) b k (p - 1)
returned_step m b k p seat r reply kept on move replied st v graph limit blocks is = (
  step,
  record {
    run = Stepping seat (Returned reply) _ kept.run step;
    limited = omega (arith, limit, kept.limited);
    form = blocks ∙ kept.form;
    limits = keep_ended m.start.limits m.seats seat r v kept.limits on is;
    roomy = λ q t e. (let u : (u : Shape) × ((graph_of m.store).shape q ≡ Some u) = fewer_unreserved (graph_of m.store) r.op.reserved q t (ap (λ (g : Graph). g.shape q) (sym graph) ∙ e) in kept.roomy q u.0 u.1);
    begun_is = kept.begun_is ∙ sym (begins_return m.timeline r.call reply);
    few = kept.few;
    commits_is = kept.commits_is ∙ sym (commits_return m.timeline r.call reply);
    within = omega (arith, walking_set m.seats seat (Some r) v on, before.1, after.1, kept.within);
    owed_is = omega (arith, owed_set m.seats seat (Some r) v on, before.0, after.0, kept.owed_is);
  },
)
  where
    before : (owed_at (Some r) ≡ 1) × (walking_at (Some r) ≡ 0)
    before = replied_owed r reply replied

    after : (owed_at v ≡ 0) × (walking_at v ≡ 0)
    after = (ap owed_at is, ap walking_at is)

    step : Step (state_of m) seat (Returned reply) (state_of (record m { store = st; seats = slice_set m.seats seat v; timeline = m.timeline ++ Return r.call reply ∷ [] }))
    step = (
      r.call,
      record_of seat r.place r.op,
      moves m seat r Ends kept.run on move,
      ap (λ (o : Option Reply). phase_of r.place o) replied,
      same_state _ _ _ _ _ _ _ _ _ _ _ _ limit graph refl
          (records_ended m.seats seat r v on is (apart_of m kept.run))
          (numbers_set m.seats seat v None (within_seats m seat r on) is),
    )
