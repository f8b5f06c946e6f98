use Rattle.std.proofs.Common.{ℕ, sym, subst, ◌≡◌, ◌<◌, ◌≤◌, ◌-◌, [], ◌∷◌, Err, length, replicate, ap, rules, arith}
use Rattle.std.proofs.lemmas.Result.{on_ok_weaker}
use Rattle.fs_verdict.specs.declared.fault.RunFault.TheVariants.{Full}
use Rattle.fs_sched.specs.Runs.{Stops}
use Rattle.fs_sched.specs.Schedules.{one_event}
use Rattle.fs_sched.specs.code.Stages.{stage_of}
use Rattle.fs_sched.proofs.Noting.{notes_start, notes_more, notes_end, notes_times, times_less, times_none}
use Rattle.fs_sched.proofs.Staging.{times_more}
use Rattle.fs_sched.proofs.Stopping.{stop_more, stop_here}
use Rattle.fs_sched.proofs.Telling.{event_noted, times_noted, past_spent}
use Rattle.fs_sched.proofs.play.Play.events.Goals as goal

pub returns-then-seat-len-clause-notes : goal.returns-then-seat-len-clause-notes
returns-then-seat-len-clause-notes g c =
    let h : length c.args.lists.now ≤ c.args.seat = omega arith in
    on_ok_weaker c.tell_spent.result (λ hears. notes_times g.W.Witness.Told c.args.lists.now (stage_of c.args.self.now) c.args.witness.now c.tell_spent.new.witness c.args.times c.args.seat (past_spent c.args.lists.now c.args.self.now c.args.seat c.requires.seated h) hears) c.tell_spent.ensures.told

pub returns-then-seat-len-clause-events : goal.returns-then-seat-len-clause-events
returns-then-seat-len-clause-events g c = on_ok_weaker c.tell_spent.result (λ notes. times_noted g.W.Witness.Told c.args.lists.now (stage_of c.args.self.now) (stage_of c.args.self.now) c.args.witness.now c.tell_spent.new.witness c.args.times c.args.seat notes) (returns-then-seat-len-clause-notes g c)

pub loop-init : goal.loop-init
loop-init g c =
    let e : c.args.times - 0 ≡ c.args.times = omega arith in
    record {
      seats = c.requires;
      stop = λ stops. subst (λ (n : ℕ). Stops c.args.lists.now (stage_of c.args.self.now) (replicate n c.args.seat)) e stops;
      notes = notes_start g.W.Witness.Told c.args.lists.now (stage_of c.args.self.now) c.args.witness.now (replicate c.args.times (one_event c.args.seat)) (replicate (c.args.times - 0) (one_event c.args.seat)) (ap (λ (n : ℕ). replicate n (one_event c.args.seat)) (sym e));
    }

pub loop-preserved : goal.loop-preserved
loop-preserved g c =
    let less : c.loop.counter < c.args.times = omega arith in
    record {
      seats = c.in_ok-event.ensures.seats;
      stop = stop_more c.args.lists.now (stage_of c.args.self.now) (stage_of c.loop.self) (stage_of c.event.new.self) _ _ _ c.args.seat (times_more c.args.times c.loop.counter c.args.seat less) c.loop.invariant.stop (event_noted g.W.Witness.Told c.args.lists.now (stage_of c.loop.self) (stage_of c.event.new.self) c.loop.witness c.event.new.witness c.args.seat c.in_ok-event.ensures.notes);
      notes = notes_more g.W.Witness.Told c.args.lists.now (stage_of c.args.self.now) (stage_of c.loop.self) (stage_of c.event.new.self) c.args.witness.now c.loop.witness c.event.new.witness _ _ _ (one_event c.args.seat ∷ []) (times_less c.args.times c.loop.counter (one_event c.args.seat) less) c.loop.invariant.notes c.in_ok-event.ensures.notes;
    }

pub returns-in_err-event-clause-full : goal.returns-in_err-event-clause-full
returns-in_err-event-clause-full g c e =
    let less : c.loop.counter < c.args.times = omega arith in
    stop_here c.args.lists.now (stage_of c.args.self.now) (stage_of c.loop.self) _ _ _ c.args.seat (times_more c.args.times c.loop.counter c.args.seat less) c.loop.invariant.stop (c.in_err-event.ensures.full (let k : c.in_err-event.field-0.0 ≡ Full = search rules in ap Err k))

pub returns-clause-notes : goal.returns-clause-notes
returns-clause-notes g c = notes_end g.W.Witness.Told c.args.lists.now (stage_of c.args.self.now) (stage_of c.loop.self) c.args.witness.now c.loop.witness _ _ (times_none c.args.times c.loop.counter (one_event c.args.seat) (omega arith)) c.loop.invariant.notes

pub returns-clause-events : goal.returns-clause-events
returns-clause-events g c = times_noted g.W.Witness.Told c.args.lists.now (stage_of c.args.self.now) (stage_of c.loop.self) c.args.witness.now c.loop.witness c.args.times c.args.seat (returns-clause-notes g c)
