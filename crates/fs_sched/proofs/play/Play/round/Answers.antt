use Rattle.std.proofs.Common.{◌≡◌, ◌<◌, [], ◌∷◌, Err, length, map, ap, rules, arith}
use Rattle.fs_sched.specs.Schedules.{one_event}
use Rattle.fs_sched.specs.code.Stages.{stage_of}
use Rattle.fs_sched.proofs.Noting.{notes_from, notes_more, notes_end}
use Rattle.fs_sched.proofs.OverLemmas.{stop_from}
use Rattle.fs_sched.proofs.Staging.{range_more, range_end}
use Rattle.fs_sched.proofs.Stopping.{stop_more, stop_here}
use Rattle.fs_sched.proofs.Telling.{event_noted}
use Rattle.fs_verdict.specs.declared.fault.RunFault.TheVariants.{Full}
use Rattle.fs_sched.proofs.play.Play.round.Goals as goal

pub loop-seat-init : goal.loop-seat-init
loop-seat-init g c = record {
  seats = c.requires.seats;
  stop = stop_from c.args.lists.now (stage_of c.args.self.now) c.args.first (length c.args.lists.now) c.requires.within c.requires.over;
  notes = notes_from g.W.Witness.Told c.args.lists.now (stage_of c.args.self.now) c.args.witness.now c.tell_over.new.witness c.args.first (length c.args.lists.now) c.requires.within c.requires.over c.in_ok-tell_over.ensures.told;
}

pub loop-seat-preserved : goal.loop-seat-preserved
loop-seat-preserved g c =
    let less : c.loop-seat.seat < length c.args.lists.now = omega arith in
    record {
      seats = c.in_ok-event.ensures.seats;
      stop = stop_more c.args.lists.now (stage_of c.args.self.now) (stage_of c.loop-seat.self) (stage_of c.event.new.self) _ _ _ c.loop-seat.seat (range_more (length c.args.lists.now) c.loop-seat.seat less) c.loop-seat.invariant.stop (event_noted g.W.Witness.Told c.args.lists.now (stage_of c.loop-seat.self) (stage_of c.event.new.self) c.loop-seat.witness c.event.new.witness c.loop-seat.seat c.in_ok-event.ensures.notes);
      notes = notes_more g.W.Witness.Told c.args.lists.now (stage_of c.args.self.now) (stage_of c.loop-seat.self) (stage_of c.event.new.self) c.args.witness.now c.loop-seat.witness c.event.new.witness _ _ _ (one_event c.loop-seat.seat ∷ []) (ap (map one_event) (range_more (length c.args.lists.now) c.loop-seat.seat less)) c.loop-seat.invariant.notes c.in_ok-event.ensures.notes;
    }

pub returns-in_err-event-clause-full : goal.returns-in_err-event-clause-full
returns-in_err-event-clause-full g c e =
    let less : c.loop-seat.seat < length c.args.lists.now = omega arith in
    stop_here c.args.lists.now (stage_of c.args.self.now) (stage_of c.loop-seat.self) _ _ _ c.loop-seat.seat (range_more (length c.args.lists.now) c.loop-seat.seat less) c.loop-seat.invariant.stop (c.in_err-event.ensures.full (let k : c.in_err-event.field-0.0 ≡ Full = search rules in ap Err k))

pub returns-clause-notes : goal.returns-clause-notes
returns-clause-notes g c = notes_end g.W.Witness.Told c.args.lists.now (stage_of c.args.self.now) (stage_of c.loop-seat.self) c.args.witness.now c.loop-seat.witness _ _ (ap (map one_event) (range_end (length c.args.lists.now) c.loop-seat.seat (omega arith))) c.loop-seat.invariant.notes
