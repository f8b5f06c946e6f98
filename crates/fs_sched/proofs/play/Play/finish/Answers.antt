use Rattle.std.proofs.Common.{◌≡◌, Err, length, ap, rules, arith}
use Rattle.std.proofs.lemmas.Result.{on_ok_weaker}
use Rattle.fs_sched.specs.Runs.{InRound, IsOver, IsUnfinished, Round}
use Rattle.fs_sched.specs.code.Stages.{stage_of}
use Rattle.fs_sched.proofs.Noting.{rounds_start, rounds_more, rounds_kept, rounds_end, rounds_after}
use Rattle.fs_sched.proofs.OverLemmas.{events_over, there}
use Rattle.fs_sched.proofs.Rounds.{round_smaller}
use Rattle.fs_sched.proofs.Staging.{seats_there}
use Rattle.fs_sched.proofs.Stopping.{stop_round}
use Rattle.fs_sched.proofs.Telling.{events_noted, end_noted}
use Rattle.fs_verdict.specs.declared.fault.RunFault.TheVariants.{Full}
use Rattle.fs_sched.proofs.play.Play.finish.Goals as goal

pub rounds-init : goal.rounds-init
rounds-init g c = record {
  over = λ k less. absurd (omega (arith, less));
  seats = c.requires;
  stop = λ stops. stops;
  notes = rounds_start g.W.Witness.Told c.args.lists.now (stage_of c.args.self.now) c.args.witness.now;
}

pub rounds-smaller : goal.rounds-smaller
rounds-smaller g c = round_smaller c.args.lists.now (stage_of c.rounds.self) (stage_of c.round.new.self) c.told.ensures.run c.rounds.invariant.seats.seated.begun (seats_there c.args.lists.now c.rounds.self c.rounds.invariant.seats.seated) (there c.args.lists.now (stage_of c.rounds.self) c.first_left-first.result (length c.rounds.self.begun.items) c.rounds.invariant.seats.seated.begun (omega arith) c.first_left-first.ensures.left)
    (events_noted g.W.Witness.Told c.args.lists.now (stage_of c.rounds.self) (stage_of c.round.new.self) c.rounds.witness c.round.new.witness _ c.in_ok-round.ensures.notes)

pub rounds-preserved : goal.rounds-preserved
rounds-preserved g c =
    let left : IsUnfinished c.args.lists.now (stage_of c.rounds.self) = there c.args.lists.now (stage_of c.rounds.self) c.first_left-first.result (length c.rounds.self.begun.items) c.rounds.invariant.seats.seated.begun (omega arith) c.first_left-first.ensures.left in
    let round : Round c.args.lists.now (stage_of c.rounds.self) (stage_of c.round.new.self) = events_noted g.W.Witness.Told c.args.lists.now (stage_of c.rounds.self) (stage_of c.round.new.self) c.rounds.witness c.round.new.witness _ c.in_ok-round.ensures.notes in
    record {
      over = λ k less. events_over c.args.lists.now _ (stage_of c.rounds.self) (stage_of c.round.new.self) k round (c.first_left-first.ensures.over k less);
      seats = c.in_ok-round.ensures.seats;
      stop = stop_round c.args.lists.now (stage_of c.args.self.now) (stage_of c.rounds.self) (stage_of c.round.new.self) c.rounds.invariant.stop left round;
      notes = rounds_kept g.W.Witness.Told c.args.lists.now (stage_of c.args.self.now) (stage_of c.round.new.self) c.args.witness.now c.round.new.witness c.went_on.new.self c.went_on.ensures.told
          (rounds_more g.W.Witness.Told c.args.lists.now (stage_of c.args.self.now) (stage_of c.rounds.self) (stage_of c.round.new.self) c.args.witness.now c.rounds.witness c.round.new.witness c.rounds.invariant.notes left c.in_ok-round.ensures.notes);
    }

pub returns-then-first-len-clause-notes : goal.returns-then-first-len-clause-notes
returns-then-first-len-clause-notes g c =
    let over : IsOver c.args.lists.now (stage_of c.rounds.self) = λ seat less. c.first_left-first.ensures.over seat (omega arith) in
    rounds_end g.W.Witness.Told c.args.lists.now (stage_of c.args.self.now) (stage_of c.rounds.self) c.args.witness.now c.rounds.witness c.rounds.invariant.notes over

pub returns-then-first-len-clause-ended : goal.returns-then-first-len-clause-ended
returns-then-first-len-clause-ended g c = end_noted g.W.Witness.Told c.args.lists.now (stage_of c.args.self.now) (stage_of c.rounds.self) c.args.witness.now c.rounds.witness (returns-then-first-len-clause-notes g c)

pub returns-in_err-round-clause-full : goal.returns-in_err-round-clause-full
returns-in_err-round-clause-full g c e = c.rounds.invariant.stop (InRound (there c.args.lists.now (stage_of c.rounds.self) c.first_left-first.result (length c.rounds.self.begun.items) c.rounds.invariant.seats.seated.begun (omega arith) c.first_left-first.ensures.left) (c.in_err-round.ensures.full (let k : c.in_err-round.field-0.0 ≡ Full = search rules in ap Err k)))

pub last_alone-requires-clause-last : goal.last_alone-requires-clause-last
last_alone-requires-clause-last g c =
    let h : length c.rounds.self.begun.items ≡ length c.args.lists.now = c.rounds.invariant.seats.seated.begun in
    omega (arith, h)

pub returns-then-first-len-2-clause-notes : goal.returns-then-first-len-2-clause-notes
returns-then-first-len-2-clause-notes g c = on_ok_weaker c.last_alone.result (λ end. rounds_after g.W.Witness.Told c.args.lists.now (stage_of c.args.self.now) (stage_of c.rounds.self) (stage_of c.last_alone.new.self) c.args.witness.now c.rounds.witness c.last_alone.new.witness c.rounds.invariant.notes end) c.last_alone.ensures.notes

pub returns-then-first-len-2-clause-ended : goal.returns-then-first-len-2-clause-ended
returns-then-first-len-2-clause-ended g c = on_ok_weaker c.last_alone.result (λ notes. end_noted g.W.Witness.Told c.args.lists.now (stage_of c.args.self.now) (stage_of c.last_alone.new.self) c.args.witness.now c.last_alone.new.witness notes) (returns-then-first-len-2-clause-notes g c)
