use Rattle.std.proofs.Common.{◌≡◌, Err, true, refl, ap, rules}
use Rattle.fs_sched.specs.Runs.{Stage, has_more, IsOver, Event, Round, InRound}
use Rattle.fs_sched.specs.code.Notes.{NotesToEnd}
use Rattle.fs_sched.specs.code.Stages.{stage_of}
use Rattle.fs_sched.proofs.Alone.{last_round, last_stops, last_unfinished, last_over, refused_more}
use Rattle.fs_sched.proofs.Noting.{rounds_start, rounds_more, rounds_kept, rounds_end, notes_alone, happens_busy, happens_not}
use Rattle.fs_sched.proofs.OverLemmas.{event_over}
use Rattle.fs_sched_witness.specs.declared.moments.Answer.TheVariants.{Spent}
use Rattle.fs_sched.proofs.Asking.{of_both}
use Rattle.fs_sched.proofs.Rounds.{round_smaller}
use Rattle.fs_sched.proofs.Staging.{seats_there}
use Rattle.fs_sched.proofs.Stopping.{stop_round}
use Rattle.fs_sched.proofs.Telling.{event_told, busy_more, spent_none}
use Rattle.fs_verdict.specs.declared.fault.RunFault.TheVariants.{Full}
use Rattle.fs_sched.proofs.play.Play.last_alone.Goals as goal

pub rounds-init : goal.rounds-init
rounds-init g c = record {
  over = c.requires.over;
  seats = c.requires.seats;
  stop = λ stops. stops;
  notes = rounds_start g.W.Witness.Told c.args.lists.now (stage_of c.args.self.now) c.args.witness.now;
}

pub rounds-smaller : goal.rounds-smaller
rounds-smaller g c =
    let (answer, other, is) = happens_busy g.W.Witness.Told c.args.lists.now (stage_of c.rounds.self) (stage_of c.happen.new.self) c.rounds.witness c.happen.new.witness c.args.last c.args.last c.in_ok-happen.field-0 c.if-not-branch.false c.in_ok-happen.ensures.event in
    let more : has_more c.args.lists.now (stage_of c.rounds.self) c.args.last ≡ true = busy_more c.args.lists.now (stage_of c.rounds.self) (stage_of c.happen.new.self) c.args.last answer is other in
    let left = last_unfinished c.args.lists.now (stage_of c.rounds.self) c.args.last c.requires.last more in
    let event : Event c.args.lists.now (stage_of c.rounds.self) c.args.last (stage_of c.happen.new.self) = event_told c.args.lists.now (stage_of c.rounds.self) (stage_of c.happen.new.self) c.args.last answer is in
    let round : Round c.args.lists.now (stage_of c.rounds.self) (stage_of c.happen.new.self) = last_round c.args.lists.now (stage_of c.rounds.self) (stage_of c.happen.new.self) c.args.last c.requires.last c.rounds.invariant.over event in
    round_smaller c.args.lists.now (stage_of c.rounds.self) (stage_of c.happen.new.self) c.told.ensures.run c.rounds.invariant.seats.seated.begun (seats_there c.args.lists.now c.rounds.self c.rounds.invariant.seats.seated) left round

pub rounds-preserved : goal.rounds-preserved
rounds-preserved g c =
    let (answer, other, is) = happens_busy g.W.Witness.Told c.args.lists.now (stage_of c.rounds.self) (stage_of c.happen.new.self) c.rounds.witness c.happen.new.witness c.args.last c.args.last c.in_ok-happen.field-0 c.if-not-branch.false c.in_ok-happen.ensures.event in
    let more : has_more c.args.lists.now (stage_of c.rounds.self) c.args.last ≡ true = busy_more c.args.lists.now (stage_of c.rounds.self) (stage_of c.happen.new.self) c.args.last answer is other in
    let left = last_unfinished c.args.lists.now (stage_of c.rounds.self) c.args.last c.requires.last more in
    let event : Event c.args.lists.now (stage_of c.rounds.self) c.args.last (stage_of c.happen.new.self) = event_told c.args.lists.now (stage_of c.rounds.self) (stage_of c.happen.new.self) c.args.last answer is in
    let round : Round c.args.lists.now (stage_of c.rounds.self) (stage_of c.happen.new.self) = last_round c.args.lists.now (stage_of c.rounds.self) (stage_of c.happen.new.self) c.args.last c.requires.last c.rounds.invariant.over event in
    record {
      over = λ k less. event_over c.args.lists.now (stage_of c.rounds.self) (stage_of c.happen.new.self) c.args.last k event (c.rounds.invariant.over k less);
      seats = c.in_ok-happen.ensures.seats;
      stop = stop_round c.args.lists.now (stage_of c.args.self.now) (stage_of c.rounds.self) (stage_of c.happen.new.self) c.rounds.invariant.stop left round;
      notes = rounds_kept g.W.Witness.Told c.args.lists.now (stage_of c.args.self.now) (stage_of c.happen.new.self) c.args.witness.now c.happen.new.witness c.went_on.new.self c.went_on.ensures.told
          (rounds_more g.W.Witness.Told c.args.lists.now (stage_of c.args.self.now) (stage_of c.rounds.self) (stage_of c.happen.new.self) c.args.witness.now c.rounds.witness c.happen.new.witness c.rounds.invariant.notes left
          (notes_alone g.W.Witness.Told c.args.lists.now (stage_of c.rounds.self) (stage_of c.happen.new.self) c.rounds.witness c.happen.new.witness c.args.last c.in_ok-happen.field-0 c.if-not-branch.false c.requires.last c.rounds.invariant.over c.in_ok-happen.ensures.event));
    }

pub returns-then-not-branch-clause-notes : goal.returns-then-not-branch-clause-notes
returns-then-not-branch-clause-notes g c =
    let (event, kept) = happens_not g.W.Witness.Told c.args.lists.now (stage_of c.rounds.self) (stage_of c.happen.new.self) c.rounds.witness c.happen.new.witness c.args.last c.args.last c.in_ok-happen.field-0 c.if-not-branch.true c.in_ok-happen.ensures.event in
    let none = spent_none c.args.lists.now (stage_of c.rounds.self) (stage_of c.happen.new.self) c.args.last Spent event refl in
    let over : IsOver c.args.lists.now (stage_of c.rounds.self) = last_over c.args.lists.now (stage_of c.rounds.self) c.args.last c.requires.last c.rounds.invariant.over none.0 in
    of_both (λ (s : Stage) w. NotesToEnd g.W.Witness.Told c.args.lists.now (stage_of c.args.self.now) c.args.witness.now s w) (stage_of c.happen.new.self) (stage_of c.rounds.self) c.happen.new.witness c.rounds.witness none.1 kept
    (rounds_end g.W.Witness.Told c.args.lists.now (stage_of c.args.self.now) (stage_of c.rounds.self) c.args.witness.now c.rounds.witness c.rounds.invariant.notes over)

pub returns-in_err-happen-clause-full : goal.returns-in_err-happen-clause-full
returns-in_err-happen-clause-full g c e =
    let refused = c.in_err-happen.ensures.full (let k : c.in_err-happen.field-0.0 ≡ Full = search rules in ap Err k) in
    c.rounds.invariant.stop
    (InRound (last_unfinished c.args.lists.now (stage_of c.rounds.self) c.args.last c.requires.last (refused_more c.args.lists.now (stage_of c.rounds.self) c.args.last refused))
    (last_stops c.args.lists.now (stage_of c.rounds.self) c.args.last c.requires.last c.rounds.invariant.over refused))
