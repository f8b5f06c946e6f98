use Rattle.std.proofs.Common.{ℕ, List, subst, ◌≡◌, ◌+◌, ◌-◌, [], ◌∷◌, Err, length, map, refl, sym, ap, ◌∙◌, rules, arith}
use Rattle.fs_sched.specs.Runs.{Event, IsOver, Stops}
use Rattle.fs_sched.specs.Schedules.{drawn_seats, generator_of, one_event, seats_from}
use Rattle.fs_sched.specs.code.Ahead.{upcoming}
use Rattle.fs_sched.specs.code.Stages.{stage_of}
use Rattle.fs_sched.specs.declared.schedule.TheConstants.{DRAW_LIMIT}
use Rattle.fs_verdict.specs.declared.fault.RunFault.TheVariants.{Full}
use Rattle.fs_sched.proofs.Drawn.{drawn_words}
use Rattle.fs_sched.proofs.DrawLemmas.{upcoming_more, upcoming_end}
use Rattle.fs_sched.proofs.Noting.{notes_start, notes_more, notes_kept, notes_end, cut_over, cut_whole}
use Rattle.fs_sched.proofs.OverLemmas.{event_over}
use Rattle.fs_sched.proofs.Staging.{over_stays}
use Rattle.fs_sched.proofs.Stopping.{stop_more, stop_here}
use Rattle.fs_sched.proofs.Telling.{event_noted, cut_noted}
use Rattle.fs_sched.proofs.play.Play.drawn.Goals as goal

pub returns-then-first-threads-clause-notes : goal.returns-then-first-threads-clause-notes
returns-then-first-threads-clause-notes g c =
    let over : IsOver c.args.lists.now (stage_of c.args.self.now) = λ seat less. c.first_left-first.ensures.over seat (omega (arith, c.requires.seated.begun)) in
    cut_over g.W.Witness.Told c.args.lists.now (stage_of c.args.self.now) (stage_of c.args.self.now) c.args.witness.now c.args.witness.now _ _
    (notes_start g.W.Witness.Told c.args.lists.now (stage_of c.args.self.now) c.args.witness.now (map one_event (drawn_seats c.args.seed (length c.args.lists.now) DRAW_LIMIT)) _ refl) over
    (drawn_words c.args.lists.now (drawn_seats c.args.seed (length c.args.lists.now) DRAW_LIMIT) _ _ (over_stays c.args.lists.now c.args.self.now c.requires.seated over _))

pub returns-then-first-threads-clause-events : goal.returns-then-first-threads-clause-events
returns-then-first-threads-clause-events g c = over_stays c.args.lists.now c.args.self.now c.requires.seated (λ seat less. c.first_left-first.ensures.over seat (omega (arith, c.requires.seated.begun))) _

pub first_after-first-requires-clause-over : goal.first_after-first-requires-clause-over
first_after-first-requires-clause-over g c k less = event_over c.args.lists.now (stage_of c.loop.self) (stage_of c.event.new.self) c.next_seat-seat.result k (event_noted g.W.Witness.Told c.args.lists.now (stage_of c.loop.self) (stage_of c.event.new.self) c.loop.witness c.event.new.witness c.next_seat-seat.result c.in_ok-event.ensures.notes) (c.loop.invariant.over k less)

pub returns-then-first-threads-2-clause-notes : goal.returns-then-first-threads-2-clause-notes
returns-then-first-threads-2-clause-notes g c =
    let over : IsOver c.args.lists.now (stage_of c.event.new.self) = λ seat less. c.first_after-first.ensures.over seat (omega (arith, c.requires.seated.begun)) in
    let next = upcoming_more c.loop.counter c.next_seat-seat.result c.loop.seats c.next_seat-seat.new.self c.loop-test.true c.next_seat-seat.ensures.seats in
    cut_over g.W.Witness.Told c.args.lists.now (stage_of c.args.self.now) (stage_of c.event.new.self) c.args.witness.now c.went_on.new.self _ _
    (notes_kept g.W.Witness.Told c.args.lists.now (stage_of c.args.self.now) (stage_of c.event.new.self) c.args.witness.now c.event.new.witness c.went_on.new.self _ _ c.went_on.ensures.told
    (notes_more g.W.Witness.Told c.args.lists.now (stage_of c.args.self.now) (stage_of c.loop.self) (stage_of c.event.new.self) c.args.witness.now c.loop.witness c.event.new.witness _ _ (map one_event (upcoming (DRAW_LIMIT - (c.loop.counter + 1)) c.next_seat-seat.new.self)) (one_event c.next_seat-seat.result ∷ [])
    (ap (map one_event) next) c.loop.invariant.notes c.in_ok-event.ensures.notes))
    over (drawn_words c.args.lists.now (upcoming (DRAW_LIMIT - (c.loop.counter + 1)) c.next_seat-seat.new.self) _ _ (over_stays c.args.lists.now c.event.new.self c.in_ok-event.ensures.seats.seated over _))

pub returns-then-first-threads-2-clause-events : goal.returns-then-first-threads-2-clause-events
returns-then-first-threads-2-clause-events g c = cut_noted g.W.Witness.Told c.args.lists.now (stage_of c.args.self.now) (stage_of c.event.new.self) c.args.witness.now c.went_on.new.self _ (returns-then-first-threads-2-clause-notes g c)

pub returns-in_err-event-clause-full : goal.returns-in_err-event-clause-full
returns-in_err-event-clause-full g c f =
    stop_here c.args.lists.now (stage_of c.args.self.now) (stage_of c.loop.self) _ _ _ c.next_seat-seat.result
    (upcoming_more c.loop.counter c.next_seat-seat.result c.loop.seats c.next_seat-seat.new.self c.loop-test.true c.next_seat-seat.ensures.seats)
    c.loop.invariant.stop (c.in_err-event.ensures.full (let k : c.in_err-event.field-0.0 ≡ Full = search rules in ap Err k))

pub loop-init : goal.loop-init
loop-init g c =
    let h : length c.args.self.now.begun.items ≡ length c.args.lists.now = c.requires.seated.begun in
    let t : c.len-threads.result ≡ length c.args.lists.now = omega (arith, h) in
    let z : DRAW_LIMIT - 0 ≡ DRAW_LIMIT = omega arith in
    let all : upcoming (DRAW_LIMIT - 0) c.new-seats.result ≡ drawn_seats c.args.seed (length c.args.lists.now) DRAW_LIMIT =
    ap (λ (k : ℕ). upcoming k c.new-seats.result) z ∙ c.new-seats.ensures.seats DRAW_LIMIT ∙ ap (λ (n : ℕ). seats_from n DRAW_LIMIT (generator_of c.args.seed)) t in
    record {
      threads = c.new-seats.ensures.threads ∙ t;
      over = c.first_left-first.ensures.over;
      marked = c.requires;
      stop = λ stops. subst (λ (seats : List ℕ). Stops c.args.lists.now (stage_of c.args.self.now) seats) all stops;
      notes = notes_start g.W.Witness.Told c.args.lists.now (stage_of c.args.self.now) c.args.witness.now _ _ (ap (map one_event) (sym all));
    }

pub loop-preserved : goal.loop-preserved
loop-preserved g c =
    let next = upcoming_more c.loop.counter c.next_seat-seat.result c.loop.seats c.next_seat-seat.new.self c.loop-test.true c.next_seat-seat.ensures.seats in
    let event : Event c.args.lists.now (stage_of c.loop.self) c.next_seat-seat.result (stage_of c.event.new.self) = event_noted g.W.Witness.Told c.args.lists.now (stage_of c.loop.self) (stage_of c.event.new.self) c.loop.witness c.event.new.witness c.next_seat-seat.result c.in_ok-event.ensures.notes in
    record {
      threads = c.next_seat-seat.ensures.threads ∙ c.loop.invariant.threads;
      over = c.first_after-first.ensures.over;
      marked = c.in_ok-event.ensures.seats;
      stop = stop_more c.args.lists.now (stage_of c.args.self.now) (stage_of c.loop.self) (stage_of c.event.new.self) _ _ _ c.next_seat-seat.result next c.loop.invariant.stop event;
      notes = notes_kept g.W.Witness.Told c.args.lists.now (stage_of c.args.self.now) (stage_of c.event.new.self) c.args.witness.now c.event.new.witness c.went_on.new.self _ _ c.went_on.ensures.told
          (notes_more g.W.Witness.Told c.args.lists.now (stage_of c.args.self.now) (stage_of c.loop.self) (stage_of c.event.new.self) c.args.witness.now c.loop.witness c.event.new.witness _ _ _ (one_event c.next_seat-seat.result ∷ [])
          (ap (map one_event) next) c.loop.invariant.notes c.in_ok-event.ensures.notes);
    }

pub returns-clause-notes : goal.returns-clause-notes
returns-clause-notes g c = cut_whole g.W.Witness.Told c.args.lists.now (stage_of c.args.self.now) (stage_of c.loop.self) c.args.witness.now c.loop.witness _ (notes_end g.W.Witness.Told c.args.lists.now (stage_of c.args.self.now) (stage_of c.loop.self) c.args.witness.now c.loop.witness _ _ (upcoming_end c.loop.counter c.loop.seats c.loop-test.false) c.loop.invariant.notes)

pub returns-clause-events : goal.returns-clause-events
returns-clause-events g c = cut_noted g.W.Witness.Told c.args.lists.now (stage_of c.args.self.now) (stage_of c.loop.self) c.args.witness.now c.loop.witness _ (returns-clause-notes g c)
