use Rattle.std.specs.Vec.{with_item}
use Rattle.std.proofs.Common.{ℕ, ◌≡◌, true, ◌+◌, ◌<◌, length, get_or, slice_set, refl, ap, ◌∙◌, arith}
use Rattle.fs_sched.specs.code.Stages.{stage_of}
use Rattle.fs_sched_witness.specs.declared.moments.Answer.TheVariants.{Begun}
use Rattle.fs_sched.proofs.Marks.{still_marked, one_more}
use Rattle.fs_sched.proofs.OverLemmas.{none_left}
use Rattle.fs_sched.proofs.Staging.{call_there, call_not_there, default_same}
use Rattle.fs_sched.proofs.Telling.{event_told}
use Rattle.fs_sched.proofs.play.Play.start.Goals as goal

pub returns-clause-event : goal.returns-clause-event
returns-clause-event g c =
    let less : c.index-at.result.now < length c.of-calls.result.now = omega arith in
    let h : length c.args.self.now.begun.items ≡ length c.args.lists.now = c.requires.seats.seated.begun in
    let within : c.args.seat < length c.args.self.now.begun.items = omega (arith, h) in
    let at : c.index-at.result.now ≡ get_or c.args.self.now.begun.items c.args.seat 0 = c.index-at.ensures ∙ default_same c.args.self.now.begun.items c.args.seat _ 0 within in (
      Begun c.in_ok-number.number,
      λ e. cc,
      (
        c.index-calls-at.result,
        c.requires.free,
        call_there c.args.lists.now c.of-calls.result.now (stage_of c.args.self.now) c.args.seat c.index-at.result.now c.index-calls-at.result c.of-calls.ensures at less c.index-calls-at.is,
        c.in_ok-number.ensures.begins,
        c.in_ok-number.ensures.counted ∙ ap (λ (n : ℕ). slice_set c.args.self.now.begun.items c.args.seat (n + 1)) at,
      ),
      c.in_ok-tell_behind.ensures.told,
    )

pub returns-clause-seats : goal.returns-clause-seats
returns-clause-seats g c =
    let (answer, other, event, told) = returns-clause-event g c in
    still_marked c.args.lists.now c.args.self.now c.begin.new.self c.args.seat c.requires.seats (event_told c.args.lists.now (stage_of c.args.self.now) (stage_of c.begin.new.self) c.args.seat answer event) c.in_ok-number.ensures.seats c.in_ok-number.ensures.marks

pub returns-then-at-calls-clause-seats : goal.returns-then-at-calls-clause-seats
returns-then-at-calls-clause-seats g c =
    let h : length c.args.self.now.begun.items ≡ length c.args.lists.now = c.requires.seats.seated.begun in
    let within : c.args.seat < length c.args.self.now.begun.items = omega (arith, h) in
    let at : c.index-at.result.now ≡ get_or c.args.self.now.begun.items c.args.seat 0 = c.index-at.ensures ∙ default_same c.args.self.now.begun.items c.args.seat _ 0 within in
    let none = call_not_there c.args.lists.now c.of-calls.result.now (stage_of c.args.self.now) c.args.seat c.index-at.result.now c.of-calls.ensures at c.if-at-calls.true in
    one_more c.args.lists.now c.args.self.now (record c.args.self.now { over = with_item c.args.self.now.over c.args.seat true }) c.args.seat c.requires.seats
    (record { seats = c.requires.seats.seated.seats; begun = c.requires.seats.seated.begun }) refl refl (none_left c.args.lists.now (stage_of c.args.self.now) c.args.seat c.requires.free none)
