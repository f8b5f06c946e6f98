use Rattle.std.proofs.Common.{refl, ap, ◌∙◌, subst}
use Rattle.std.specs.Prelude.{IfOk}
use Rattle.fs_core.specs.CoreValues.{state_of}
use Rattle.fs_machine.specs.States.{State}
use Rattle.fs_sched.specs.Moments.{AnswersEvent}
use Rattle.fs_sched.specs.Runs.{IsRefused}
use Rattle.fs_sched.specs.code.Notes.{Happens}
use Rattle.fs_sched.specs.code.Stages.{stage_of}
use Rattle.fs_sched_witness.specs.declared.moments.Answer.TheVariants as answer
use Rattle.fs_sched.specs.declared.play.Play.{Play}
use Rattle.fs_sched.proofs.Asking.{idle}
use Rattle.fs_sched.proofs.Marks.{still_marked, marked_same}
use Rattle.fs_sched.proofs.Telling.{event_told, stepped_told}
use Rattle.fs_sched.proofs.play.Play.happen.Goals as goal

pub start-requires-clause-free : goal.start-requires-clause-free
start-requires-clause-free g c =
    let h = idle (state_of c.args.self.now.core) (state_of c.step-stepped.new.self) c.new.result c.args.seat c.step-stepped.result c.step-stepped.ensures.step c.new.ensures c.in-Idle.is in
    ap (λ (s : State). s.on_seat c.args.seat) h.1 ∙ h.0

pub start-requires-clause-seats : goal.start-requires-clause-seats
start-requires-clause-seats g c =
    let h = idle (state_of c.args.self.now.core) (state_of c.step-stepped.new.self) c.new.result c.args.seat c.step-stepped.result c.step-stepped.ensures.step c.new.ensures c.in-Idle.is in
    marked_same c.args.lists.now c.args.self.now (record c.args.self.now { core = c.step-stepped.new.self }) c.requires.seats (ap (λ (s : State). record { state = s; begun = c.args.self.now.begun.items }) h.1) c.step-stepped.ensures.seats refl

pub returns-in-Idle-clause-event : goal.returns-in-Idle-clause-event
returns-in-Idle-clause-event g c =
    let h = idle (state_of c.args.self.now.core) (state_of c.step-stepped.new.self) c.new.result c.args.seat c.step-stepped.result c.step-stepped.ensures.step c.new.ensures c.in-Idle.is in
    subst (λ (s : State). IfOk c.start.result (λ more. Happens g.W.Witness.Told c.args.lists.now (record { state = s; begun = c.args.self.now.begun.items }) c.args.witness.now c.args.before c.args.seat more (stage_of c.start.new.self) c.start.new.witness)) h.1 c.start.ensures.event

pub returns-in-Idle-clause-full : goal.returns-in-Idle-clause-full
returns-in-Idle-clause-full g c full =
    let h = idle (state_of c.args.self.now.core) (state_of c.step-stepped.new.self) c.new.result c.args.seat c.step-stepped.result c.step-stepped.ensures.step c.new.ensures c.in-Idle.is in
    subst (λ (s : State). IsRefused c.args.lists.now (record { state = s; begun = c.args.self.now.begun.items }) c.args.seat) h.1 (c.start.ensures.full full)

pub returns-clause-event : goal.returns-clause-event
returns-clause-event g c = (
  answer.Stepped c.step-stepped.result,
  λ e. cc,
  stepped_told c.args.lists.now (stage_of c.args.self.now) (record { state = state_of c.step-stepped.new.self; begun = c.args.self.now.begun.items }) c.new.result c.args.seat c.step-stepped.result c.step-stepped.ensures.step c.new.ensures refl c.in_default.not-Idle,
  c.in_ok-tell_behind.ensures.told,
)

pub returns-clause-seats : goal.returns-clause-seats
returns-clause-seats g c =
    let new : Play = record c.args.self.now { core = c.step-stepped.new.self } in
    let event : AnswersEvent c.args.lists.now (stage_of c.args.self.now) c.args.seat (answer.Stepped c.step-stepped.result) (stage_of new) = stepped_told c.args.lists.now (stage_of c.args.self.now) (stage_of new) c.new.result c.args.seat c.step-stepped.result c.step-stepped.ensures.step c.new.ensures refl c.in_default.not-Idle in
    still_marked c.args.lists.now c.args.self.now new c.args.seat c.requires.seats (event_told c.args.lists.now (stage_of c.args.self.now) (stage_of new) c.args.seat (answer.Stepped c.step-stepped.result) event) c.step-stepped.ensures.seats refl
