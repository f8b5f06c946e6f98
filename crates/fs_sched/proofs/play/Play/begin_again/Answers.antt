use Rattle.std.proofs.Common.{ap}
use Rattle.fs_core.proofs.Resting.{idle_at_rest}
use Rattle.fs_machine.specs.States.{State}
use Rattle.fs_sched.proofs.play.Play.begin_again.Goals as goal

pub returns-in-Ok-clause-does : goal.returns-in-Ok-clause-does
returns-in-Ok-clause-does c lists = (
  idle_at_rest c.args.self.now.core c.in-Ok.ensures.rest,
  c.in-Ok.ensures.entries,
  ap (λ (s : State). record { state = s; begun = c.args.self.now.begun.items }) c.in-Ok.ensures.state,
)
