use Rattle.fs_machine.proofs.StepsAreDetermined.{one_step}
use Rattle.fs_machine.proofs.laws.steps_are_determined.Goals as goal

pub returns : goal.returns
returns c = one_step
