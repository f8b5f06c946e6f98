use Rattle.fs_laws.proofs.states.StepsTakeWork.{takes_work}
use Rattle.fs_laws.proofs.laws.steps_take_work.Goals as goal

pub returns : goal.returns
returns c = takes_work
