use Rattle.fs_laws.proofs.states.StepsTakeWork.{adds_work}
use Rattle.fs_laws.proofs.laws.begins_add_work.Goals as goal

pub returns : goal.returns
returns c = adds_work
