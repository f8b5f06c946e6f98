use Rattle.fs_laws.proofs.Ending.{few_steps}
use Rattle.fs_laws.proofs.endings.steps_are_few.Goals as goal

pub returns : goal.returns
returns c = few_steps
