use Rattle.fs_laws.proofs.Steps.{step_renamed}
use Rattle.fs_laws.proofs.numbers.steps_rename.Goals as goal

pub returns : goal.returns
returns c = step_renamed
