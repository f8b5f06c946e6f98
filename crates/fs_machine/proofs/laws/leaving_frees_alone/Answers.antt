use Rattle.fs_machine.proofs.FinishKeepsNumbers.{frees_alone}
use Rattle.fs_machine.proofs.laws.leaving_frees_alone.Goals as goal

pub returns : goal.returns
returns c = frees_alone
