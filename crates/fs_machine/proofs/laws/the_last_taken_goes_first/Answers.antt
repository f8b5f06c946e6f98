use Rattle.fs_machine.proofs.LastTakenGoesFirst.{last_goes}
use Rattle.fs_machine.proofs.laws.the_last_taken_goes_first.Goals as goal

pub returns : goal.returns
returns c = last_goes
