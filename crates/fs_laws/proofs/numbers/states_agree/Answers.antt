use Rattle.fs_laws.proofs.Agreement.{parts_agree}
use Rattle.fs_laws.proofs.numbers.states_agree.Goals as goal

pub returns : goal.returns
returns c = parts_agree
