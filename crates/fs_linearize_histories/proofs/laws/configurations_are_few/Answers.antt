use Rattle.fs_linearize_histories.proofs.NumberingLemmas.{configurations_are_few}
use Rattle.fs_linearize_histories.proofs.laws.configurations_are_few.Goals as goal

pub returns : goal.returns
returns c = configurations_are_few
