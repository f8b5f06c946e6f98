use Rattle.fs_linearize_histories.proofs.FaultLemmas.{faults_are_first}
use Rattle.fs_linearize_histories.proofs.laws.faults_are_first.Goals as goal

pub returns : goal.returns
returns c = faults_are_first
