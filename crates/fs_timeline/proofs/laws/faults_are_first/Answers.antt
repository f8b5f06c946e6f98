use Rattle.fs_timeline.proofs.VerdictLemmas.{faults_are_first}
use Rattle.fs_timeline.proofs.laws.faults_are_first.Goals as goal

pub returns : goal.returns
returns c = faults_are_first
