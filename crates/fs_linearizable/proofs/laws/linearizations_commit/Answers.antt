use Rattle.fs_linearizable.proofs.LinearizationLemmas.{linearizations_commit}
use Rattle.fs_linearizable.proofs.laws.linearizations_commit.Goals as goal

pub returns : goal.returns
returns c = linearizations_commit
