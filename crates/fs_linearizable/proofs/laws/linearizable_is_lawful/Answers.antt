use Rattle.fs_linearizable.proofs.LinearizationLemmas.{linearizable_is_lawful}
use Rattle.fs_linearizable.proofs.laws.linearizable_is_lawful.Goals as goal

pub returns : goal.returns
returns c = linearizable_is_lawful
