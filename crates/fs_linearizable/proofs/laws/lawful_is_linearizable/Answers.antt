use Rattle.fs_linearizable.proofs.LawfulLemmas.{lawful_is_linearizable}
use Rattle.fs_linearizable.proofs.laws.lawful_is_linearizable.Goals as goal

pub returns : goal.returns
returns c = lawful_is_linearizable
