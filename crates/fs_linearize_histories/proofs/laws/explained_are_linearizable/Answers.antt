use Rattle.fs_linearize_histories.proofs.LinearizableLemmas.{explained_are_linearizable}
use Rattle.fs_linearize_histories.proofs.laws.explained_are_linearizable.Goals as goal

pub returns : goal.returns
returns c = explained_are_linearizable
