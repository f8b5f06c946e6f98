use Rattle.fs_linearize_histories.proofs.FaultLemmas.{explained_are_histories}
use Rattle.fs_linearize_histories.proofs.laws.explained_are_histories.Goals as goal

pub returns : goal.returns
returns c = explained_are_histories
