use Rattle.fs_linearize_histories.proofs.HistoryLemmas.{explained_front}
use Rattle.fs_linearize_histories.proofs.laws.explained_fronts.Goals as goal

pub returns : goal.returns
returns c = explained_front
