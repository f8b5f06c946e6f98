use Rattle.fs_linearize_histories.proofs.Reaching.{closed_set_reaches}
use Rattle.fs_linearize_histories.proofs.laws.closed_sets_reach.Goals as goal

pub returns : goal.returns
returns c = closed_set_reaches
