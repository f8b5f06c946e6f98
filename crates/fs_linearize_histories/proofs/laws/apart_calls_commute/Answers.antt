use Rattle.fs_linearize_histories.proofs.CommutingLemmas.{apart_calls_commute}
use Rattle.fs_linearize_histories.proofs.laws.apart_calls_commute.Goals as goal

pub returns : goal.returns
returns c = apart_calls_commute
