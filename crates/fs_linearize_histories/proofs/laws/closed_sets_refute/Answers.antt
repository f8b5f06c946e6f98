use Rattle.fs_linearize_histories.proofs.Reaching.{closed_set_refutes}
use Rattle.fs_linearize_histories.proofs.laws.closed_sets_refute.Goals as goal

pub returns : goal.returns
returns c = closed_set_refutes
