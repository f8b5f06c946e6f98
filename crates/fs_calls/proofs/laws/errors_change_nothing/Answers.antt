use Rattle.fs_calls.proofs.OutcomeLemmas.{errors_change_nothing}
use Rattle.fs_calls.proofs.laws.errors_change_nothing.Goals as goal

pub returns : goal.returns
returns c = errors_change_nothing
