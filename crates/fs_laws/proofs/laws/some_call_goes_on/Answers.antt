use Rattle.fs_laws.proofs.states.Waiters.{never_stuck}
use Rattle.fs_laws.proofs.laws.some_call_goes_on.Goals as goal

pub returns : goal.returns
returns c = never_stuck
