use Rattle.fs_laws.proofs.states.Waiters.{waits_above}
use Rattle.fs_laws.proofs.laws.waiters_stand_above.Goals as goal

pub returns : goal.returns
returns c = waits_above
