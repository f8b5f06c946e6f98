use Rattle.fs_laws.proofs.states.Waiters.{has_step}
use Rattle.fs_laws.proofs.laws.each_seat_steps.Goals as goal

pub returns : goal.returns
returns c = has_step
