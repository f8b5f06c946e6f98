use Rattle.fs_sched.proofs.Ends.{one_end}
use Rattle.fs_sched.proofs.laws.one_end.Goals as goal

pub returns : goal.returns
returns c = one_end
