use Rattle.fs_sched.proofs.SameStarts.{starts_alike}
use Rattle.fs_sched_start.proofs.laws.starts_are_alike.Goals as goal

pub returns : goal.returns
returns c = starts_alike
