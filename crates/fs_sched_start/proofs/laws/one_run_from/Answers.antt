use Rattle.fs_sched_start.proofs.Starting.{one_run_from}
use Rattle.fs_sched_start.proofs.laws.one_run_from.Goals as goal

pub returns : goal.returns
returns c = one_run_from
