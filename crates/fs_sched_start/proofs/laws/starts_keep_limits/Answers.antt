use Rattle.fs_script.proofs.StartNames.{short_start}
use Rattle.fs_sched_start.proofs.laws.starts_keep_limits.Goals as goal

pub returns : goal.returns
returns c = short_start
