use Rattle.fs_sched_outcomes.proofs.Holding.{holds_as_said}
use Rattle.fs_sched_outcomes.proofs.laws.holds_as_said.Goals as goal

pub returns : goal.returns
returns c = holds_as_said
