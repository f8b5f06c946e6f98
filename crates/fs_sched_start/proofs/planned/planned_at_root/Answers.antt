use Rattle.std.proofs.Common.{refl}
use Rattle.fs_sched_start.proofs.Starting.{root_planned}
use Rattle.fs_sched_start.proofs.planned.planned_at_root.Goals as goal

pub returns-in-Ok-clause-planned : goal.returns-in-Ok-clause-planned
returns-in-Ok-clause-planned c = (c.in-Ok.ensures.script, refl, refl)

pub returns-in-Err-clause-fault : goal.returns-in-Err-clause-fault
returns-in-Err-clause-fault c = root_planned c.args.text.now c.in-Err.fault c.in-Err.ensures.fault
