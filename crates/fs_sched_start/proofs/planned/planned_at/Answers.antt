use Rattle.std.proofs.Common.{refl}
use Rattle.fs_sched_start.proofs.Starting.{tree_planned}
use Rattle.fs_sched_start.proofs.planned.planned_at.Goals as goal

pub returns-in-Ok-clause-planned : goal.returns-in-Ok-clause-planned
returns-in-Ok-clause-planned c = let (start, (is, at), from) = c.in-Ok.ensures.given in (is, (start, at, from), refl)

pub returns-in-Err-clause-fault : goal.returns-in-Err-clause-fault
returns-in-Err-clause-fault c = tree_planned c.args.tree.now c.args.text.now c.in-Err.fault c.in-Err.ensures.fault
