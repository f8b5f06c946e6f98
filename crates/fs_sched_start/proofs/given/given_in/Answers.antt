use Rattle.std.proofs.Common.{ap}
use Rattle.fs_sched.specs.declared.origin.Origin.TheVariants.{Tree}
use Rattle.fs_sched_start.proofs.Starting.{no_script, none_given}
use Rattle.fs_sched_start.proofs.given.given_in.Goals as goal

pub returns-clause-given : goal.returns-clause-given
returns-clause-given c = (c.in-Ok-core_at.core.start, (c.in-Ok.ensures.script, c.in-Ok-core_at.ensures.core.start), ap (λ start. Tree start) c.into_parts-start.ensures.start)

pub returns-in-Err-core_at-clause-fault : goal.returns-in-Err-core_at-clause-fault
returns-in-Err-core_at-clause-fault c = none_given c.args.tree.now c.args.text.now c.in-Ok.script c.in-Err-core_at.fault c.in-Ok.ensures.script c.in-Err-core_at.ensures.fault

pub returns-in-Err-clause-fault : goal.returns-in-Err-clause-fault
returns-in-Err-clause-fault c = no_script c.args.tree.now c.args.text.now c.in-Err.fault c.in-Err.ensures.fault
