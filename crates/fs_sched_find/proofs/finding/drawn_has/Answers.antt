use Rattle.std.proofs.Common.{subst}
use Rattle.fs_sched.specs.code.Done.{IsStopOn}
use Rattle.fs_sched.specs.declared.schedule.Schedule.{Schedule}
use Rattle.fs_sched.proofs.Origins.{no_run}
use Rattle.fs_sched_find.specs.Finds.{RunHasOn}
use Rattle.fs_sched_find.proofs.finding.drawn_has.Goals as goal

pub returns-in-Ok-clause-has : goal.returns-in-Ok-clause-has
returns-in-Ok-clause-has c = subst (λ (schedule : Schedule). RunHasOn c.args.campaign.now.from schedule c.args.script.now c.args.what.now c.in-Ok.has) c.schedule.ensures c.in-Ok.ensures.has

pub returns-in-Err-clause-fault : goal.returns-in-Err-clause-fault
returns-in-Err-clause-fault c =
    no_run c.args.campaign.now c.args.seed c.args.script.now c.in-Err.fault (subst (λ (schedule : Schedule). IsStopOn c.args.campaign.now.from schedule c.args.script.now c.in-Err.fault) c.schedule.ensures c.in-Err.ensures.fault)
