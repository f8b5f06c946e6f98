use Rattle.std.proofs.Common.{ℕ, Option, IfOk, sym, subst}
use Rattle.fs_sched.specs.declared.schedule.Schedule.{Schedule}
use Rattle.fs_trace.specs.Traces.{IsScheduleOn, IsReadBackOn}
use Rattle.fs_sched_find.specs.Finds.{IsWrittenOn}
use Rattle.fs_sched_find.proofs.Founds.{both_ok}
use Rattle.fs_sched_find.proofs.finding.text_of_found.Goals as goal

pub returns-in-Some-clause-written : goal.returns-in-Some-clause-written
returns-in-Some-clause-written c =
    let drawn = c.args.campaign.now in
    let script = c.args.script.now in
    let input = c.args.text.now in
    let made = c.schedule_at.result in
    let scheduled = subst (λ (schedule : Schedule). IfOk made (λ text. IsScheduleOn drawn.from schedule script input text.items)) c.schedule.ensures c.schedule_at.ensures.scheduled in
    let again = subst (λ (schedule : Schedule). IfOk made (λ text. IsReadBackOn drawn.from schedule script text.items)) c.schedule.ensures c.schedule_at.ensures.again in
    subst (λ (found : Option ℕ). IfOk made (λ text. IsWrittenOn drawn script input found text.items)) (sym c.in-Some.is) (both_ok _ _ made scheduled again)
