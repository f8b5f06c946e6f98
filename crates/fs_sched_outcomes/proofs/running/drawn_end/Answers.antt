use Rattle.std.proofs.Common.{List, sym, ap, subst}
use Rattle.fs_core.specs.CoreValues.{state_of}
use Rattle.fs_machine.specs.States.{State}
use Rattle.fs_sched_witness.specs.Moments.{entries_told}
use Rattle.fs_sched.specs.Origins.{TellsOn}
use Rattle.fs_sched.specs.Schedules.{schedule_by}
use Rattle.fs_sched.specs.code.Done.{IsStopOn}
use Rattle.fs_sched.specs.declared.schedule.Schedule.{Schedule}
use Rattle.fs_sched.proofs.Origins.{drawn_on, no_run, told_on}
use Rattle.fs_sched_outcomes.specs.Ends.{IsEndOf}
use Rattle.fs_sched_seen.specs.declared.places.Place.{Place}
use Rattle.fs_sched_outcomes.proofs.running.drawn_end.Goals as goal

pub returns-in-Ok-end_of-clause-end : goal.returns-in-Ok-end_of-clause-end
returns-in-Ok-end_of-clause-end c =
    let drawn = c.args.campaign.now in
    let script = c.args.script.now in
    let n = c.args.seed in
    let w = c.in-Ok.ensures.watches in
    let tells = subst (λ (s : Schedule). TellsOn drawn.from s script w.moments w.last) c.schedule-schedule.ensures w.tells in
    let once = drawn_on drawn n script (entries_told w.moments) w.last (told_on drawn.from (schedule_by drawn.by n) script w.last w.moments tells) in
    (w.last, once.0, subst (λ (ps : List Place). IsEndOf ps w.last.state c.in-Ok-end_of.end) c.requires.places (subst (λ (s : State). IsEndOf c.args.places.now s c.in-Ok-end_of.end) (sym w.core) c.in-Ok-end_of.ensures.end))

pub returns-in-Err-clause-fault : goal.returns-in-Err-clause-fault
returns-in-Err-clause-fault c =
    let drawn = c.args.campaign.now in
    no_run drawn c.args.seed c.args.script.now c.in-Err.fault (subst (λ (s : Schedule). IsStopOn drawn.from s c.args.script.now c.in-Err.fault) c.schedule-schedule.ensures c.in-Err.ensures.fault)

pub returns-in-Ok-end_of-clause-met : goal.returns-in-Ok-end_of-clause-met
returns-in-Ok-end_of-clause-met c = λ timelines have.
    let drawn = c.args.campaign.now in
    let script = c.args.script.now in
    let n = c.args.seed in
    let w = c.in-Ok.ensures.watches in
    let tells = subst (λ (s : Schedule). TellsOn drawn.from s script w.moments w.last) c.schedule-schedule.ensures w.tells in
    let once = drawn_on drawn n script (entries_told w.moments) w.last (told_on drawn.from (schedule_by drawn.by n) script w.last w.moments tells) in
    ((state_of c.in-Ok.ran.core).timeline, (w.last, once.0, ap (λ (s : State). s.timeline) (sym w.core)), c.in-Ok-end_of.ensures.met timelines have)
