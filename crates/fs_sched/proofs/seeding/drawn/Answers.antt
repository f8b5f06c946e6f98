use Rattle.std.proofs.Common.{length, subst}
use Rattle.fs_core.specs.CoreValues.{state_of}
use Rattle.fs_sched.specs.Runs.{before_all, RunsFrom, StopsFrom}
use Rattle.fs_sched.specs.Schedules.{schedule_by}
use Rattle.fs_sched.specs.code.Stages.{stage_of, IsWhy}
use Rattle.fs_sched.specs.declared.schedule.Schedule.{Schedule}
use Rattle.fs_sched.proofs.Origins.{drawn_on, no_run, runs_on, stop_on}
use Rattle.fs_sched.proofs.seeding.drawn.Goals as goal

pub returns-in-Ok-clause-runs : goal.returns-in-Ok-clause-runs
returns-in-Ok-clause-runs c =
    let drawn = c.args.campaign.now in
    let script = c.args.script.now in
    let run = c.in-Ok.ensures.runs in
    let last = stage_of c.in-Ok.run'.play in
    let first = before_all (state_of c.in_ok-core.core) (length script.lists) in
    let runs = subst (λ (s : Schedule). RunsFrom s script first run.told last) c.schedule.ensures run.runs in
    (drawn_on drawn c.args.seed script run.told last (runs_on drawn.from (schedule_by drawn.by c.args.seed) script first run.told last c.in_ok-core.ensures.first runs)).0

pub returns-in-Ok-clause-start : goal.returns-in-Ok-clause-start
returns-in-Ok-clause-start c =
    let drawn = c.args.campaign.now in
    let script = c.args.script.now in
    let run = c.in-Ok.ensures.runs in
    let last = stage_of c.in-Ok.run'.play in
    let first = before_all (state_of c.in_ok-core.core) (length script.lists) in
    let runs = subst (λ (s : Schedule). RunsFrom s script first run.told last) c.schedule.ensures run.runs in
    (drawn_on drawn c.args.seed script run.told last (runs_on drawn.from (schedule_by drawn.by c.args.seed) script first run.told last c.in_ok-core.ensures.first runs)).1

pub returns-in-Err-clause-fault : goal.returns-in-Err-clause-fault
returns-in-Err-clause-fault c =
    let drawn = c.args.campaign.now in
    let script = c.args.script.now in
    let first = before_all (state_of c.in_ok-core.core) (length script.lists) in
    let why = subst (λ (s : Schedule). IsWhy (StopsFrom s script first) c.in-Err.fault) c.schedule.ensures c.in-Err.ensures.why in
    no_run drawn c.args.seed script c.in-Err.fault (stop_on drawn.from (schedule_by drawn.by c.args.seed) script first c.in-Err.fault c.in_ok-core.ensures.first c.requires.few why)
