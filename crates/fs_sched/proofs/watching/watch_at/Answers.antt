use Rattle.std.proofs.Common.{length}
use Rattle.std.proofs.lemmas.Result.{IfErr-weaker}
use Rattle.fs_core.specs.CoreValues.{state_of}
use Rattle.fs_sched.specs.Runs.{before_all, StopsFrom}
use Rattle.fs_sched.specs.code.Done.{IsStopOn}
use Rattle.fs_sched.specs.code.Stages.{IsWhy}
use Rattle.fs_sched.proofs.Origins.{stop_on}
use Rattle.fs_sched.proofs.watching.watch_at.Goals as goal

pub returns-clause-watches : goal.returns-clause-watches
returns-clause-watches g c = c.watch_on.ensures.watches c.args.from.now c.in_ok-core.ensures.first

pub returns-clause-fault : goal.returns-clause-fault
returns-clause-fault g c =
    let script = c.args.script.now in
    let first = before_all (state_of c.in_ok-core.core) (length script.lists) in
    IfErr-weaker c.watch_on.result (IsWhy (StopsFrom c.args.schedule script first)) (IsStopOn c.args.from.now c.args.schedule script)
    (λ fault why. stop_on c.args.from.now c.args.schedule script first fault c.in_ok-core.ensures.first c.requires.few why) c.watch_on.ensures.why
