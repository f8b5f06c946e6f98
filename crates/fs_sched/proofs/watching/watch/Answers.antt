use Rattle.std.proofs.Common.{length, ap}
use Rattle.std.proofs.lemmas.Result.{IfErr-weaker}
use Rattle.fs_core.specs.CoreValues.{state_of}
use Rattle.fs_machine.specs.States.{State}
use Rattle.fs_sched.specs.Runs.{before_all, StopsFrom}
use Rattle.fs_sched.specs.code.Done.{IsStop}
use Rattle.fs_sched.specs.code.Stages.{IsWhy}
use Rattle.fs_sched.specs.declared.origin.Origin.TheVariants.{Root}
use Rattle.fs_sched.proofs.FromRoot.{root_stop}
use Rattle.fs_sched.proofs.watching.watch.Goals as goal

pub returns-clause-watches : goal.returns-clause-watches
returns-clause-watches g c = c.watch_on.ensures.watches Root (ap (λ (s : State). before_all s (length c.args.script.now.lists)) c.in_ok-core.ensures.state)

pub returns-clause-fault : goal.returns-clause-fault
returns-clause-fault g c =
    let script = c.args.script.now in
    IfErr-weaker c.watch_on.result (IsWhy (StopsFrom c.args.schedule script (before_all (state_of c.in_ok-core.core) (length script.lists)))) (IsStop c.args.schedule script)
    (λ fault why. root_stop c.args.schedule script c.in_ok-core.core c.in_ok-core.ensures.state fault c.requires.few why) c.watch_on.ensures.why
