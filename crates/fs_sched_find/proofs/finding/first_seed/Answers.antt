use Rattle.std.proofs.Common.{◌+◌, Bool, not, arith}
use Rattle.fs_sched.proofs.Origins.{lacks_run}
use Rattle.fs_sched_find.specs.Finds.{DrawnHas}
use Rattle.fs_sched_find.proofs.Founds.{as_wanted, each_more, unwanted}
use Rattle.fs_sched_find.proofs.finding.first_seed.Goals as goal

pub returns-in-Err-clause-fault : goal.returns-in-Err-clause-fault
returns-in-Err-clause-fault g c =
    let here = c.args.seed + c.loop-run.run in
    lacks_run c.args.campaign.now c.args.script.now c.args.seed c.args.runs here c.in-Err.fault (omega arith) (omega (arith, c.loop-run-test.true)) c.in-Err.ensures.fault

pub returns-then-has-wanted-clause-found : goal.returns-then-has-wanted-clause-found
returns-then-has-wanted-clause-found g c =
    let here = c.args.seed + c.loop-run.run in
    record {
      from = omega arith;
      below = omega (arith, c.loop-run-test.true);
      has = as_wanted (λ (b : Bool). DrawnHas c.args.campaign.now here c.args.script.now c.args.what.now b) c.in-Ok.has c.args.wanted c.if-has-wanted.true c.in-Ok.ensures.has;
      before = c.loop-run.invariant;
    }

pub loop-run-preserved : goal.loop-run-preserved
loop-run-preserved g c =
    let here = c.args.seed + c.loop-run.run in
    each_more c.args.campaign.now (not c.args.wanted) c.args.script.now c.args.what.now c.args.seed c.loop-run.run c.loop-run.invariant
    (unwanted (λ (b : Bool). DrawnHas c.args.campaign.now here c.args.script.now c.args.what.now b) c.in-Ok.has c.args.wanted c.if-has-wanted.false c.in-Ok.ensures.has)
