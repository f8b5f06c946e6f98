use Rattle.std.proofs.Common.{◌≡◌, ◌+◌, ◌∙◌, true, arith}
use Rattle.fs_sched.proofs.Origins.{lacks_run}
use Rattle.fs_sched.proofs.SeedLemmas.{lines_more, each_more}
use Rattle.fs_sched.proofs.seeding.seeds_of.Goals as goal
use Rattle.fs_sched.proofs.seeding.seeds_of.Goals.{then-lawful, else-lawful}

pub loop-run-preserved : goal.loop-run-preserved
loop-run-preserved g c =
    let well : c.in-Ok.well ≡ true = c.in-Ok.ensures.lawful in
    record {
      before = c.in-Ok.ensures.before ∙ c.loop-run.invariant.before;
      lawful = elim c.if-lawful.branch [ then-lawful w ↦ w.lawful-is ∙ well | else-lawful w ↦ w.lawful-is ∙ c.loop-run.invariant.lawful ];
      each = each_more c.args.campaign.now c.args.script.now c.args.seed c.loop-run.run c.loop-run.invariant.each c.in-Ok.ensures.run;
      lines = lines_more c.args.seed c.loop-run.run c.loop-run.lines.added c.push_run.new.lines.added c.loop-run.invariant.lines c.in-Ok.ensures.line;
    }

pub returns-in-Err-clause-fault : goal.returns-in-Err-clause-fault
returns-in-Err-clause-fault g c =
    let here = c.args.seed + c.loop-run.run in
    lacks_run c.args.campaign.now c.args.script.now c.args.seed c.args.runs here c.in-Err.fault (omega arith) (omega (arith, c.loop-run-test.true)) c.in-Err.ensures.fault
