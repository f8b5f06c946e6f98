use Rattle.std.proofs.Common.{◌≡◌, ◌+◌, Result, Err, sym, subst, arith, rules}
use Rattle.std.specs.Prelude.{IfErr}
use Rattle.fs_verdict.specs.declared.fault.RunFault.{RunFault}
use Rattle.fs_sched.specs.Origins.{LacksRun}
use Rattle.fs_sched_outcomes.specs.declared.rows.Rows.{Rows}
use Rattle.fs_sched.proofs.Origins.{lacks_run}
use Rattle.fs_sched_outcomes.specs.code.Mades.{HasRuns}
use Rattle.fs_sched_outcomes.proofs.OutcomeLemmas.{notes_none, notes_more, runs_none, runs_more}
use Rattle.fs_sched_outcomes.proofs.running.add_runs.Goals as goal

pub loop-run-init : goal.loop-run-init
loop-run-init g c = record {
  kept = c.new-rows.ensures.kept;
  has = subst (HasRuns c.args.campaign.now c.args.script.now c.args.seed 0) (sym c.new-rows.ensures.rows) (runs_none c.args.campaign.now c.args.script.now c.args.seed);
  met = notes_none c.args.campaign.now c.args.script.now c.args.seed c.args.meetings.now c.requires.none;
  script = λ lists is. is;
}

pub loop-run-preserved : goal.loop-run-preserved
loop-run-preserved g c = record {
  kept = c.in_ok-add_run.ensures.kept;
  has = runs_more c.args.campaign.now c.args.script.now c.args.seed c.loop-run.run c.loop-run.rows.rows.items c.add_run.new.rows.rows.items c.loop-run.invariant.has c.in_ok-add_run.ensures.row;
  met = notes_more c.args.campaign.now c.args.script.now c.args.seed c.loop-run.run c.loop-run.meetings c.add_run.new.meetings c.loop-run.invariant.met c.in_ok-add_run.ensures.met;
  script = λ lists is. c.in_ok-add_run.ensures.script lists (c.loop-run.invariant.script lists is);
}

pub returns-in_err-add_run-clause-fault : goal.returns-in_err-add_run-clause-fault
returns-in_err-add_run-clause-fault g c =
    let campaign = c.args.campaign.now in
    let script = c.args.script.now in
    let here = c.args.seed + c.loop-run.run in
    let fault = c.in_err-add_run.field-0.0 in
    let e : ◌≡◌ {A = Result Rows RunFault} c.from_residual.result (Err fault) = search rules in
    let lacks = lacks_run campaign script c.args.seed c.args.runs here fault (omega arith) (omega (arith, c.loop-run-test.true)) c.in_err-add_run.ensures.fault in
    subst (λ (r : Result Rows RunFault). IfErr r (LacksRun campaign script c.args.seed c.args.runs)) (sym e) lacks
