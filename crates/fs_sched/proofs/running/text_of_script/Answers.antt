use Rattle.std.proofs.Common.{length, sym, ap, ◌∙◌}
use Rattle.fs_core.specs.CoreValues.{state_of}
use Rattle.fs_script.specs.Script.{script_of}
use Rattle.std.proofs.lemmas.Result.{IfOk-weaker, IfErr-weaker, on_ok_weaker}
use Rattle.fs_sched.specs.Runs.{before_all, StopsFrom, IsOutputFrom, IsRunOf, IsFaultOfRun}
use Rattle.fs_sched.specs.code.Stages.{IsWhy}
use Rattle.fs_sched.proofs.FromRoot.{root_fresh, root_output, root_again, root_stop}
use Rattle.fs_sched.proofs.Reasons.{of_stop}
use Rattle.fs_sched.proofs.running.text_of_script.Goals as goal

pub run_on-requires-clause-fresh : goal.run_on-requires-clause-fresh
run_on-requires-clause-fresh g c = root_fresh c.args.schedule c.in_ok-script.script c.in_ok-core.core c.in_ok-core.ensures.state

pub returns : goal.returns
returns g c =
    let schedule = c.args.schedule in
    let script = c.in_ok-script.script in
    let core = c.in_ok-core.core in
    let root = c.in_ok-core.ensures.state in
    let is = ap script_of (sym c.as_slice.ensures.value) ∙ c.in_ok-script.ensures.script in
    record {
      output = IfOk-weaker c.run_on.result (λ made. IsOutputFrom schedule script (before_all (state_of core) (length script.lists)) made.end made.text.items) (λ made. IsRunOf schedule c.args.text.items made.end made.text.items)
          (λ made output. (script, is, root_output schedule script core root made.end made.text.items output)) c.run_on.ensures.output;
      again = on_ok_weaker c.run_on.result (λ again. root_again schedule script core root c.args.text.items is again) c.run_on.ensures.again;
      fault = IfErr-weaker c.run_on.result (IsWhy (StopsFrom schedule script (before_all (state_of core) (length script.lists)))) (IsFaultOfRun schedule c.args.text.items)
          (λ fault why. of_stop schedule c.args.text.items script fault is (root_stop schedule script core root fault c.in_ok-script.ensures.few why)) c.run_on.ensures.why;
    }
