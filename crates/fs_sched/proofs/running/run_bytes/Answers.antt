use Rattle.std.proofs.Common.{List, ℕ, sym, subst}
use Rattle.fs_sched.specs.EachRun.{AreOfTheRun, IsLinearizableRun}
use Rattle.fs_sched.proofs.FromRoot.{root_fresh, root_output, root_stop}
use Rattle.fs_sched.proofs.LinearizableRuns.{linearizable_run}
use Rattle.fs_sched.proofs.OneText.{of_each}
use Rattle.fs_sched.proofs.Reasons.{of_stop}
use Rattle.fs_sched.proofs.running.run_bytes.Goals as goal

pub run_on-requires-clause-fresh : goal.run_on-requires-clause-fresh
run_on-requires-clause-fresh c = root_fresh c.args.schedule c.in_ok-read.read c.in_ok-core.core c.in_ok-core.ensures.state

pub returns-in-Ok-clause-ran : goal.returns-in-Ok-clause-ran
returns-in-Ok-clause-ran c =
    let made = c.in-Ok.made in
    let read = c.in_ok-read.read in
    let output = root_output c.args.schedule read c.in_ok-core.core c.in_ok-core.ensures.state made.end made.text.items c.in-Ok.ensures.output in
    let whole = of_each c.args.schedule c.args.script.now made.end made.text.items (read, c.in_ok-read.ensures.script, output) in
    (made.end, subst (λ (text : List ℕ). AreOfTheRun c.args.schedule c.args.script.now made.end text) (sym c.shrink_to_fit.ensures.items) whole)

pub returns-in-Ok-clause-linearizable : goal.returns-in-Ok-clause-linearizable
returns-in-Ok-clause-linearizable c =
    let made = c.in-Ok.made in
    let read = c.in_ok-read.read in
    let output = root_output c.args.schedule read c.in_ok-core.core c.in_ok-core.ensures.state made.end made.text.items c.in-Ok.ensures.output in
    subst (IsLinearizableRun c.args.schedule c.args.script.now) (sym c.shrink_to_fit.ensures.items) (linearizable_run c.args.schedule c.args.script.now made.end made.text.items (read, c.in_ok-read.ensures.script, output))

pub returns-in-Err-clause-fault : goal.returns-in-Err-clause-fault
returns-in-Err-clause-fault c =
    let read = c.in_ok-read.read in
    of_stop c.args.schedule c.args.script.now read c.in-Err.fault c.in_ok-read.ensures.script (root_stop c.args.schedule read c.in_ok-core.core c.in_ok-core.ensures.state c.in-Err.fault c.in_ok-read.ensures.few c.in-Err.ensures.why)
