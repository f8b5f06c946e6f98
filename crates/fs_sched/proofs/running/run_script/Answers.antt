use Rattle.std.proofs.Common.{refl, sym, subst, Err, ap, ◌≡◌, ◌≢◌, ◌<◌, ◌^◌, arith}
use Rattle.fs_verdict.specs.declared.failure.Failure.TheVariants as failure
use Rattle.fs_sched.specs.Runs.{IsRunOf, IsFaultOfRun}
use Rattle.fs_verdict.specs.declared.fault.RunFault.{RunFault}
use Rattle.fs_verdict.specs.declared.fault.RunFault.TheVariants.{Input, Write, Full, UnderWay}
use Rattle.fs_verdict.proofs.Unmade.{unmade, unwritten}
use Rattle.fs_sched.proofs.RunLemmas.{script_short, known_script, known_run}
use Rattle.fs_sched.proofs.OneText.{known_each, known_again}
use Rattle.fs_sched.proofs.LinearizableRuns.{known_linearizable}
use Rattle.fs_sched.proofs.Reasons.{known_stop}
use Rattle.fs_sched.proofs.Whole.{whole_always, known_whole}
use Rattle.fs_sched.proofs.running.run_script.Goals as goal

abbrev gives : RunFault → RunFault → Type 0
gives fault x = x ≡ fault

pub returns-in-Ok-clause-ran : goal.returns-in-Ok-clause-ran
returns-in-Ok-clause-ran g c =
    let told = c.in-Ok.ensures.made in
    let output = subst (λ end. IsRunOf c.args.schedule told.0.items end told.1.text.items) (sym told.5) told.4.1.output in
    (told.1.text.items, known_each _ _ _ c.args.schedule (known_run _ _ _ _ _ _ refl told.2 output), told.6)

pub returns-in-Ok-clause-linearizable : goal.returns-in-Ok-clause-linearizable
returns-in-Ok-clause-linearizable g c =
    let told = c.in-Ok.ensures.made in
    (told.1.text.items, known_linearizable _ _ _ _ c.args.schedule told.1.end refl told.2 told.4.1.output, told.6)

pub returns-in-Ok-clause-again : goal.returns-in-Ok-clause-again
returns-in-Ok-clause-again g c = let told = c.in-Ok.ensures.made in known_again _ _ _ c.args.schedule refl told.2 told.4.1.again

pub returns-in-Ok-clause-end : goal.returns-in-Ok-clause-end
returns-in-Ok-clause-end g c = let told = c.in-Ok.ensures.made in told.3 (script_short _ _ _ refl told.4.1.output.1)

pub returns-in-Ok-clause-whole : goal.returns-in-Ok-clause-whole
returns-in-Ok-clause-whole g c =
    let told = c.in-Ok.ensures.made in
    let output = subst (λ end. IsRunOf c.args.schedule told.0.items end told.1.text.items) (sym told.5) told.4.1.output in
    let fits : c.in-Ok.end.begun < 2 ^ 64 = omega arith in
    whole_always c.args.schedule _ _ _ output fits

pub returns-in-Ok-clause-finish : goal.returns-in-Ok-clause-finish
returns-in-Ok-clause-finish g c =
    let told = c.in-Ok.ensures.made in
    let output = subst (λ end. IsRunOf c.args.schedule told.0.items end told.1.text.items) (sym told.5) told.4.1.output in
    let fits : c.in-Ok.end.begun < 2 ^ 64 = omega arith in
    known_whole _ _ _ _ c.args.schedule _ refl told.2 output fits

pub returns-in-Err-clause-input : goal.returns-in-Err-clause-input
returns-in-Err-clause-input g c f e =
    let told = c.in-Err.ensures.unmade (Input f) (ap Err (unmade gives _ _ (Input f) c.between.ensures (cc) (λ z. cc) (λ z. cc) (λ z. cc))) in
    known_script _ _ _ _ refl told.1 told.2.1.fault

pub returns-in-Err-clause-full : goal.returns-in-Err-clause-full
returns-in-Err-clause-full g c e =
    let told = c.in-Err.ensures.unmade Full (ap Err (unmade gives _ _ Full c.between.ensures (cc) (λ z. cc) (λ z. cc) (λ z. cc))) in
    absurd told.2.1.fault

pub returns-in-Err-clause-under_way : goal.returns-in-Err-clause-under_way
returns-in-Err-clause-under_way g c call e =
    let told = c.in-Err.ensures.unmade (UnderWay call) (ap Err (unmade gives _ _ (UnderWay call) c.between.ensures (cc) (λ z. cc) (λ z. cc) (λ z. cc))) in
    known_stop _ _ _ c.args.schedule (UnderWay call) refl told.1 told.2.1.fault

pub returns-in-Err-clause-beginning : goal.returns-in-Err-clause-beginning
returns-in-Err-clause-beginning g c e =
    let never : (f : RunFault) → c.in-Err.failure ≡ failure.Unmade f → f ≢ Write = λ f same wrong.
    let told = c.in-Err.ensures.unmade f (ap Err same) in
    subst (IsFaultOfRun c.args.schedule told.0.items) wrong told.2.1.fault in
    let told = c.in-Err.ensures.beginning (ap Err (unwritten gives _ _ Write c.between.ensures (cc) (λ z. cc) (λ z. cc) never)) in
    (told.1.end, told.1.text.items, known_each _ _ _ c.args.schedule (known_run _ _ _ _ _ _ refl told.2 told.3.1.output), told.4)
