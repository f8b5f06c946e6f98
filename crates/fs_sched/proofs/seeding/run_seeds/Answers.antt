use Rattle.std.proofs.Common.{refl, subst, Err, ap, ◌≡◌, ◌≢◌, ◌∙◌}
use Rattle.fs_verdict.specs.declared.failure.Failure.TheVariants as failure
use Rattle.fs_script.specs.Script.{script_of}
use Rattle.fs_sched.specs.Devices.{IsFaultOf}
use Rattle.fs_verdict.specs.declared.fault.RunFault.{RunFault}
use Rattle.fs_verdict.specs.declared.fault.RunFault.TheVariants.{Input, Write, Full, UnderWay}
use Rattle.fs_verdict.proofs.Unmade.{unmade, unwritten}
use Rattle.fs_sched.proofs.RunLemmas.{script_short, known_script}
use Rattle.fs_sched.proofs.SeedLemmas.{known_runs}
use Rattle.fs_sched.proofs.seeding.run_seeds.Goals as goal

abbrev gives : RunFault → RunFault → Type 0
gives fault x = x ≡ fault

pub returns-in-Ok-clause-ran : goal.returns-in-Ok-clause-ran
returns-in-Ok-clause-ran g c =
    let told = c.in-Ok.ensures.made in
    (told.1.text.items, known_runs _ _ _ _ _ _ refl told.2 told.4.1.ok, told.6)

pub returns-in-Ok-clause-lawful : goal.returns-in-Ok-clause-lawful
returns-in-Ok-clause-lawful g c = let told = c.in-Ok.ensures.made in told.5 ∙ told.4.1.lawful

pub returns-in-Ok-clause-end : goal.returns-in-Ok-clause-end
returns-in-Ok-clause-end g c = let told = c.in-Ok.ensures.made in told.3 (script_short _ _ _ refl told.4.1.ok.1)

pub returns-in-Err-clause-input : goal.returns-in-Err-clause-input
returns-in-Err-clause-input g c f e =
    let told = c.in-Err.ensures.unmade (Input f) (ap Err (unmade gives _ _ (Input f) c.between.ensures (cc) (λ z. cc) (λ z. cc) (λ z. cc))) in
    known_script _ _ _ _ refl told.1 told.2.1.fault

pub returns-in-Err-clause-full : goal.returns-in-Err-clause-full
returns-in-Err-clause-full g c e =
    let told = c.in-Err.ensures.unmade Full (ap Err (unmade gives _ _ Full c.between.ensures (cc) (λ z. cc) (λ z. cc) (λ z. cc))) in
    absurd told.2.1.fault

pub returns-in-Err-clause-under_way : goal.returns-in-Err-clause-under_way
returns-in-Err-clause-under_way g c call e =
    let told = c.in-Err.ensures.unmade (UnderWay call) (ap Err (unmade gives _ _ (UnderWay call) c.between.ensures (cc) (λ z. cc) (λ z. cc) (λ z. cc))) in
    absurd told.2.1.fault

pub returns-in-Err-clause-beginning : goal.returns-in-Err-clause-beginning
returns-in-Err-clause-beginning g c e =
    let never : (f : RunFault) → c.in-Err.failure ≡ failure.Unmade f → f ≢ Write = λ f same wrong.
    let told = c.in-Err.ensures.unmade f (ap Err same) in
    subst (IsFaultOf (script_of told.0.items)) wrong told.2.1.fault in
    let told = c.in-Err.ensures.beginning (ap Err (unwritten gives _ _ Write c.between.ensures (cc) (λ z. cc) (λ z. cc) never)) in
    (told.1.text.items, known_runs _ _ _ _ _ _ refl told.2 told.3.1.ok, told.4)
