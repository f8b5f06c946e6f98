use Rattle.std.proofs.Common.{◌≡◌, Err}
use Rattle.fs_verdict.specs.Checks.{verdict_of}
use Rattle.fs_verdict.specs.declared.fault.RunFault.{RunFault}
use Rattle.fs_verdict.specs.declared.fault.RunFault.TheVariants.{Input, Full, UnderWay}
use Rattle.fs_verdict.proofs.Verdicts as lemmas
use Rattle.fs_verdict.proofs.Performed.{apart_itself, of_known, unmade, keeps_devices, beginning}
use Rattle.fs_verdict.proofs.checking.check_journal.Goals as goal

abbrev run : RunFault → RunFault
run fault = fault

pub returns-clause-verdict : goal.returns-clause-verdict
returns-clause-verdict g c = lemmas.checked _ _ _ _ c.perform.ensures.transforms.ok

pub returns-clause-quiet : goal.returns-clause-quiet
returns-clause-quiet g c = lemmas.quiet _ _ _ _ c.perform.ensures.transforms.ok

pub returns-clause-end : goal.returns-clause-end
returns-clause-end g c = c.perform.ensures.transforms.end

pub returns-clause-input : goal.returns-clause-input
returns-clause-input g c f e =
    let told = unmade run _ _ _ _ _ _ _ _ _ _ c.perform.ensures.transforms (Input f) e (λ z. cc) (λ z. cc) (λ z. cc) in
    of_known (λ given. verdict_of given ≡ Err f) _ _ told.read told.makes_it.fault

pub returns-clause-full : goal.returns-clause-full
returns-clause-full g c e = (unmade run _ _ _ _ _ _ _ _ _ _ c.perform.ensures.transforms Full e (λ z. cc) (λ z. cc) (λ z. cc)).makes_it.fault

pub returns-clause-under_way : goal.returns-clause-under_way
returns-clause-under_way g c call e = (unmade run _ _ _ _ _ _ _ _ _ _ c.perform.ensures.transforms (UnderWay call) e (λ z. cc) (λ z. cc) (λ z. cc)).makes_it.fault

pub returns-clause-devices : goal.returns-clause-devices
returns-clause-devices g c = keeps_devices run apart_itself _ _ _ _ _ _ _ _ _ _ c.perform.ensures.transforms

pub returns-clause-beginning : goal.returns-clause-beginning
returns-clause-beginning g c e = lemmas.begun _ _ _ (beginning run apart_itself _ _ _ _ _ _ _ _ _ _ c.perform.ensures.transforms e)
