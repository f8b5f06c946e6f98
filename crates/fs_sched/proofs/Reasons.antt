-- Why a run has no text.
use Rattle.std.proofs.Common.{◌≡◌, ℕ, true, false, ⊎_elim, List, Option, Some, None, Ok, sym, ap, subst, ◌∙◌}
use Rattle.std.specs.Prelude.{IfSome}
use Rattle.fs_words.specs.Headers.{is_too_long}
use Rattle.fs_script.specs.Script.{script_of}
use Rattle.fs_script.specs.declared.script.Script.{Script}
use Rattle.fs_sched.specs.Devices.{IsFaultOf, IsSameText}
use Rattle.fs_sched.specs.Runs.{IsFaultOfRun, ReachesStop}
use Rattle.fs_sched.specs.code.Done.{IsStop}
use Rattle.fs_verdict.specs.declared.fault.RunFault.{RunFault}
use Rattle.fs_verdict.specs.declared.fault.RunFault.TheVariants as faults
use Rattle.fs_sched.specs.declared.schedule.Schedule.{Schedule}
use Rattle.fs_sched.proofs.RunLemmas.{script_same}

-- the run of the script stopped
pub of_stop : (schedule : Schedule) (input : List ℕ) (script : Script) (fault : RunFault) → script_of input ≡ Ok script → IsStop schedule script fault → IsFaultOfRun schedule input fault
of_stop schedule input script (faults.Input f) is stop = absurd stop
of_stop schedule input script faults.Read is stop = absurd stop
of_stop schedule input script faults.Write is stop = absurd stop
of_stop schedule input script faults.OutOfMemory is stop = tt
of_stop schedule input script faults.Full is stop = absurd stop
of_stop schedule input script (faults.UnderWay c) is stop = (script, is, stop)

-- or there is no script
pub of_input : (schedule : Schedule) (input : List ℕ) (fault : RunFault) → IsFaultOf (script_of input) fault → IsFaultOfRun schedule input fault
of_input schedule input (faults.Input f) is = is
of_input schedule input faults.Read is = is
of_input schedule input faults.Write is = is
of_input schedule input faults.OutOfMemory is = is
of_input schedule input faults.Full is = is
of_input schedule input (faults.UnderWay c) is = absurd is

-- what was read stops where the input does
pub known_stop : (r : Option (List ℕ)) (text items : List ℕ) (schedule : Schedule) (fault : RunFault) → text ≡ items → IfSome r (IsSameText items) → ReachesStop schedule text fault → IfSome r (λ input. ReachesStop schedule input fault)
known_stop None text items schedule fault e s stop = tt
known_stop (Some input) text items schedule fault e s stop = (stop.0, sym (script_same items input s) ∙ sym (ap script_of e) ∙ stop.1, stop.2)

-- what is said of the text that was read is said of the input, where that is not too long
pub known : (P : List ℕ → Type 0) (r : Option (List ℕ)) (text items : List ℕ) → text ≡ items → is_too_long items ≡ false → IfSome r (IsSameText items) → P text → IfSome r P
known P None text items e short s p = tt
known P (Some input) text items e short s p = ⊎_elim (λ same. subst P (e ∙ same) p) (λ long. absurd (let both : true ≡ false = sym long.0 ∙ short in cc)) s
