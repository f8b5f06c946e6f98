-- The run of what was read is a run of the input.
use Rattle.std.proofs.Common.{◌≡◌, ℕ, ⊎_elim, false, List, Option, Some, None, Result, Ok, Err, sym, ap, ◌∙◌, subst}
use Rattle.std.specs.Prelude.{IfSome}
use Rattle.std.proofs.lemmas.Bool.{false_from_ne_true}
use Rattle.fs_words.specs.Headers.{is_too_long}
use Rattle.fs_words.specs.Reading.{fault_at}
use Rattle.fs_words.specs.declared.fault.ScriptFault.{ScriptFault}
use Rattle.fs_words.specs.declared.fault.FaultKind.TheVariants as kind
use Rattle.fs_script.specs.Script.{script_of}
use Rattle.fs_script.proofs.HeaderLemmas.{long_script}
use Rattle.fs_script.specs.declared.script.Script.{Script}
use Rattle.fs_sched.specs.Devices.{IsSameText}
use Rattle.fs_sched.specs.Runs.{IsRunOf}
use Rattle.fs_sched.specs.declared.running.RunEnd.{RunEnd}
use Rattle.fs_sched.specs.declared.schedule.Schedule.{Schedule}

pub script_same : (text input : List ℕ) → IsSameText text input → script_of text ≡ script_of input
script_same text input h = ⊎_elim (λ e. ap script_of e) (λ p. long_script text p.0 ∙ sym (long_script input p.1)) h

-- what has a script is not too long
pub script_short : (text items : List ℕ) (script : Script) → text ≡ items → script_of text ≡ Ok script → is_too_long items ≡ false
script_short text items script e h = subst (λ (l : List ℕ). is_too_long l ≡ false) e (false_from_ne_true _ (λ t. let long : script_of text ≡ Err (fault_at 1 kind.TooLarge) = long_script text t in absurd (cc)))

pub known_script : (r : Option (List ℕ)) (text items : List ℕ) (given : Result Script ScriptFault) → text ≡ items → IfSome r (IsSameText items) → script_of text ≡ given → IfSome r (λ input. script_of input ≡ given)
known_script None text items given e s h = tt
known_script (Some input) text items given e s h = sym (script_same items input s) ∙ sym (ap script_of e) ∙ h

pub known_run : (r : Option (List ℕ)) (text items out : List ℕ) (schedule : Schedule) (end : RunEnd) → text ≡ items → IfSome r (IsSameText items) → IsRunOf schedule text end out → IfSome r (λ input. IsRunOf schedule input end out)
known_run None text items out schedule end e s h = tt
known_run (Some input) text items out schedule end e s h = (h.0, sym (script_same items input s) ∙ sym (ap script_of e) ∙ h.1, h.2)
