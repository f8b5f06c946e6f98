-- What is made of an input is honest.
use Rattle.std.proofs.Common.{◌≡◌, ℕ, Bool, true, false, List, Option, Some, Err, inr, refl, ap, subst}
use Rattle.fs_words.specs.Headers.{is_too_long}
use Rattle.fs_words.specs.Reading.{fault_at}
use Rattle.fs_words.specs.declared.fault.FaultKind.TheVariants as kind
use Rattle.fs_words.specs.declared.fault.ScriptFault.{ScriptFault}
use Rattle.fs_script.specs.Script.{script_of}
use Rattle.fs_script.proofs.HeaderLemmas.{long_journal, long_script}
use Rattle.fs_verdict.specs.Commands.{IsHonest, IsNoDevice, wrapped}
use Rattle.fs_verdict.specs.code.CommandLaws.{memory_of}
use Rattle.fs_verdict.specs.declared.fault.RunFault.TheVariants as run
use Rattle.fs_verdict.proofs.CheckLemmas.{verdict_short}
use Rattle.fs_sched.specs.Checks.{judged, verdict_of}
use Rattle.fs_sched.specs.declared.schedule.Schedule.{Schedule}
use Rattle.fs_sched.proofs.Reasons.{known_stop}
use Rattle.fs_sched.proofs.RunLemmas.{script_short}
use Rattle.fs_draw.specs.Faults.{HasFaultAs, IsFaultOfPicture}
use Rattle.fs_verdict.specs.Checks.{is_journal}
use Rattle.fs_draw.specs.Pictures.{IsOf}
use Rattle.fs_draw.specs.Makes.{MakesPicture}
use Rattle.fs_draw.specs.declared.fault.DrawFault.{DrawFault}
use Rattle.fs_draw.specs.declared.fault.DrawFault.TheVariants.{Run, NoCall}

-- what is drawn is not too long
drawn_short : (journal : Bool) (schedule : Schedule) (text : List ℕ) (well : Bool) → IsOf journal schedule text well → is_too_long text ≡ false
drawn_short true schedule text well drawn = verdict_short text text drawn.0 refl drawn.1
drawn_short false schedule text well drawn = script_short text text drawn.0 refl drawn.1

-- what is too long is neither a journal nor a script, by one and the same fault
long_fault : (journal : Bool) (text : List ℕ) (f : ScriptFault) → is_too_long text ≡ true → HasFaultAs journal text f → f ≡ fault_at 1 kind.TooLarge
long_fault true text f h is = let long : verdict_of text ≡ Err (fault_at 1 kind.TooLarge) = ap judged (long_journal text h) in cc
long_fault false text f h is = let long : script_of text ≡ Err (fault_at 1 kind.TooLarge) = long_script text h in cc

long_has : (journal : Bool) (text : List ℕ) (f : ScriptFault) → is_too_long text ≡ true → f ≡ fault_at 1 kind.TooLarge → HasFaultAs journal text f
long_has true text f h e = let long : verdict_of text ≡ Err (fault_at 1 kind.TooLarge) = ap judged (long_journal text h) in cc
long_has false text f h e = let long : script_of text ≡ Err (fault_at 1 kind.TooLarge) = long_script text h in cc

-- all that is too long has the same faults
pub long_picture : (schedule : Schedule) (call : Option ℕ) (text input : List ℕ) (fault : DrawFault) → is_too_long text ≡ true → is_too_long input ≡ true → IsFaultOfPicture schedule call text fault → IsFaultOfPicture schedule call input fault
long_picture schedule call text input (Run (run.Input f)) long too is = long_has (is_journal input) input f too (long_fault (is_journal text) text f long is)
long_picture schedule call text input (Run run.Read) long too is = absurd is
long_picture schedule call text input (Run run.Write) long too is = absurd is
long_picture schedule call text input (Run run.OutOfMemory) long too is = tt
long_picture schedule call text input (Run run.Full) long too is = absurd is
long_picture schedule call text input (Run (run.UnderWay c)) long too is = known_stop (Some input) text text schedule (run.UnderWay c) refl (inr (long, too)) is
long_picture schedule call text input (NoCall number) long too is = is

-- and none of them is of a device
pub no_device : (schedule : Schedule) (call : Option ℕ) (text : List ℕ) (fault : DrawFault) → IsFaultOfPicture schedule call text fault → IsNoDevice (wrapped Run) fault
no_device schedule call text fault is = record { read = λ e. subst (IsFaultOfPicture schedule call text) e is; write = λ e. subst (IsFaultOfPicture schedule call text) e is }

-- nor is want of memory
pub no_memory : (fault : DrawFault) → wrapped Run run.OutOfMemory fault → IsNoDevice (wrapped Run) fault
no_memory = memory_of Run (λ a b same. cc)

pub picture_honest : (schedule : Schedule) (call : Option ℕ) → IsHonest (MakesPicture schedule call) (wrapped Run)
picture_honest schedule call = record {
  short = λ text made is. drawn_short (is_journal text) schedule text made.end is.picture.0;
  long = λ text input fault long too is. record { picture = tt; fault = long_picture schedule call text input fault long too is.fault };
  unblamed = λ text fault is. no_device schedule call text fault is.fault;
  memory = no_memory;
}
