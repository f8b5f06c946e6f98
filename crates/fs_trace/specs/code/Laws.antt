-- A script is honestly written again with the moments of its run as its words.
use Rattle.std.proofs.Common.{◌≡◌, ℕ, List, Ok, true, false, inr, refl, sym, ◌∙◌, subst}
use Rattle.fs_words.specs.Headers.{is_too_long}
use Rattle.fs_script.specs.Script.{script_of}
use Rattle.fs_script.specs.declared.script.Script.{Script}
use Rattle.fs_verdict.specs.Commands.{IsHonest, wrapped}
use Rattle.fs_verdict.specs.code.CommandLaws.{memory_of}
use Rattle.fs_verdict.specs.declared.fault.RunFault.{RunFault}
use Rattle.fs_verdict.specs.declared.fault.RunFault.TheVariants as run
use Rattle.fs_sched.specs.Runs.{IsFaultOfRun}
use Rattle.fs_sched.specs.declared.schedule.Schedule.{Schedule}
use Rattle.fs_sched.proofs.RunLemmas.{script_same, script_short}
use Rattle.fs_trace.specs.Faults.{IsFaultOfSchedule}
use Rattle.fs_trace.specs.Makes.{MakesSchedule}
use Rattle.fs_trace.specs.declared.fault.ScheduleFault.{ScheduleFault}
use Rattle.fs_trace.specs.declared.fault.ScheduleFault.TheVariants.{Run, TooManyEvents, TooLong}

-- what is too long has no script
no_script : (text : List ℕ) (script : Script) → is_too_long text ≡ true → script_of text ≡ Ok script → ⊥
no_script text script long is = let both : true ≡ false = sym long ∙ script_short text text script refl is in absurd (cc)

-- so its run has the same fault as that of every other such text
long_run : (schedule : Schedule) (text input : List ℕ) (fault : RunFault) → is_too_long text ≡ true → is_too_long input ≡ true → IsFaultOfRun schedule text fault → IsFaultOfRun schedule input fault
long_run schedule text input (run.Input f) long too is = sym (script_same text input (inr (long, too))) ∙ is
long_run schedule text input run.Read long too is = is
long_run schedule text input run.Write long too is = is
long_run schedule text input run.OutOfMemory long too is = is
long_run schedule text input run.Full long too is = is
long_run schedule text input (run.UnderWay call) long too is = absurd (no_script text is.0 long is.1)

long_schedule : (schedule : Schedule) (text input : List ℕ) (fault : ScheduleFault) → is_too_long text ≡ true → is_too_long input ≡ true → IsFaultOfSchedule schedule text fault → IsFaultOfSchedule schedule input fault
long_schedule schedule text input (Run fault) long too is = long_run schedule text input fault long too is
long_schedule schedule text input TooManyEvents long too is = absurd (no_script text is.0 long is.1)
long_schedule schedule text input TooLong long too is = absurd (no_script text is.1.0 long is.1.1)

pub schedule_honest : (schedule : Schedule) → IsHonest (MakesSchedule schedule) (wrapped Run)
schedule_honest schedule = record {
  short = λ text made is. script_short text text is.script.0 refl is.script.1;
  long = λ text input fault long too is. record { script = tt; again = tt; fault = long_schedule schedule text input fault long too is.fault };
  unblamed = λ text fault is. record { read = λ e. subst (IsFaultOfSchedule schedule text) e is.fault; write = λ e. subst (IsFaultOfSchedule schedule text) e is.fault };
  memory = memory_of Run (λ a b same. cc);
}
