-- What is made of a run that was told.
use Rattle.std.proofs.Common.{◌≡◌, ℕ, Bool, List, [], sym, subst}
use Rattle.fs_core.specs.CoreValues.{state_of}
use Rattle.fs_machine.specs.States.{State}
use Rattle.fs_script.specs.Script.{script_of}
use Rattle.fs_script.specs.declared.script.Script.{Script}
use Rattle.std.specs.Prelude.{Ok}
use Rattle.fs_sched.specs.Watching.{Watches}
use Rattle.fs_sched.specs.Origins.{TellsOn}
use Rattle.fs_sched.specs.Runs.{Stage}
use Rattle.fs_sched.specs.code.Done.{IsStopOn}
use Rattle.fs_sched.specs.declared.origin.Origin.{Origin}
use Rattle.fs_sched.specs.declared.origin.Origin.TheVariants.{Root, Tree}
use Rattle.fs_sched.specs.declared.schedule.Schedule.{Schedule}
use Rattle.fs_sched.specs.declared.watching.Ran.{Ran}
use Rattle.fs_trace_story.specs.code.Waiting.{GoesOn, HasShown}
use Rattle.fs_trace_story.specs.declared.story.Teller.{Teller}
use Rattle.fs_sched.proofs.Reasons.{of_stop}
use Rattle.fs_trace.specs.Faults.{IsFaultOfSchedule}
use Rattle.fs_trace_story.specs.Shown.{Saying}
use Rattle.fs_trace.specs.Objects.{AreObjectsOf, IsObjectText}
use Rattle.fs_trace.specs.Traces.{IsTraceOf, IsTraceText}
use Rattle.fs_trace.specs.code.LineTexts.{HasLines}
use Rattle.fs_trace.specs.code.Mades.{IsFaultOfScheduleOn, IsNotHandedOut}
use Rattle.fs_trace.specs.code.ObjectTexts.{HasObjects}
use Rattle.fs_trace.specs.declared.fault.ScheduleFault.{ScheduleFault}
use Rattle.fs_trace.specs.declared.fault.ScheduleFault.TheVariants.{Run, TooManyEvents, TooLong}
use Rattle.fs_trace.specs.declared.objects.TraceObjects.{TraceObjects}
use Rattle.fs_trace.specs.declared.trace_text.TraceLines.{TraceLines}
use Rattle.fs_verdict.specs.declared.fault.RunFault.TheVariants as run
use Rattle.fs_sched_witness.specs.declared.moments.Moment.{Moment}

-- what a teller has shown of a run is what the run's moments are
pub told_all : {P : Type 0} (has : P → P → List Saying → Type 0) (every : Bool) (schedule : Schedule) (script : Script) (start : P) (old new : Teller P) (ran : Ran) → HasShown has every start old []
    → (w : Watches (λ (first : Teller P) teller ms. GoesOn has first teller ms) schedule script old ran new) → HasShown has every start new w.moments
told_all has every schedule script start old new ran none w = w.hears old [] (λ e s begins. begins) every start none

-- its trace is one of the script that was read
pub trace_made : (schedule : Schedule) (every : Bool) (text made : List ℕ) (script : Script) (old new : Teller TraceLines) (ran : Ran) → script_of text ≡ Ok script
    → (w : Watches (λ (first : Teller TraceLines) teller ms. GoesOn HasLines first teller ms) schedule script old ran new) → IsTraceText every script.names w.moments (state_of ran.core) made → IsTraceOf schedule every text ran.end made
trace_made schedule every text made script old new ran is w trace = (
  script,
  is,
  w.moments,
  w.last,
  w.tells,
  w.end,
  subst (λ (s : State). IsTraceText every script.names w.moments s made) (sym w.core) trace,
)

-- and so are its objects
pub objects_made : (schedule : Schedule) (every : Bool) (text made : List ℕ) (script : Script) (old new : Teller TraceObjects) (ran : Ran) → script_of text ≡ Ok script
    → (w : Watches (λ (first : Teller TraceObjects) teller ms. GoesOn HasObjects first teller ms) schedule script old ran new) → IsObjectText every script.names w.moments (state_of ran.core) made → AreObjectsOf schedule every text ran.end made
objects_made schedule every text made script old new ran is w objects = (
  script,
  is,
  w.moments,
  w.last,
  w.tells,
  w.end,
  subst (λ (s : State). IsObjectText every script.names w.moments s made) (sym w.core) objects,
)

no_memory : (from : Origin) (schedule : Schedule) (script : Script) → IsStopOn from schedule script run.OutOfMemory
no_memory Root schedule script = tt
no_memory (Tree tree) schedule script = tt

-- a script that was not handed out, with the moments of a run as its words
pub not_made : (from : Origin) (schedule : Schedule) (input : List ℕ) (script : Script) (ms : List Moment) (last : Stage) (fault : ScheduleFault) → TellsOn from schedule script ms last → IsNotHandedOut input script.names ms fault → IsFaultOfScheduleOn from schedule script input fault
not_made from schedule input script ms last (Run (run.Input f)) tells none = absurd none
not_made from schedule input script ms last (Run run.Read) tells none = absurd none
not_made from schedule input script ms last (Run run.Write) tells none = absurd none
not_made from schedule input script ms last (Run run.OutOfMemory) tells none = no_memory from schedule script
not_made from schedule input script ms last (Run run.Full) tells none = absurd none
not_made from schedule input script ms last (Run (run.UnderWay c)) tells none = absurd none
not_made from schedule input script ms last TooManyEvents tells none = absurd none
not_made from schedule input script ms last TooLong tells (text, written, long) = (text, (ms, last, tells, written), long)

-- from the root alone a fault is that of the script which an input has
pub of_root : (schedule : Schedule) (input : List ℕ) (script : Script) (fault : ScheduleFault) → script_of input ≡ Ok script → IsFaultOfScheduleOn Root schedule script input fault → IsFaultOfSchedule schedule input fault
of_root schedule input script (Run fault) is stop = of_stop schedule input script fault is stop
of_root schedule input script TooManyEvents is many = (script, is, many)
of_root schedule input script TooLong is (text, written, long) = (text, (script, is, written), long)
