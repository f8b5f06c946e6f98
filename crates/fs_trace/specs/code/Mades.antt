-- What is made of the text of an input, before it is written.
use Rattle.std.specs.Prelude.{ℕ, ◌≡◌, true, List}
use Rattle.fs_verdict.specs.declared.fault.RunFault.TheVariants.{OutOfMemory}
use Rattle.fs_sched_witness.specs.declared.moments.Moment.{Moment}
use Rattle.fs_words.specs.Headers.{is_too_long}
use Rattle.fs_sched.specs.declared.schedule.Schedule.{Schedule}
use Rattle.fs_sched.specs.code.Done.{IsStopOn}
use Rattle.fs_sched.specs.declared.origin.Origin.{Origin}
use Rattle.fs_script.specs.declared.script.Script.{Script}
use Rattle.fs_trace.specs.Faults.{HasNoRoomOn}
use Rattle.fs_trace.specs.Traces.{IsScheduleText}
use Rattle.fs_trace.specs.declared.fault.ScheduleFault.{ScheduleFault}
use Rattle.fs_trace.specs.declared.fault.ScheduleFault.TheVariants.{Run, TooManyEvents, TooLong}

-- why there is no script with the moments of a run from there as its words: there is no run, or no room
abbrev pub IsFaultOfScheduleOn : Origin → Schedule → Script → List ℕ → ScheduleFault → Type 0
IsFaultOfScheduleOn from schedule script input (Run fault) = IsStopOn from schedule script fault
IsFaultOfScheduleOn from schedule script input TooManyEvents = HasNoRoomOn from schedule script input TooManyEvents
IsFaultOfScheduleOn from schedule script input TooLong = HasNoRoomOn from schedule script input TooLong

-- why a script's text with the moments of a run as its words is not handed out: it is too long, or out of memory
abbrev pub IsNotHandedOut : List ℕ → List (List ℕ) → List Moment → ScheduleFault → Type 0
IsNotHandedOut input names ms (Run OutOfMemory) = Unit {0}
IsNotHandedOut input names ms (Run fault) = ⊥
IsNotHandedOut input names ms TooManyEvents = ⊥
IsNotHandedOut input names ms TooLong = (text : List ℕ) × IsScheduleText input names ms text × (is_too_long text ≡ true)
