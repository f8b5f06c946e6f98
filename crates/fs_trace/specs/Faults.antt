-- The faults of schedules that are written.
use Rattle.std.specs.Prelude.{ℕ, ◌≡◌, ◌<◌, true, List, Ok}
use Rattle.fs_script.specs.Limits.{events_in}
use Rattle.fs_script.specs.Script.{script_of}
use Rattle.fs_script.specs.declared.limits.TheConstants.{EVENT_LIMIT}
use Rattle.fs_script.specs.declared.script.Script.{Script}
use Rattle.fs_sched.specs.Faults.{status_of_fault}
use Rattle.fs_sched.specs.Origins.{TellsOn}
use Rattle.fs_sched.specs.declared.origin.Origin.{Origin}
use Rattle.fs_sched.specs.declared.origin.Origin.TheVariants.{Root}
use Rattle.fs_sched.specs.declared.schedule.Schedule.{Schedule}
use Rattle.fs_sched.specs.Runs.{Stage, IsFaultOfRun}
use Rattle.fs_sched_witness.specs.declared.moments.Moment.{Moment}
use Rattle.fs_words.specs.Headers.{is_too_long}
use Rattle.fs_trace.specs.Traces.{busy_words, IsScheduleOf, IsScheduleOn}
use Rattle.fs_trace.specs.declared.fault.ScheduleFault.{ScheduleFault}
use Rattle.fs_trace.specs.declared.fault.ScheduleFault.TheVariants.{Run, TooManyEvents, TooLong}

-- the status after a fault: that of the run, 4 where a script has no room for the events
abbrev pub status_of_schedule : ScheduleFault → ℕ
status_of_schedule (Run fault) = status_of_fault fault
status_of_schedule TooManyEvents = 4
status_of_schedule TooLong = 4

-- a run of a script from there takes more events than a script may give, idle turns not counted
abbrev pub HasTooManyEventsOn : Origin → Schedule → Script → Type 0
HasTooManyEventsOn from schedule script = (ms : List Moment) × (last : Stage) × TellsOn from schedule script ms last × (EVENT_LIMIT < events_in (busy_words ms))

-- the same of the script that an input has, from the root alone
abbrev pub HasTooManyEvents : Schedule → List ℕ → Type 0
HasTooManyEvents schedule input = (script : Script) × (script_of input ≡ Ok script) × HasTooManyEventsOn Root schedule script

-- with the moments of a run from there as its words the script that an input has is longer than a text may be
abbrev pub IsTooLongWrittenOn : Origin → Schedule → Script → List ℕ → Type 0
IsTooLongWrittenOn from schedule script input = (text : List ℕ) × IsScheduleOn from schedule script input text × (is_too_long text ≡ true)

-- the same from the root alone
abbrev pub IsTooLongWritten : Schedule → List ℕ → Type 0
IsTooLongWritten schedule input = (text : List ℕ) × IsScheduleOf schedule input text × (is_too_long text ≡ true)

-- the fault of a schedule that is written: why the run is not recorded, or no room for its events
abbrev pub IsFaultOfSchedule : Schedule → List ℕ → ScheduleFault → Type 0
IsFaultOfSchedule schedule input (Run fault) = IsFaultOfRun schedule input fault
IsFaultOfSchedule schedule input TooManyEvents = HasTooManyEvents schedule input
IsFaultOfSchedule schedule input TooLong = IsTooLongWritten schedule input

-- a script that an input has has no room for its run from there: for the events, or for the bytes of these as words
abbrev pub HasNoRoomOn : Origin → Schedule → Script → List ℕ → ScheduleFault → Type 0
HasNoRoomOn from schedule script input (Run fault) = ⊥
HasNoRoomOn from schedule script input TooManyEvents = HasTooManyEventsOn from schedule script
HasNoRoomOn from schedule script input TooLong = IsTooLongWrittenOn from schedule script input
