-- What is made of the text of a script.
use Rattle.std.specs.Prelude.{ℕ, List, Result, IfOk, IfErr}
use Rattle.fs_verdict.specs.declared.shell.Made.{Made}
use Rattle.fs_sched.specs.declared.schedule.Schedule.{Schedule}
use Rattle.fs_trace.specs.Faults.{IsFaultOfSchedule}
use Rattle.fs_trace.specs.Traces.{IsReadBack, IsScheduleOf}
use Rattle.fs_trace.specs.declared.fault.ScheduleFault.{ScheduleFault}

-- the script that an input has, with the moments of a run of it as its words; or why there is none
pub record MakesSchedule (schedule : Schedule) (input : List ℕ) (result : Result (Made (Unit {0})) ScheduleFault) : Type 0 where
  -- it is a beginning of the input byte for byte, and behind that words that give the moments of a run by this schedule
  pub script : IfOk result (λ made. IsScheduleOf schedule input made.text.items)
  -- it is read back as that script with these words, and its run by them has the very text of that run
  pub again : IfOk result (λ made. IsReadBack schedule input made.text.items)
  -- the input is no script, its run has no end, or a script has no room for the run: too many events, or too many bytes
  pub fault : IfErr result (IsFaultOfSchedule schedule input)
