-- Why the run that was found is not written.
use Rattle.std.specs.Prelude.{ℕ, List, Option, Some, None}
use Rattle.fs_script.specs.declared.script.Script.{Script}
use Rattle.fs_sched.specs.Schedules.{schedule_by}
use Rattle.fs_sched.specs.declared.policy.Campaign.{Campaign}
use Rattle.fs_trace.specs.code.Mades.{IsFaultOfScheduleOn}
use Rattle.fs_trace.specs.declared.fault.ScheduleFault.{ScheduleFault}

-- why the script with the run that was found as its words is not written; where none is found there is no reason
abbrev pub IsNotWrittenOn : Campaign → Script → List ℕ → Option ℕ → ScheduleFault → Type 0
IsNotWrittenOn drawn script input (Some n) fault = IsFaultOfScheduleOn drawn.from (schedule_by drawn.by n) script input fault
IsNotWrittenOn drawn script input None fault = ⊥
