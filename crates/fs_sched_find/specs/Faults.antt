-- Why nothing was searched, or found.
use Rattle.std.specs.Prelude.{ℕ, true, List, Option}
use Rattle.fs_script.specs.declared.script.Script.{Script}
use Rattle.fs_sched.specs.Schedules.{schedule_by}
use Rattle.fs_sched.specs.declared.policy.Campaign.{Campaign}
use Rattle.fs_sched.specs.declared.policy.Policy.{Policy}
use Rattle.fs_sched_start.specs.Faults.{status_of_start}
use Rattle.fs_sched_start.specs.Starts.{ArePlanned, IsFaultOfRunsAt}
use Rattle.fs_sched_start.specs.declared.fault.StartFault.TheVariants.{Run as OfRun}
use Rattle.fs_trace.specs.Faults.{status_of_schedule, HasNoRoomOn}
use Rattle.fs_trace.specs.declared.fault.ScheduleFault.{ScheduleFault}
use Rattle.fs_trace.specs.declared.fault.ScheduleFault.TheVariants.{Run, TooManyEvents, TooLong}
use Rattle.fs_sched_find.specs.Finds.{IsFirstOn, LacksCall}
use Rattle.fs_sched_find.specs.declared.fault.FindFault.{FindFault}
use Rattle.fs_sched_find.specs.declared.fault.FindFault.TheVariants as find
use Rattle.fs_sched_find.specs.declared.what.Clause.{Clause}

-- that of drawn runs, or of a schedule that is written; a call that is not there is a bad word of the command line
abbrev pub status_of_find : FindFault → ℕ
status_of_find (find.Start fault) = status_of_start fault
status_of_find find.TooManyEvents = status_of_schedule TooManyEvents
status_of_find find.TooLong = status_of_schedule TooLong
status_of_find find.NoCall = 2

-- the fault of a search whose run is not written
abbrev pub find_fault_of : ScheduleFault → FindFault
find_fault_of (Run fault) = find.Start (OfRun fault)
find_fault_of TooManyEvents = find.TooManyEvents
find_fault_of TooLong = find.TooLong

-- there is a first run that has what is said, and the script has no room for its events
abbrev pub LacksRoomAt : Option (List ℕ) → Policy → List (List Clause) → ℕ → ℕ → List ℕ → ScheduleFault → Type 0
LacksRoomAt tree by what seed runs input fault =
    (script : Script) × (drawn : Campaign) × ArePlanned tree by input script drawn × (n : ℕ) × IsFirstOn drawn true script what seed runs n × HasNoRoomOn drawn.from (schedule_by drawn.by n) script input fault

-- why nothing is written of a search: the fault of the runs, no room, or a call that the script lacks
abbrev pub IsFaultOfSearchAt : Option (List ℕ) → Policy → List (List Clause) → ℕ → ℕ → List ℕ → FindFault → Type 0
IsFaultOfSearchAt tree by what seed runs input (find.Start fault) = IsFaultOfRunsAt tree by seed runs input fault
IsFaultOfSearchAt tree by what seed runs input find.TooManyEvents = LacksRoomAt tree by what seed runs input TooManyEvents
IsFaultOfSearchAt tree by what seed runs input find.TooLong = LacksRoomAt tree by what seed runs input TooLong
IsFaultOfSearchAt tree by what seed runs input find.NoCall = LacksCall what input
