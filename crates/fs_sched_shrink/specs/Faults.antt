-- Why a script is not shrunk, and the status after it.
use Rattle.std.specs.Prelude.{ℕ, List, Option, Some, None}
use Rattle.fs_sched.specs.Runs.{IsFaultOfRun}
use Rattle.fs_sched.specs.declared.schedule.Schedule.TheVariants.{Given}
use Rattle.fs_sched_start.specs.Faults.{status_of_start}
use Rattle.fs_sched_start.specs.Starts.{IsFaultAt}
use Rattle.fs_sched_start.specs.declared.fault.StartFault.{StartFault}
use Rattle.fs_sched_start.specs.declared.fault.StartFault.TheVariants.{Run, Tree}
use Rattle.fs_trace.specs.Faults.{status_of_schedule}
use Rattle.fs_trace.specs.declared.fault.ScheduleFault.TheVariants as schedule
use Rattle.fs_sched_find.specs.Faults.{status_of_find}
use Rattle.fs_sched_find.specs.Finds.{LacksCall}
use Rattle.fs_sched_find.specs.declared.fault.FindFault.TheVariants as find
use Rattle.fs_sched_find.specs.declared.what.Clause.{Clause}
use Rattle.fs_sched_shrink.specs.declared.fault.ShrinkFault.{ShrinkFault}
use Rattle.fs_sched_shrink.specs.declared.fault.ShrinkFault.TheVariants.{Start, TooLong, NoCall}

-- that of the run, of a script that has no room, or of a call that is not there
abbrev pub status_of_shrink : ShrinkFault → ℕ
status_of_shrink (Start f) = status_of_start f
status_of_shrink TooLong = status_of_schedule schedule.TooLong
status_of_shrink NoCall = status_of_find find.NoCall

-- why the script that an input has does not run by its own words: from the root alone, where it has a fault or comes to a checkpoint while calls are under way; or from the tree that a text has
abbrev pub IsFaultOfOwn : Option (List ℕ) → List ℕ → StartFault → Type 0
IsFaultOfOwn None input (Run fault) = IsFaultOfRun Given input fault
IsFaultOfOwn None input (Tree f) = ⊥
IsFaultOfOwn (Some tree) input fault = IsFaultAt Given tree input fault

-- why nothing is made of it: it does not run, what stays would be longer than a text may be, or a call that is named is not there
abbrev pub IsFaultOfShrink : Option (List ℕ) → List (List Clause) → List ℕ → ShrinkFault → Type 0
IsFaultOfShrink tree what input (Start fault) = IsFaultOfOwn tree input fault
IsFaultOfShrink tree what input TooLong = Unit {0}
IsFaultOfShrink tree what input NoCall = LacksCall what input
