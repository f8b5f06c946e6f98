-- The first drawn run that has something.
use Rattle.std.specs.Prelude.{ℕ, ◌≡◌, ◌+◌, ◌≤◌, ◌<◌, Bool, true, false, not, List, [], Ok, Option, Some, None}
use Rattle.fs_script.specs.Script.{script_of}
use Rattle.fs_script.specs.declared.script.Script.{Script}
use Rattle.fs_sched.specs.Origins.{TellsOn}
use Rattle.fs_sched.specs.Runs.{Stage}
use Rattle.fs_sched.specs.Schedules.{schedule_by}
use Rattle.fs_sched.specs.declared.origin.Origin.{Origin}
use Rattle.fs_sched.specs.declared.policy.Campaign.{Campaign}
use Rattle.fs_sched.specs.declared.policy.Policy.{Policy}
use Rattle.fs_sched.specs.declared.schedule.Schedule.{Schedule}
use Rattle.fs_sched_start.specs.Starts.{ArePlanned}
use Rattle.fs_trace.specs.Traces.{IsScheduleOn, IsReadBackOn}
use Rattle.fs_sched_witness.specs.declared.moments.Moment.{Moment}
use Rattle.fs_sched_find.specs.Lives.{lived}
use Rattle.fs_sched_find.specs.What.{Has, names_calls}
use Rattle.fs_sched_find.specs.declared.what.Clause.{Clause}

-- the machine has a run of a script by a schedule from there, and that has what is said, or has not
abbrev pub RunHasOn : Origin → Schedule → Script → List (List Clause) → Bool → Type 0
RunHasOn at schedule script what b = (ms : List Moment) × (last : Stage) × TellsOn at schedule script ms last × Has script.names (lived ms) last.state.graph what b

-- the same of the run that is drawn from a number
abbrev pub DrawnHas : Campaign → ℕ → Script → List (List Clause) → Bool → Type 0
DrawnHas drawn n script what b = RunHasOn drawn.from (schedule_by drawn.by n) script what b

-- of the runs that are drawn from a number, the next one, and so on, the one drawn from n is as wanted, and none before it: it has what is said, or it has it not
pub record IsFirstOn (drawn : Campaign) (wanted : Bool) (script : Script) (what : List (List Clause)) (seed runs n : ℕ) : Type 0 where
  pub from : seed ≤ n
  pub below : n < seed + runs
  pub has : DrawnHas drawn n script what wanted
  pub before : (k : ℕ) → seed ≤ k → k < n → DrawnHas drawn k script what (not wanted)

-- the first of so many runs that is as wanted, if one is
abbrev pub IsFoundOn : Campaign → Bool → Script → List (List Clause) → ℕ → ℕ → Option ℕ → Type 0
IsFoundOn drawn wanted script what seed runs (Some n) = IsFirstOn drawn wanted script what seed runs n
IsFoundOn drawn wanted script what seed runs None = (k : ℕ) → seed ≤ k → k < seed + runs → DrawnHas drawn k script what (not wanted)

-- what is written of a script that an input has: the script with the run that was found as its words, which is read back so; else nothing
abbrev pub IsWrittenOn : Campaign → Script → List ℕ → Option ℕ → List ℕ → Type 0
IsWrittenOn drawn script input (Some n) text = IsScheduleOn drawn.from (schedule_by drawn.by n) script input text × IsReadBackOn drawn.from (schedule_by drawn.by n) script text
IsWrittenOn drawn script input None text = text ≡ []

-- the script that an input has names the calls, this is the first seed of its runs by the text of a tree, if there is one, and by a policy; and this is written
abbrev pub IsSearchAt : Option (List ℕ) → Policy → List (List Clause) → ℕ → ℕ → List ℕ → Option ℕ → List ℕ → Type 0
IsSearchAt tree by what seed runs input found text =
    (script : Script) × (drawn : Campaign) × ArePlanned tree by input script drawn × (names_calls script what ≡ true) × IsFoundOn drawn true script what seed runs found × IsWrittenOn drawn script input found text

-- the script that an input has lacks a call that is named
abbrev pub LacksCall : List (List Clause) → List ℕ → Type 0
LacksCall what input = (script : Script) × (script_of input ≡ Ok script) × (names_calls script what ≡ false)
