-- Runs of scripts from a tree, by the limits of the script.
use Rattle.std.specs.Prelude.{ℕ, ◌≡◌, List, Option, Some, None, Ok, Err}
use Rattle.fs_names.specs.declared.limits.Limits.{Limits}
use Rattle.fs_calls.specs.Starts.{Start}
use Rattle.fs_timeline.specs.declared.entry.Entry.{Entry}
use Rattle.fs_linearizable.specs.Linearizable.{history, IsLinearizable}
use Rattle.fs_script.specs.Journals.{start_of}
use Rattle.fs_script.specs.Script.{script_of}
use Rattle.fs_script.specs.declared.script.Script.{Script}
use Rattle.fs_sched.specs.EachRun.{IsReadAgain}
use Rattle.fs_sched.specs.RunTexts.{IsRunText}
use Rattle.fs_sched.specs.Origins.{LacksRun}
pub use Rattle.fs_sched.specs.Origins.{IsBefore, RunsAt, StopsAtSome}
use Rattle.fs_sched.specs.Runs.{Stage, AreOfRun}
use Rattle.fs_sched.specs.Seeds.{AreLawfulOn}
use Rattle.fs_sched.specs.declared.origin.Origin.{Origin}
use Rattle.fs_sched.specs.declared.origin.Origin.TheVariants as origin
use Rattle.fs_sched.specs.declared.policy.Campaign.{Campaign}
use Rattle.fs_sched.specs.declared.policy.Policy.{Policy}
use Rattle.fs_sched.specs.declared.running.RunEnd.{RunEnd}
use Rattle.fs_sched.specs.declared.schedule.Schedule.{Schedule}
use Rattle.fs_verdict.specs.declared.fault.RunFault.{RunFault}
use Rattle.fs_verdict.specs.declared.fault.RunFault.TheVariants as run
use Rattle.fs_sched_start.specs.Faults.{IsTreeFault}
use Rattle.fs_sched_start.specs.declared.fault.StartFault.{StartFault}
use Rattle.fs_sched_start.specs.declared.fault.StartFault.TheVariants.{Run, Tree}

-- an input has this script, and a text this tree by the script's limits
abbrev pub AreGiven : List ℕ → List ℕ → Script → Start → Type 0
AreGiven tree input script start = (script_of input ≡ Ok script) × (start_of script.limits tree ≡ Ok start)

-- the numbers and the text of a run of that script from that tree
abbrev pub IsRunAt : Schedule → List ℕ → List ℕ → RunEnd → List ℕ → Type 0
IsRunAt schedule tree input end text = (script : Script) × (start : Start) × AreGiven tree input script start × (told : List Entry) × (last : Stage) × RunsAt schedule script start told last × AreOfRun script told last end text

-- and of every one
abbrev pub AreOfEachRunAt : Schedule → List ℕ → List ℕ → RunEnd → List ℕ → Type 0
AreOfEachRunAt schedule tree input end text = (script : Script) (start : Start) (told : List Entry) (last : Stage) → AreGiven tree input script start → RunsAt schedule script start told last → AreOfRun script told last end text

-- there is a run from the tree, and these are the numbers and the text of every one
pub record AreOfTheRunAt (schedule : Schedule) (tree : List ℕ) (input : List ℕ) (end : RunEnd) (text : List ℕ) : Type 0 where
  pub some : IsRunAt schedule tree input end text
  pub each : AreOfEachRunAt schedule tree input end text

-- the text is that of a run of the script that an input has from the tree that a text has, and the history in it is linearizable from the start tree in it
abbrev pub IsLinearizableRunAt : Schedule → List ℕ → List ℕ → List ℕ → Type 0
IsLinearizableRunAt schedule tree input text =
    (script : Script) × (start : Start) × AreGiven tree input script start × (told : List Entry) × (last : Stage) × RunsAt schedule script start told last × IsRunText last.state.start last.state.timeline last.state.graph text
    × IsLinearizable last.state.start (history last.state.timeline)

-- written as a journal that keeps the limit of texts, what a run from the tree leaves is read again as it is
abbrev pub EachIsReadAgainAt : Schedule → List ℕ → List ℕ → Type 0
EachIsReadAgainAt schedule tree input = (script : Script) (start : Start) (told : List Entry) (last : Stage) → AreGiven tree input script start → RunsAt schedule script start told last → IsReadAgain last.state.start last.state.timeline

-- the run of the script from the tree comes to a stop
abbrev pub ReachesStopAt : Schedule → List ℕ → List ℕ → RunFault → Type 0
ReachesStopAt schedule tree input f = (script : Script) × (start : Start) × AreGiven tree input script start × StopsAtSome schedule script start f

-- the script that an input has is there, and its limits leave the text without a tree
abbrev pub HasTreeFault : List ℕ → List ℕ → StartFault → Type 0
HasTreeFault tree input (Tree f) = (script : Script) × (script_of input ≡ Ok script) × IsTreeFault script.limits tree f
HasTreeFault tree input (Run f) = ⊥

-- why there is no run: the input's fault, the tree's, out of memory, or a stop to which the run comes
abbrev pub IsFaultAt : Schedule → List ℕ → List ℕ → StartFault → Type 0
IsFaultAt schedule tree input (Run (run.Input f)) = script_of input ≡ Err f
IsFaultAt schedule tree input (Run run.Read) = ⊥
IsFaultAt schedule tree input (Run run.Write) = ⊥
IsFaultAt schedule tree input (Run run.OutOfMemory) = Unit {0}
IsFaultAt schedule tree input (Run run.Full) = ReachesStopAt schedule tree input run.Full
IsFaultAt schedule tree input (Run (run.UnderWay c)) = ReachesStopAt schedule tree input (run.UnderWay c)
IsFaultAt schedule tree input (Tree f) = HasTreeFault tree input (Tree f)

-- ---- runs that are drawn

-- where runs begin by these limits: at the root alone, or at the tree that a text has
abbrev pub BeginsAt : Limits → Option (List ℕ) → Origin → Type 0
BeginsAt limits None from = from ≡ origin.Root
BeginsAt limits (Some tree) from = (start : Start) × (start_of limits tree ≡ Ok start) × (from ≡ origin.Tree start)

-- an input has this script, and this is the campaign of its runs by the text of a tree, if there is one, and by a policy
abbrev pub ArePlanned : Option (List ℕ) → Policy → List ℕ → Script → Campaign → Type 0
ArePlanned tree by input script drawn = (script_of input ≡ Ok script) × BeginsAt script.limits tree drawn.from × (drawn.by ≡ by)

-- the same of one whose text leaves no tree
abbrev pub HasTreeFaultAt : Option (List ℕ) → List ℕ → StartFault → Type 0
HasTreeFaultAt None input f = ⊥
HasTreeFaultAt (Some tree) input f = HasTreeFault tree input f

-- so many runs of the script are drawn, each is lawful, and the text says so
abbrev pub AreRunsAt : Option (List ℕ) → Policy → ℕ → ℕ → List ℕ → List ℕ → Type 0
AreRunsAt tree by seed runs input text = (script : Script) × (drawn : Campaign) × ArePlanned tree by input script drawn × AreLawfulOn drawn script seed runs text

-- one of these runs comes to a begin that finds all numbers in use; from the root alone none does
abbrev pub SomeFillsAt : Option (List ℕ) → Policy → ℕ → ℕ → List ℕ → Type 0
SomeFillsAt None by seed runs input = ⊥
SomeFillsAt (Some tree) by seed runs input = (script : Script) × (drawn : Campaign) × ArePlanned (Some tree) by input script drawn × LacksRun drawn script seed runs run.Full

-- why there are none: the input's fault, the tree's, out of memory, or too few numbers
abbrev pub IsFaultOfRunsAt : Option (List ℕ) → Policy → ℕ → ℕ → List ℕ → StartFault → Type 0
IsFaultOfRunsAt tree by seed runs input (Run (run.Input f)) = script_of input ≡ Err f
IsFaultOfRunsAt tree by seed runs input (Run run.Read) = ⊥
IsFaultOfRunsAt tree by seed runs input (Run run.Write) = ⊥
IsFaultOfRunsAt tree by seed runs input (Run run.OutOfMemory) = Unit {0}
IsFaultOfRunsAt tree by seed runs input (Run run.Full) = SomeFillsAt tree by seed runs input
IsFaultOfRunsAt tree by seed runs input (Run (run.UnderWay c)) = ⊥
IsFaultOfRunsAt tree by seed runs input (Tree f) = HasTreeFaultAt tree input (Tree f)
