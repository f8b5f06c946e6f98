-- What holds of runs from a tree: laws, each proved as the contract of a function of the module `laws`.
use Rattle.std.specs.Prelude.{ℕ, ◌≡◌, List, Ok}
use Rattle.fs_names.specs.declared.limits.Limits.{Limits}
use Rattle.fs_calls.specs.Starts.{Start}
use Rattle.fs_nodes.specs.Graphs.{Graph}
use Rattle.fs_timeline.specs.declared.entry.Entry.{Entry}
use Rattle.fs_machine.specs.States.{IsStart, fresh}
use Rattle.fs_laws.specs.Renamings.{Alike}
use Rattle.fs_script.specs.Journals.{start_of}
use Rattle.fs_script.specs.declared.script.Script.{Script}
use Rattle.fs_sched.specs.EachRun.{HasShortNames}
use Rattle.fs_sched.specs.Laws.{AreOneRun}
use Rattle.fs_sched.specs.Runs.{Stage}
use Rattle.fs_sched.specs.declared.schedule.Schedule.{Schedule}
use Rattle.fs_sched_start.specs.Starts.{RunsAt}

-- two states that begin at one tree are one, but for the numbers of nodes
abbrev pub StartsAreAlike : Type 0
StartsAreAlike = (limit : ℕ) (start : Start) (g h : Graph) → IsStart limit start g → IsStart limit start h → Alike (fresh limit start g) (fresh limit start h)

-- so two runs of one script by one schedule from one tree have one timeline, and spell one tree
abbrev pub OneRunFrom : Type 0
OneRunFrom = (schedule : Schedule) (script : Script) (start : Start) (told other : List Entry) (a b : Stage) → RunsAt schedule script start told a → RunsAt schedule script start other b → AreOneRun told other a b

-- a tree that is read has the limits by which it is read, and its names keep them
abbrev pub StartsKeepLimits : Type 0
StartsKeepLimits = (limits : Limits) (text : List ℕ) (start : Start) → start_of limits text ≡ Ok start → (start.limits ≡ limits) × HasShortNames limits start.tree
