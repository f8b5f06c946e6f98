-- Where runs of a script begin.
use Rattle.std.specs.Prelude.{ℕ, ◌≡◌, ◌+◌, ◌≤◌, ◌<◌, List, length}
use Rattle.fs_names.specs.Limits.{node_limit}
use Rattle.fs_names.specs.declared.limits.Limits.{Limits}
use Rattle.fs_calls.specs.Starts.{Start, root_start}
use Rattle.fs_nodes.specs.Graphs.{Graph}
use Rattle.fs_timeline.specs.declared.entry.Entry.{Entry}
use Rattle.fs_machine.specs.States.{IsStart, fresh}
use Rattle.fs_seq.specs.Rows.{IsWithinLimits}
use Rattle.fs_script.specs.declared.script.Script.{Script}
use Rattle.fs_sched_witness.specs.declared.moments.Moment.{Moment}
use Rattle.fs_sched.specs.Moments.{TellsFrom, TellsRun}
use Rattle.fs_sched.specs.Runs.{Stage, before_all, start, Runs, RunsFrom, StopsFrom}
use Rattle.fs_sched.specs.declared.origin.Origin.{Origin}
use Rattle.fs_sched.specs.declared.origin.Origin.TheVariants.{Root, Tree}
use Rattle.fs_sched.specs.declared.policy.Campaign.{Campaign}
use Rattle.fs_sched.specs.declared.policy.Policy.TheVariants.{Uniform}
use Rattle.fs_sched.specs.declared.schedule.Schedule.{Schedule}
use Rattle.fs_sched.specs.Schedules.{schedule_by}
use Rattle.fs_verdict.specs.declared.fault.RunFault.{RunFault}
use Rattle.fs_verdict.specs.declared.fault.RunFault.TheVariants as fault

-- before the first event of so many threads at a tree: nothing has begun, some nodes spell it, and there are as many numbers as its limits have
abbrev pub IsBefore : Start → ℕ → Stage → Type 0
IsBefore tree threads first = (graph : Graph) × IsStart (node_limit tree.limits) tree graph × (first ≡ before_all (fresh (node_limit tree.limits) tree graph) threads)

-- a run of a script by a schedule from a tree to its last stage, and the entries of the pieces before the last one
abbrev pub RunsAt : Schedule → Script → Start → List Entry → Stage → Type 0
RunsAt schedule script tree told last = (first : Stage) × IsBefore tree (length script.lists) first × RunsFrom schedule script first told last

-- a run from a tree stops by a fault
abbrev pub StopsAtSome : Schedule → Script → Start → RunFault → Type 0
StopsAtSome schedule script tree f = (first : Stage) × IsBefore tree (length script.lists) first × StopsFrom schedule script first f

-- a tree at which runs by these limits can begin: it keeps them, and there is a number for each of its nodes
pub record Fits (limits : Limits) (tree : Start) : Type 0 where
  pub kept : tree.limits ≡ limits
  pub within : IsWithinLimits tree.limits tree.tree
  pub nodes : length tree.tree ≤ node_limit tree.limits

-- runs by these limits can begin there; at the root alone they always can
abbrev pub CanBegin : Origin → Limits → Type 0
CanBegin Root limits = Unit {0}
CanBegin (Tree tree) limits = Fits limits tree

-- the tree there
abbrev pub tree_at : Origin → Limits → Start
tree_at Root limits = root_start limits
tree_at (Tree tree) limits = tree

-- before the first event of a script's threads there
abbrev pub IsFirst : Origin → Script → Stage → Type 0
IsFirst Root script first = first ≡ start script.limits (length script.lists)
IsFirst (Tree tree) script first = IsBefore tree (length script.lists) first

-- a run of a script by a schedule from there
abbrev pub RunsOn : Origin → Schedule → Script → List Entry → Stage → Type 0
RunsOn Root schedule script told last = Runs schedule script told last
RunsOn (Tree tree) schedule script told last = RunsAt schedule script tree told last

-- what the moments of one are
abbrev pub TellsOn : Origin → Schedule → Script → List Moment → Stage → Type 0
TellsOn Root schedule script ms last = TellsRun schedule script ms last
TellsOn (Tree tree) schedule script ms last = (first : Stage) × IsBefore tree (length script.lists) first × TellsFrom schedule script first ms last

-- ---- runs that are drawn

-- from the root alone, each event of any thread
abbrev pub from_root : Campaign
from_root = record { from = Root; by = Uniform }

-- the run that is drawn from a number
abbrev pub DrawnOn : Campaign → ℕ → Script → List Entry → Stage → Type 0
DrawnOn drawn n script told last = RunsOn drawn.from (schedule_by drawn.by n) script told last

-- the tree's nodes leave too few numbers, and a call begins when all are in use; at the root alone there are always enough
abbrev pub FillsBy : Origin → Schedule → Script → Type 0
FillsBy Root schedule script = ⊥
FillsBy (Tree tree) schedule script = StopsAtSome schedule script tree fault.Full

-- why there is no run in one piece: out of memory, or too few numbers
abbrev pub HasNoRunBy : Origin → Schedule → Script → RunFault → Type 0
HasNoRunBy from schedule script fault.OutOfMemory = Unit {0}
HasNoRunBy from schedule script fault.Full = FillsBy from schedule script
HasNoRunBy from schedule script f = ⊥

-- why there is none that is drawn from a number
abbrev pub HasNoRun : Campaign → Script → ℕ → RunFault → Type 0
HasNoRun drawn script n f = HasNoRunBy drawn.from (schedule_by drawn.by n) script f

-- and why one of so many is missing
abbrev pub LacksRun : Campaign → Script → ℕ → ℕ → RunFault → Type 0
LacksRun drawn script seed runs fault.OutOfMemory = Unit {0}
LacksRun drawn script seed runs f = (n : ℕ) × (seed ≤ n) × (n < seed + runs) × HasNoRun drawn script n f
