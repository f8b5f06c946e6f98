-- What a run did, and how many entries the pieces had that ended on the way.
use Rattle.std.specs.Prelude.{List, ◌++◌}
use Rattle.fs_script.specs.declared.script.Script.{Script}
use Rattle.fs_timeline.specs.declared.entry.Entry.{Entry}
use Rattle.fs_sched.specs.Runs.{Stage, RunsFrom, StopsBy}
use Rattle.fs_sched.specs.code.Counts.{AreCapped}
use Rattle.fs_sched.specs.code.Stages.{stage_of, IsWhy}
use Rattle.fs_sched.specs.Origins.{StopsAtSome}
use Rattle.fs_sched.specs.declared.origin.Origin.{Origin}
use Rattle.fs_sched.specs.declared.origin.Origin.TheVariants.{Root, Tree}
use Rattle.fs_verdict.specs.declared.fault.RunFault.{RunFault}
use Rattle.fs_verdict.specs.declared.fault.RunFault.TheVariants.{OutOfMemory, UnderWay}
use Rattle.fs_sched.specs.declared.pieces.Pieces.{Pieces}
use Rattle.fs_sched.specs.declared.schedule.Schedule.{Schedule}

-- it came to where it stands with these entries told, and they are counted
pub record HasDone (did : List Entry → Stage → Type 0) (old new : Pieces) : Type 0 where
  pub told : List Entry
  pub came : did told (stage_of new.play)
  pub counted : (before : List Entry) → AreCapped old.told before → AreCapped new.told (before ++ told)

-- a run of a script from a stage on, with the entries of the pieces before its last one counted
pub record IsRun (schedule : Schedule) (script : Script) (old : Stage) (run : Pieces) : Type 0 where
  pub told : List Entry
  pub runs : RunsFrom schedule script old told (stage_of run.play)
  pub counted : AreCapped run.told told

-- why there is no run: out of memory, or a checkpoint while calls are under way
abbrev pub IsStop : Schedule → Script → RunFault → Type 0
IsStop schedule script OutOfMemory = Unit {0}
IsStop schedule script (UnderWay c) = StopsBy schedule script (UnderWay c)
IsStop schedule script f = ⊥

-- the same where it begins there; from a tree it can also be a begin when all numbers are in use
abbrev pub IsStopOn : Origin → Schedule → Script → RunFault → Type 0
IsStopOn Root schedule script f = IsStop schedule script f
IsStopOn (Tree tree) schedule script f = IsWhy (StopsAtSome schedule script tree) f
