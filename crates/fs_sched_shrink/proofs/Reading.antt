-- Why a script is not shrunk, by its texts.
use Rattle.std.proofs.Common.{◌≡◌, ℕ, List, Option, Some, None, Ok, subst}
use Rattle.fs_script.specs.Script.{script_of}
use Rattle.fs_script.specs.declared.script.Script.{Script}
use Rattle.fs_sched.specs.code.Done.{IsStopOn}
use Rattle.fs_sched.specs.code.Stages.{IsWhy}
use Rattle.fs_sched.specs.Origins.{StopsAtSome}
use Rattle.fs_sched.specs.declared.origin.Origin.{Origin}
use Rattle.fs_sched.specs.declared.schedule.Schedule.TheVariants.{Given}
use Rattle.fs_sched.proofs.Reasons.{of_stop}
use Rattle.fs_calls.specs.Starts.{Start}
use Rattle.fs_verdict.specs.declared.fault.RunFault.{RunFault}
use Rattle.fs_verdict.specs.declared.fault.RunFault.TheVariants as run
use Rattle.fs_sched_start.specs.Starts.{AreGiven, BeginsAt, IsFaultAt}
use Rattle.fs_sched_start.specs.code.Mades.{IsFaultOfPlanned}
use Rattle.fs_sched_start.specs.declared.fault.StartFault.{StartFault}
use Rattle.fs_sched_start.specs.declared.fault.StartFault.TheVariants.{Run, Tree}
use Rattle.fs_sched_shrink.specs.Faults.{IsFaultOfOwn}

-- there is no script, or no tree
root_unread : (input : List ℕ) (fault : StartFault) → IsFaultOfPlanned None input fault → IsFaultOfOwn None input fault
root_unread input (Run (run.Input f)) is = is
root_unread input (Run run.Read) is = is
root_unread input (Run run.Write) is = is
root_unread input (Run run.OutOfMemory) is = tt
root_unread input (Run run.Full) is = is
root_unread input (Run (run.UnderWay c)) is = absurd is
root_unread input (Tree f) is = is

tree_unread : (tree input : List ℕ) (fault : StartFault) → IsFaultOfPlanned (Some tree) input fault → IsFaultOfOwn (Some tree) input fault
tree_unread tree input (Run (run.Input f)) is = is
tree_unread tree input (Run run.Read) is = is
tree_unread tree input (Run run.Write) is = is
tree_unread tree input (Run run.OutOfMemory) is = tt
tree_unread tree input (Run run.Full) is = absurd is
tree_unread tree input (Run (run.UnderWay c)) is = absurd is
tree_unread tree input (Tree f) is = is

pub of_unread : (tree : Option (List ℕ)) (input : List ℕ) (fault : StartFault) → IsFaultOfPlanned tree input fault → IsFaultOfOwn tree input fault
of_unread None input fault is = root_unread input fault is
of_unread (Some tree) input fault is = tree_unread tree input fault is

-- the script's own run stops
tree_stops : (tree input : List ℕ) (script : Script) (start : Start) (fault : RunFault) → AreGiven tree input script start → IsWhy (StopsAtSome Given script start) fault → IsFaultAt Given tree input (Run fault)
tree_stops tree input script start (run.Input f) given why = absurd why
tree_stops tree input script start run.Read given why = absurd why
tree_stops tree input script start run.Write given why = absurd why
tree_stops tree input script start run.OutOfMemory given why = tt
tree_stops tree input script start run.Full given why = (script, start, given, why)
tree_stops tree input script start (run.UnderWay c) given why = (script, start, given, why)

pub of_unshrunk : (tree : Option (List ℕ)) (input : List ℕ) (script : Script) (from : Origin) (fault : RunFault) → script_of input ≡ Ok script → BeginsAt script.limits tree from → IsStopOn from Given script fault → IsFaultOfOwn tree input (Run fault)
of_unshrunk None input script from fault is begins stop = of_stop Given input script fault is (subst (λ (at : Origin). IsStopOn at Given script fault) begins stop)
of_unshrunk (Some tree) input script from fault is (start, at, begins) stop = tree_stops tree input script start fault (is, at) (subst (λ (at : Origin). IsStopOn at Given script fault) begins stop)
