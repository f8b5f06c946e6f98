-- The faults of pictures.
use Rattle.std.specs.Prelude.{ℕ, ◌≡◌, Bool, true, false, List, Option, Some, Err}
use Rattle.fs_sched.specs.Checks.{verdict_of}
use Rattle.fs_sched.specs.Faults.{status_of_fault}
use Rattle.fs_sched.specs.declared.schedule.Schedule.{Schedule}
use Rattle.fs_sched.specs.Runs.{ReachesStop}
use Rattle.fs_words.specs.declared.fault.ScriptFault.{ScriptFault}
use Rattle.fs_verdict.specs.declared.fault.RunFault.{RunFault}
use Rattle.fs_verdict.specs.declared.fault.RunFault.TheVariants as run
use Rattle.fs_script.specs.Script.{script_of}
use Rattle.fs_verdict.specs.Checks.{is_journal}
use Rattle.fs_draw.specs.declared.fault.DrawFault.{DrawFault}
use Rattle.fs_draw.specs.declared.fault.DrawFault.TheVariants.{Run, NoCall}

-- the status after a fault: that of the run, and 2 where no call has the number
abbrev pub status_of_draw : DrawFault → ℕ
status_of_draw (Run fault) = status_of_fault fault
status_of_draw (NoCall number) = 2

-- the fault that memory ran out
abbrev pub out_of_memory : DrawFault
out_of_memory = Run run.OutOfMemory

-- what is wrong with an input: as a journal, or as a script
abbrev pub HasFaultAs : Bool → List ℕ → ScriptFault → Type 0
HasFaultAs true input f = verdict_of input ≡ Err f
HasFaultAs false input f = script_of input ≡ Err f

-- what is wrong with an input: as a journal, where it has the first bytes of one, and else as a script
abbrev pub HasFault : List ℕ → ScriptFault → Type 0
HasFault input f = HasFaultAs (is_journal input) input f

-- why nothing of an input is drawn: what is wrong with it, out of memory, or a checkpoint to which its script comes while calls are under way
abbrev pub IsFaultAs : Bool → Schedule → List ℕ → RunFault → Type 0
IsFaultAs journal schedule input (run.Input f) = HasFaultAs journal input f
IsFaultAs journal schedule input run.Read = ⊥
IsFaultAs journal schedule input run.Write = ⊥
IsFaultAs journal schedule input run.OutOfMemory = Unit {0}
IsFaultAs journal schedule input run.Full = ⊥
IsFaultAs journal schedule input (run.UnderWay c) = ReachesStop schedule input (run.UnderWay c)

-- the fault of a picture: why nothing of the input is drawn, or that no call has the number that is asked for
abbrev pub IsFaultBy : Bool → Schedule → Option ℕ → List ℕ → DrawFault → Type 0
IsFaultBy journal schedule call input (Run fault) = IsFaultAs journal schedule input fault
IsFaultBy journal schedule call input (NoCall number) = call ≡ Some number

-- the same of an input that is a journal or a script by its first bytes
abbrev pub IsFaultOfPicture : Schedule → Option ℕ → List ℕ → DrawFault → Type 0
IsFaultOfPicture schedule call input fault = IsFaultBy (is_journal input) schedule call input fault
