-- The faults of scripts on threads.
use Rattle.std.specs.Prelude.{Result}
use Rattle.fs_machine.specs.declared.answers.Refusal.TheVariants as refusal
use Rattle.fs_words.specs.declared.fault.ScriptFault.{ScriptFault}
use Rattle.fs_sched.specs.Devices.{IsFaultOrRefusal}
use Rattle.fs_verdict.specs.declared.fault.RunFault.TheVariants as run
use Rattle.fs_share.specs.declared.lists.ListsFault.{ListsFault}
use Rattle.fs_share.specs.declared.lists.ListsFault.TheVariants.{NoWorker, Refused}
use Rattle.fs_sched_threads.specs.declared.fault.ThreadsFault.{ThreadsFault}
use Rattle.fs_sched_threads.specs.declared.fault.ThreadsFault.TheVariants.{Run, Lists}

-- out of memory or of node numbers is that of a run
abbrev pub threads_fault_of : ListsFault → ThreadsFault
threads_fault_of NoWorker = Lists NoWorker
threads_fault_of (Refused refusal.OutOfMemory) = Run run.OutOfMemory
threads_fault_of (Refused refusal.Full) = Run run.Full
threads_fault_of (Refused refusal.SeatBusy) = Lists (Refused refusal.SeatBusy)

-- a fault of the input, or one that is neither the reader's nor the writer's
abbrev pub IsOfInput : {X : Type 0} → Result X ScriptFault → ThreadsFault → Type 0
IsOfInput given (Run fault) = IsFaultOrRefusal given fault
IsOfInput given (Lists fault) = Unit {0}
