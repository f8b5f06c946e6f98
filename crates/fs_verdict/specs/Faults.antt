-- The fault of a run whose input has a fault, that between a reader and a writer, and the status after a fault.
use Rattle.std.specs.Prelude.{ℕ, ◌≡◌}
use Rattle.fs_words.specs.declared.fault.ScriptFault.{ScriptFault}
use Rattle.fs_words.specs.declared.fault.FaultKind.{FaultKind}
use Rattle.fs_words.specs.declared.fault.FaultKind.TheVariants as kind
use Rattle.fs_verdict.specs.declared.failure.Failure.{Failure}
use Rattle.fs_verdict.specs.declared.failure.Failure.TheVariants as failure
use Rattle.fs_verdict.specs.declared.fault.RunFault.{RunFault}
use Rattle.fs_verdict.specs.declared.fault.RunFault.TheVariants.{Input, Read, Write, OutOfMemory, Full, UnderWay}

-- out of memory is no fault of the input
abbrev pub by_kind : ScriptFault → FaultKind → RunFault
by_kind f kind.OutOfMemory = OutOfMemory
by_kind f k = Input f

-- the fault of a run whose input has this fault
abbrev pub run_fault_of : ScriptFault → RunFault
run_fault_of f = by_kind f f.kind

-- the fault between a reader and a writer, of a kind that each fault of a run gives one of
abbrev pub IsBetween : {E : Type 0} → (RunFault → E → Type 0) → Failure E → E → Type 0
IsBetween gives failure.Read fault = gives Read fault
IsBetween gives failure.Write fault = gives Write fault
IsBetween gives failure.OutOfMemory fault = gives OutOfMemory fault
IsBetween gives (failure.Unmade f) fault = fault ≡ f

-- a checkpoint while calls are under way is 1, bad input 3, no memory or no node number 4, a device that failed 5
abbrev pub status_of_fault : RunFault → ℕ
status_of_fault (Input f) = 3
status_of_fault Read = 5
status_of_fault Write = 5
status_of_fault OutOfMemory = 4
status_of_fault Full = 4
status_of_fault (UnderWay c) = 1
