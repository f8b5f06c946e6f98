-- Where a run stands that the code does.
use Rattle.std.specs.Prelude.{ℕ, ◌≡◌, ◌<◌, true, false, List, length, get_or}
use Rattle.fs_calls.specs.declared.call.Call.{Call}
use Rattle.fs_core.specs.CoreValues.{state_of}
use Rattle.fs_core.specs.declared.checkpoint.NoCheckpoint.{NoCheckpoint}
use Rattle.fs_core.specs.declared.checkpoint.NoCheckpoint.TheVariants as why
use Rattle.fs_sched.specs.Runs.{Stage, has_more}
use Rattle.fs_sched.specs.declared.play.Play.{Play}
use Rattle.fs_verdict.specs.declared.fault.RunFault.{RunFault}
use Rattle.fs_verdict.specs.declared.fault.RunFault.TheVariants.{Input, Read, Write, OutOfMemory, Full, UnderWay}

-- the core's state, and how many calls of each thread have begun
abbrev pub stage_of : Play → Stage
stage_of play = record { state = state_of play.core; begun = play.begun.items }

-- each thread has a seat and a number
pub record IsSeated (play : Play) (threads : ℕ) : Type 0 where
  pub seats : length play.core.seats ≡ threads
  pub begun : length play.begun.items ≡ threads

-- each thread has a mark too, and those that are marked have nothing left to do
pub record IsMarked (lists : List (List Call)) (play : Play) : Type 0 where
  pub seated : IsSeated play (length lists)
  pub marks : length play.over.items ≡ length lists
  pub over : (seat : ℕ) → get_or play.over.items seat false ≡ true → has_more lists (stage_of play) seat ≡ false

-- the threads before this one have nothing left to do
abbrev pub AreOver : List (List Call) → Stage → ℕ → Type 0
AreOver lists s from = (seat : ℕ) → seat < from → has_more lists s seat ≡ false

-- what a call's refusal gives
abbrev pub IsRefusal : RunFault → Type 0
IsRefusal (Input f) = ⊥
IsRefusal Read = ⊥
IsRefusal Write = ⊥
IsRefusal OutOfMemory = Unit {0}
IsRefusal Full = Unit {0}
IsRefusal (UnderWay c) = ⊥

-- out of memory, or what stops a run
abbrev pub IsWhy : (RunFault → Type 0) → RunFault → Type 0
IsWhy stops Full = stops Full
IsWhy stops (UnderWay c) = stops (UnderWay c)
IsWhy stops f = IsRefusal f

-- what a checkpoint's refusal gives
abbrev pub fault_of_checkpoint : NoCheckpoint → RunFault
fault_of_checkpoint (why.UnderWay c) = UnderWay c
fault_of_checkpoint why.OutOfMemory = OutOfMemory
