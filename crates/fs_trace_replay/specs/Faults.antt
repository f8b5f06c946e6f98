-- The status after a fault.
use Rattle.std.specs.Prelude.{ℕ}
use Rattle.fs_sched.specs.Faults.{status_of_fault}
use Rattle.fs_trace_replay.specs.declared.fault.ReplayFault.{ReplayFault}
use Rattle.fs_trace_replay.specs.declared.fault.ReplayFault.TheVariants.{Run, NoCommit, NoCall, BadCall, BadPath}

-- that of the run, and 2 where what is asked for is not there, or a word is none
abbrev pub status_of_replay : ReplayFault → ℕ
status_of_replay (Run fault) = status_of_fault fault
status_of_replay (NoCommit n) = 2
status_of_replay NoCall = 2
status_of_replay BadCall = 2
status_of_replay (BadPath kind) = 2
