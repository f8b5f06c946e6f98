-- Why nothing is said of drawn runs or of lines, and the status after it.
use Rattle.std.specs.Prelude.{ℕ, List, Option}
use Rattle.fs_sched.specs.declared.policy.Policy.{Policy}
use Rattle.fs_verdict.specs.declared.fault.RunFault.{RunFault}
use Rattle.fs_verdict.specs.declared.fault.RunFault.TheVariants.{Input, Read, Write, OutOfMemory, Full, UnderWay}
use Rattle.fs_sched_start.specs.Faults.{status_of_start}
use Rattle.fs_sched_start.specs.Starts.{IsFaultOfRunsAt}
use Rattle.fs_sched_outcomes.specs.Asserts.{LacksCalls}
use Rattle.fs_sched_outcomes.specs.declared.assertion.Assertion.{Assertion}
use Rattle.fs_sched_outcomes.specs.declared.fault.OutcomesFault.{OutcomesFault}
use Rattle.fs_sched_outcomes.specs.declared.fault.OutcomesFault.TheVariants.{Start, NoCall}

-- a call that is not there is a bad word of the command line
abbrev pub status_of_outcomes_fault : OutcomesFault → ℕ
status_of_outcomes_fault (Start f) = status_of_start f
status_of_outcomes_fault NoCall = 2

-- the fault of the runs, or a call that an assertion names and the script lacks
abbrev pub IsFaultOfAssertedAt : List Assertion → Option (List ℕ) → Policy → ℕ → ℕ → List ℕ → OutcomesFault → Type 0
IsFaultOfAssertedAt asserts tree by seed runs input (Start f) = IsFaultOfRunsAt tree by seed runs input f
IsFaultOfAssertedAt asserts tree by seed runs input NoCall = LacksCalls asserts input

-- the fault of a text that has another line, or out of memory
abbrev pub IsBadLine : RunFault → Type 0
IsBadLine (Input f) = Unit {0}
IsBadLine Read = ⊥
IsBadLine Write = ⊥
IsBadLine OutOfMemory = Unit {0}
IsBadLine Full = ⊥
IsBadLine (UnderWay c) = ⊥
