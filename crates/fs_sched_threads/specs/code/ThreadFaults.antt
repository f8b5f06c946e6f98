-- How lists of calls on threads fail, whatever the script was, and what is made of a script's text.
use Rattle.std.specs.Prelude.{◌≡◌, ℕ, Bool, List, true, Result, IfOk, IfErr}
use Rattle.fs_verdict.specs.declared.shell.Made.{Made}
use Rattle.fs_script.specs.Script.{script_of}
use Rattle.fs_sched.specs.code.Stages.{IsRefusal}
use Rattle.fs_sched_threads.specs.Faults.{IsOfInput}
use Rattle.fs_sched_threads.specs.Lines.{IsTextOf}
use Rattle.fs_sched_threads.specs.declared.fault.ThreadsFault.{ThreadsFault}
use Rattle.fs_sched_threads.specs.declared.fault.ThreadsFault.TheVariants.{Run, Lists}

-- a call's refusal, or a worker's
abbrev pub IsOfThreads : ThreadsFault → Type 0
IsOfThreads (Run fault) = IsRefusal fault
IsOfThreads (Lists fault) = Unit {0}

-- what is written of the script that a text has, whose timeline is lawful; or why nothing is
pub record MakesText (journal : Bool) (text : List ℕ) (result : Result (Made Bool) ThreadsFault) : Type 0 where
  pub written : IfOk result (λ made. IsTextOf journal text made.text.items)
  pub lawful : IfOk result (λ made. made.end ≡ true)
  pub fault : IfErr result (IsOfInput (script_of text))
