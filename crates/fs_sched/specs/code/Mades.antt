-- What is made of the text of a script, before it is written.
use Rattle.std.specs.Prelude.{◌≡◌, ℕ, Bool, List, true, Result, Ok, IfOk, OnOk, IfErr}
use Rattle.fs_verdict.specs.declared.shell.Made.{Made}
use Rattle.fs_script.specs.Script.{script_of}
use Rattle.fs_script.specs.declared.script.Script.{Script}
use Rattle.fs_sched.specs.Devices.{IsFaultOf}
use Rattle.fs_sched.specs.EachRun.{EachIsReadAgain}
use Rattle.fs_sched.specs.Runs.{IsRunOf, IsFaultOfRun}
use Rattle.fs_sched.specs.Seeds.{AreRunsOf}
use Rattle.fs_verdict.specs.declared.fault.RunFault.{RunFault}
use Rattle.fs_sched.specs.declared.running.RunEnd.{RunEnd}
use Rattle.fs_sched.specs.declared.schedule.Schedule.{Schedule}

-- a script was read from a text
abbrev pub IsRead : Script → Type 0
IsRead script = (input : List ℕ) × (script_of input ≡ Ok script)

-- the text of a run, and how it ended; or why there is none
pub record MakesRun (schedule : Schedule) (input : List ℕ) (result : Result (Made RunEnd) RunFault) : Type 0 where
  pub output : IfOk result (λ made. IsRunOf schedule input made.end made.text.items)
  pub again : OnOk result (EachIsReadAgain schedule input)
  pub fault : IfErr result (IsFaultOfRun schedule input)

-- the lines of drawn runs, each of which is lawful; or why there are none
pub record MakesRuns (seed : ℕ) (runs : ℕ) (input : List ℕ) (result : Result (Made Bool) RunFault) : Type 0 where
  pub ok : IfOk result (λ made. AreRunsOf seed runs input made.text.items)
  pub lawful : IfOk result (λ made. made.end ≡ true)
  pub fault : IfErr result (IsFaultOf (script_of input))
