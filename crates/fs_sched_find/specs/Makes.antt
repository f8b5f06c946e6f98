-- What is made of the text of a script, and answered.
use Rattle.std.specs.Prelude.{ℕ, ◌≡◌, List, Option, None, Result, IfOk, IfErr, IfSome}
use Rattle.fs_verdict.specs.declared.shell.Made.{Made}
use Rattle.fs_sched.specs.Schedules.{schedule_by}
use Rattle.fs_sched.specs.declared.policy.Policy.{Policy}
use Rattle.fs_trace.specs.Traces.{IsReadBack}
use Rattle.fs_sched_find.specs.Faults.{IsFaultOfSearchAt}
use Rattle.fs_sched_find.specs.Finds.{IsSearchAt}
use Rattle.fs_sched_find.specs.declared.fault.FindFault.{FindFault}
use Rattle.fs_sched_find.specs.declared.what.Clause.{Clause}

-- the script with the first run that has what is said, and the number from which that is drawn; or why there is none
pub record MakesFound (tree : Option (List ℕ)) (by : Policy) (what : List (List Clause)) (seed runs : ℕ) (input : List ℕ) (result : Result (Made (Option ℕ)) FindFault) : Type 0 where
  -- the number is the first whose run has what is said, and the text is that run's script; or none has it
  pub found : IfOk result (λ made. IsSearchAt tree by what seed runs input made.end made.text.items)
  -- from the root alone that script has the very text of that run
  pub again : tree ≡ None → IfOk result (λ made. IfSome made.end (λ n. IsReadBack (schedule_by by n) input made.text.items))
  -- why there is none: a fault of the script, one of the tree, or a call of one of the runs that begins when all numbers are in use; from the root alone the last two never come
  -- or a call that is named is not in the script; or a script has no room for the run that was found, for its events or for the bytes of these as words
  pub fault : IfErr result (IsFaultOfSearchAt tree by what seed runs input)
