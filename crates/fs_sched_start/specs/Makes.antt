-- What is made of the texts of a script and of a tree, and answered.
use Rattle.std.specs.Prelude.{◌≡◌, ◌≢◌, ℕ, Bool, true, List, Option, Result, IfOk, OnOk, IfErr}
use Rattle.fs_verdict.specs.declared.shell.Made.{Made}
use Rattle.fs_sched.specs.Runs.{IsWhole, HasFinish}
use Rattle.fs_sched.specs.declared.policy.Policy.{Policy}
use Rattle.fs_sched.specs.declared.running.RunEnd.{RunEnd}
use Rattle.fs_sched.specs.declared.schedule.Schedule.{Schedule}
use Rattle.fs_sched.specs.declared.schedule.Schedule.TheVariants.{Given}
use Rattle.fs_sched_start.specs.Starts.{AreOfTheRunAt, AreRunsAt, IsLinearizableRunAt, EachIsReadAgainAt, IsFaultAt, IsFaultOfRunsAt}
use Rattle.fs_sched_start.specs.declared.fault.StartFault.{StartFault}

-- the text of a run from a tree, and how it ended; or why there is none
pub record MakesRunAt (schedule : Schedule) (tree input : List ℕ) (result : Result (Made RunEnd) StartFault) : Type 0 where
  -- it is the text of every run of the script from the tree, of which there is one, whatever numbers the nodes of the tree get
  pub ran : IfOk result (λ made. AreOfTheRunAt schedule tree input made.end made.text.items)
  -- the history that is written is linearizable, in the words of Herlihy and Wing
  pub linearizable : IfOk result (λ made. IsLinearizableRunAt schedule tree input made.text.items)
  -- cut before its tree, a text within the limit of texts is read again as the start tree and the entries of its piece
  pub again : OnOk result (EachIsReadAgainAt schedule tree input)
  -- if rounds to the end follow, by the schedule or by the last word, each call of the script began, took its place and returned
  pub whole : IfOk result (λ made. schedule ≢ Given → IsWhole made.end)
  pub finish : IfOk result (λ made. HasFinish input → IsWhole made.end)
  -- why there is none: a fault of the script; one of the tree, which is read by the limits of the script; or a stop to which the run comes
  -- it stops if a call begins when all numbers are in use, by the nodes of the tree among them, or at a checkpoint while calls are under way
  pub fault : IfErr result (IsFaultAt schedule tree input)

-- the lines of drawn runs, and whether each is lawful; or why there are none
pub record MakesRunsAt (tree : Option (List ℕ)) (by : Policy) (seed runs : ℕ) (input : List ℕ) (result : Result (Made Bool) StartFault) : Type 0 where
  -- so many runs are drawn from the number on, each is lawful, and the lines say so
  pub ran : IfOk result (λ made. AreRunsAt tree by seed runs input made.text.items)
  pub lawful : IfOk result (λ made. made.end ≡ true)
  -- why there are none: a fault of the script, one of the tree, or a call of one of the runs that begins when all numbers are in use
  -- from the root alone the last two never come
  pub fault : IfErr result (IsFaultOfRunsAt tree by seed runs input)
