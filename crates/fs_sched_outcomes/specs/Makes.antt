-- What is made of the texts of a script and of a tree, or of lines of ends, and answered.
use Rattle.std.specs.Prelude.{ℕ, ◌≡◌, false, List, Option, Result, IfOk, OnOk, IfErr}
use Rattle.fs_words.specs.Headers.{is_too_long}
use Rattle.fs_verdict.specs.declared.shell.Made.{Made}
use Rattle.fs_verdict.specs.declared.fault.RunFault.{RunFault}
use Rattle.fs_sched.specs.declared.policy.Policy.{Policy}
use Rattle.fs_sched_outcomes.specs.Added.{AreAdded}
use Rattle.fs_sched_outcomes.specs.Asserts.{AreAssertedAt, IsSeenAt}
use Rattle.fs_sched_outcomes.specs.Faults.{IsBadLine, IsFaultOfAssertedAt}
use Rattle.fs_sched_outcomes.specs.declared.asserting.Counted.{Counted}
use Rattle.fs_sched_outcomes.specs.declared.assertion.Assertion.{Assertion}
use Rattle.fs_sched_outcomes.specs.declared.fault.OutcomesFault.{OutcomesFault}
use Rattle.fs_sched_outcomes.specs.declared.lines.Form.{Form}

-- the lines of the ends of drawn runs, and the first runs that decide what is asserted; or why there are none
pub record MakesCounted (asserts : List Assertion) (tree : Option (List ℕ)) (by : Policy) (seed runs : ℕ) (form : Form) (input : List ℕ) (result : Result (Made Counted) OutcomesFault) : Type 0 where
  -- each number is that of the first run which decides its assertion, or no run does; and there is a line for each end of all these runs
  -- each line is of the run of its number, the counts add up to the number of runs, each run's end has a line, no end has two, and they are in order
  -- as objects of JSON, the last one says how much was seen
  pub asserted : IfOk result (λ made. AreAssertedAt asserts tree by seed runs form input made.end.decided.items made.end.seen made.text.items)
  -- how much was seen is counted by those lines, and by the timelines of the runs: for how many pairs of calls both were pending at once in one of them
  pub seen : IfOk result (λ made. IsSeenAt tree by seed runs input made.end.seen)
  -- why there are none: a fault of the script, one of the tree, or a call of one of the runs that begins when all numbers are in use; from the root alone the last two never come
  -- or a call that an assertion names is not in the script
  pub fault : IfErr result (IsFaultOfAssertedAt asserts tree by seed runs input)

-- the lines that add up those of a text; or why there are none
pub record MakesSum (form : Form) (input : List ℕ) (result : Result (Made (Unit {0})) RunFault) : Type 0 where
  -- each line is one of a row, byte for byte, and there is a line for each end of these, with the sum of how often they came and the least of their numbers
  pub added : IfOk result (λ made. AreAdded form input made.text.items)
  -- no text that is too long is added up
  pub short : OnOk result (is_too_long input ≡ false)
  -- why there are none: a line is of no row, or they are too many or too long; no stop of a run is among the faults
  pub fault : IfErr result IsBadLine
