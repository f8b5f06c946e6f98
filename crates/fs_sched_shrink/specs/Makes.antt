-- What is made of the texts of a script and of a tree, and answered.
use Rattle.std.specs.Prelude.{ℕ, List, Option, Result, IfOk, IfErr}
use Rattle.fs_verdict.specs.declared.shell.Made.{Made}
use Rattle.fs_sched_find.specs.declared.what.Clause.{Clause}
use Rattle.fs_sched_shrink.specs.Faults.{IsFaultOfShrink}
use Rattle.fs_sched_shrink.specs.Shrinks.{IsShrinkingAt}
use Rattle.fs_sched_shrink.specs.declared.fault.ShrinkFault.{ShrinkFault}
use Rattle.fs_sched_shrink.specs.declared.shrinking.Shrunk.{Shrunk}

-- the smallest script that has what is said, and what is answered of it; or why there is none
pub record MakesShrinking (tree : Option (List ℕ)) (what : List (List Clause)) (input : List ℕ) (result : Result (Made (Option Shrunk)) ShrinkFault) : Type 0 where
  -- the text is read back as the script with those of its calls and words that stay, and its run has what is said; or the run of the script has it not
  pub shrunk : IfOk result (λ made. IsShrinkingAt tree what input made.end made.text.items)
  -- why there is none: a fault of the script, one of the tree, or a stop of the script's own run; from the root alone it stops at a checkpoint while calls are under way, and there is no fault of a tree
  -- or a call that is named is not in the script; or what stays is longer than a text may be
  pub fault : IfErr result (IsFaultOfShrink tree what input)
