-- What is made of the text of a journal, and answered.
use Rattle.std.specs.Prelude.{◌≡◌, true, [], Result, Ok, IfOk, IfErr}
use Rattle.fs_timeline.specs.declared.verdict.Verdict.{Verdict}
use Rattle.fs_verdict.specs.declared.shell.Made.{Made}
use Rattle.fs_words.specs.declared.fault.ScriptFault.{ScriptFault}
use Rattle.fs_verdict.specs.Checks.{is_lawful, verdict_line}
use Rattle.fs_verdict.specs.InputFaults.{IsFaultOf}
use Rattle.fs_verdict.specs.declared.checking.Checked.{Checked}
use Rattle.fs_verdict.specs.declared.fault.RunFault.{RunFault}

-- a verdict, whether it is lawful, and of a lawful one nothing is wrong
pub record IsAnswer (v : Verdict) (checked : Checked) : Type 0 where
  pub verdict : checked.verdict ≡ v
  pub lawful : checked.lawful ≡ is_lawful v
  pub quiet : checked.lawful ≡ true → checked.reason.items ≡ []

-- the line of a verdict, and what is answered of it
pub record IsJudged (v : Verdict) (made : Made Checked) : Type 0 where
  pub end : IsAnswer v made.end
  pub text : made.text.items ≡ verdict_line v

-- the line of the verdict that a journal is given; or why it is given none
pub record MakesVerdict (given : Result Verdict ScriptFault) (result : Result (Made Checked) RunFault) : Type 0 where
  pub ok : IfOk result (λ made. (v : Verdict) × (given ≡ Ok v) × IsJudged v made)
  pub fault : IfErr result (IsFaultOf given)
