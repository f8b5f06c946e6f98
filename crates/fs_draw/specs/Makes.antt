-- What is made of the text of an input: its picture, and whether what it shows went well.
use Rattle.std.specs.Prelude.{ℕ, Bool, List, Option, Result, IfOk, IfErr}
use Rattle.fs_verdict.specs.declared.shell.Made.{Made}
use Rattle.fs_sched.specs.declared.schedule.Schedule.{Schedule}
use Rattle.fs_draw.specs.Faults.{IsFaultOfPicture}
use Rattle.fs_draw.specs.Pictures.{IsPictureOf}
use Rattle.fs_draw.specs.declared.fault.DrawFault.{DrawFault}

-- the picture of a text, and whether that went well; or why there is none
pub record MakesPicture (schedule : Schedule) (call : Option ℕ) (input : List ℕ) (result : Result (Made Bool) DrawFault) : Type 0 where
  -- a picture is made of the input's journal or of a run of its script, and the answer is how that went
  pub picture : IfOk result (λ made. IsPictureOf schedule input made.end made.text.items)
  -- the fault is of the input, of a checkpoint to which its script comes, of the call that is asked for, or memory ran out
  pub fault : IfErr result (IsFaultOfPicture schedule call input)
