-- What is made of the text of an input: the page that plays it, and whether what it plays went well.
use Rattle.std.specs.Prelude.{ℕ, Bool, List, None, Result, IfOk, IfErr}
use Rattle.fs_verdict.specs.declared.shell.Made.{Made}
use Rattle.fs_sched.specs.declared.schedule.Schedule.{Schedule}
use Rattle.fs_draw.specs.Faults.{IsFaultOfPicture}
use Rattle.fs_draw.specs.declared.fault.DrawFault.{DrawFault}
use Rattle.fs_draw_page.specs.Pages.{IsPageOf}

-- the page of a text, and whether that went well; or why there is none
pub record MakesPage (schedule : Schedule) (input : List ℕ) (result : Result (Made Bool) DrawFault) : Type 0 where
  -- a page is made of the input's journal or of a run of its script, and the answer is how that went
  pub page : IfOk result (λ made. IsPageOf schedule input made.end made.text.items)
  -- the fault is of the input, of a checkpoint to which its script comes, or memory ran out: no call is asked for
  pub fault : IfErr result (IsFaultOfPicture schedule None input)
