-- What is drawn of a run.
use Rattle.std.proofs.Common.{◌≡◌, ℕ, List, Ok, ap}
use Rattle.std.specs.Prelude.{◌==◌}
use Rattle.fs_script.specs.Script.{script_of}
use Rattle.fs_script.specs.declared.script.Script.{Script}
use Rattle.fs_sched.specs.declared.schedule.Schedule.{Schedule}
use Rattle.fs_sched_witness.specs.declared.moments.Moment.{Moment}
use Rattle.fs_sched.specs.Watching.{Watches}
use Rattle.fs_sched.specs.declared.watching.Ran.{Ran}
use Rattle.fs_draw.specs.Pictures.{IsOfRun, has_returned}

-- a run that was told is drawn, and the answer is whether each call returned
pub run_drawn : {A : Type 0} (told : A → A → List Moment → Type 0) (schedule : Schedule) (text : List ℕ) (script : Script) (old new : A) (ran : Ran) → script_of text ≡ Ok script → Watches told schedule script old ran new → IsOfRun schedule text (ran.end.returned == ran.end.calls)
run_drawn told schedule text script old new ran is w = (script, is, w.moments, w.last, w.tells, ap has_returned w.end)
