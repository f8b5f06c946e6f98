-- A run that a witness was told of.
use Rattle.std.specs.Prelude.{◌≡◌, ◌++◌, List}
use Rattle.fs_core.specs.CoreValues.{state_of}
use Rattle.fs_script.specs.declared.script.Script.{Script}
use Rattle.fs_sched_witness.specs.Moments.{entries_told, Hears}
use Rattle.fs_sched_witness.specs.declared.moments.Moment.{Moment}
use Rattle.fs_sched.specs.Runs.{Stage, end_of}
use Rattle.fs_sched.specs.Origins.{TellsOn}
use Rattle.fs_sched.specs.declared.origin.Origin.{Origin}
use Rattle.fs_sched.specs.declared.origin.Origin.TheVariants.{Root}
use Rattle.fs_sched.specs.declared.schedule.Schedule.{Schedule}
use Rattle.fs_sched.specs.declared.watching.Ran.{Ran}

-- the witness was told the moments of a run of the script from there; the core stands where that ended, and it ended so in all its pieces
pub record WatchesOn {A : Type 0} (told : A → A → List Moment → Type 0) (from : Origin) (schedule : Schedule) (script : Script) (old : A) (ran : Ran) (new : A) : Type 0 where
  pub moments : List Moment
  pub last : Stage
  pub hears : Hears told old moments new
  pub tells : TellsOn from schedule script moments last
  pub core : last.state ≡ state_of ran.core
  pub end : ran.end ≡ end_of script (entries_told moments ++ last.state.timeline)

-- the same from the root alone
abbrev pub Watches : {A : Type 0} → (A → A → List Moment → Type 0) → Schedule → Script → A → Ran → A → Type 0
Watches told schedule script old ran new = WatchesOn told Root schedule script old ran new
