-- What the code finds of a word, step by step.
use Rattle.std.specs.Prelude.{ℕ, ◌≡◌, ◌-◌, ◌≤◌, ◌⊎◌, Bool, true, false, List, ◌++◌, Ok, Err, Option, Some, None}
use Rattle.fs_names.specs.declared.limits.Limits.{Limits}
use Rattle.fs_words.specs.declared.fault.ScriptFault.{ScriptFault}
use Rattle.fs_script.specs.Script.{script_of}
use Rattle.fs_script.specs.declared.limits.TheConstants.{EVENT_LIMIT}
use Rattle.fs_script.specs.declared.script.Script.{Script}
use Rattle.fs_sched_witness.specs.declared.moments.Moment.{Moment}
use Rattle.fs_sched.specs.Origins.{TellsOn}
use Rattle.fs_sched.specs.Runs.{Stage}
use Rattle.fs_sched.specs.declared.origin.Origin.{Origin}
use Rattle.fs_sched.specs.declared.schedule.Schedule.TheVariants.{Given}
use Rattle.fs_verdict.specs.declared.fault.RunFault.{RunFault}
use Rattle.fs_verdict.specs.declared.fault.RunFault.TheVariants.{Input, Read, Write, OutOfMemory, Full, UnderWay}
use Rattle.fs_sched_reach.specs.Coming.{has_come}
use Rattle.fs_sched_reach.specs.Counts.{target_of, moments_before, ComesBy, NeverComes, StopsOn}
use Rattle.fs_sched_reach.specs.Words.{CallWord}
use Rattle.fs_sched_reach.specs.code.Hearing.{Answers}
use Rattle.fs_sched_reach.specs.declared.counting.Sought.{Sought}
use Rattle.fs_sched_reach.specs.declared.target.Target.{Target}

-- a fault that stops a run
abbrev pub is_stop : RunFault → Bool
is_stop (Input f) = false
is_stop Read = false
is_stop Write = false
is_stop OutOfMemory = false
is_stop Full = true
is_stop (UnderWay c) = true

-- a text has no script
abbrev pub HasNoScript : List ℕ → Type 0
HasNoScript text = (f : ScriptFault) × (script_of text ≡ Err f)

-- after a text a word names no call of its script
abbrev pub HasNoTarget : List ℕ → CallWord → Type 0
HasNoTarget text w = HasNoScript (text ++ w.name) ⊎ ((script : Script) × (script_of (text ++ w.name) ≡ Ok script) × (target_of script w ≡ None))

-- what is sought for a word after a text
pub record IsSought (text : List ℕ) (w : CallWord) (s : Sought) : Type 0 where
  pub script : Script
  pub read : script_of (text ++ w.name) ≡ Ok script
  pub means : target_of script w ≡ Some s.target
  pub before : s.before ≡ moments_before script
  pub room : s.room ≡ EVENT_LIMIT - moments_before script
  pub call : 1 ≤ s.target.call

-- a run of a script does not come to the call: it stops, or ends
abbrev pub RunFails : Origin → Script → Target → Type 0
RunFails from script target =
    ((f : RunFault) × StopsOn from Given script f) ⊎ ((ms : List Moment) × (last : Stage) × TellsOn from Given script ms last × (has_come target ms ≡ false))

-- what is found of a run of a script
abbrev pub RunCounts : Origin → Script → Target → ℕ → Option ℕ → Type 0
RunCounts from script target before None = RunFails from script target
RunCounts from script target before (Some n) = (ms : List Moment) × (last : Stage) × TellsOn from Given script ms last × Answers target ms before (Some n)

-- what is found of the run of a text
abbrev pub CountsBy : Origin → Limits → Target → ℕ → List ℕ → Option ℕ → Type 0
CountsBy from limits target before text None = NeverComes from limits target text
CountsBy from limits target before text (Some n) = ComesBy from limits target before text n
