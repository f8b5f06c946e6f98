-- How many events of a thread a word means that names one of its calls.
use Rattle.std.specs.Prelude.{ℕ, ◌≡◌, ◌≢◌, ◌+◌, ◌-◌, ◌<◌, true, false, nat_le, ◌&&◌, List, [], ◌++◌, length, get_or, take, Ok, Err, Option, Some, None, if◌then◌else◌}
use Rattle.fs_names.specs.declared.limits.Limits.{Limits}
use Rattle.fs_words.specs.declared.fault.ScriptFault.{ScriptFault}
use Rattle.fs_script.specs.Script.{script_of, seat_named}
use Rattle.fs_script.specs.declared.limits.TheConstants.{EVENT_LIMIT}
use Rattle.fs_script.specs.declared.script.Script.{Script}
use Rattle.fs_sched_witness.specs.declared.moments.Moment.{Moment}
use Rattle.fs_sched.specs.Gives.{given_words}
use Rattle.fs_sched.specs.Origins.{TellsOn, StopsAtSome}
use Rattle.fs_sched.specs.Runs.{Stage, StopsBy}
use Rattle.fs_sched.specs.declared.origin.Origin.{Origin}
use Rattle.fs_sched.specs.declared.origin.Origin.TheVariants.{Root, Tree}
use Rattle.fs_sched.specs.declared.schedule.Schedule.{Schedule}
use Rattle.fs_sched.specs.declared.schedule.Schedule.TheVariants.{Given}
use Rattle.fs_verdict.specs.declared.fault.RunFault.{RunFault}
use Rattle.fs_sched_reach.specs.Words.{CallWord, times_word}
use Rattle.fs_sched_reach.specs.Coming.{has_come}
use Rattle.fs_sched_reach.specs.declared.target.Target.{Target}

-- ---- the call that is meant

-- the call of this number on a seat, if the script has it
abbrev pub target_on : Script → CallWord → Option ℕ → Option ℕ → Option Target
target_on script w (Some seat) (Some k) = if nat_le 1 k && nat_le k (length (get_or script.lists seat [])) then Some (record { seat = seat; call = k; to_commit = w.to_commit }) else None
target_on script w _ _ = None

-- the call that a word names, if the script has the thread and so many calls of it
abbrev pub target_of : Script → CallWord → Option Target
target_of script w = target_on script w (seat_named script.names w.name) w.call

-- how many moments the words of a script have before the last one, which is one event
abbrev pub moments_before : Script → ℕ
moments_before script = length (given_words script.words) - 1

-- ---- the run that decides

-- the run of a text comes to the call by so many moments after the first ones, and by no fewer
pub record ComesBy (from : Origin) (limits : Limits) (target : Target) (before : ℕ) (text : List ℕ) (n : ℕ) : Type 0 where
  pub script : Script
  pub moments : List Moment
  pub last : Stage
  pub read : script_of text ≡ Ok script
  pub by : script.limits ≡ limits
  pub tells : TellsOn from Given script moments last
  pub comes : has_come target (take (before + n) moments) ≡ true
  pub least : (m : ℕ) → m < n → has_come target (take (before + m) moments) ≡ false

-- a run from there stops by a fault
abbrev pub StopsOn : Origin → Schedule → Script → RunFault → Type 0
StopsOn Root schedule script f = StopsBy schedule script f
StopsOn (Tree tree) schedule script f = StopsAtSome schedule script tree f

-- the run of a text does not come to the call: the text has no script by these limits, the run stops before its end, or it comes to its end
pub data NeverComes (from : Origin) (limits : Limits) (target : Target) (text : List ℕ) : Type 0 where
  NotRead : (f : ScriptFault) → script_of text ≡ Err f → NeverComes from limits target text
  ByOthers : (script : Script) → script_of text ≡ Ok script → script.limits ≢ limits → NeverComes from limits target text
  Stops : (script : Script) (f : RunFault) → script_of text ≡ Ok script → StopsOn from Given script f → NeverComes from limits target text
  Ends : (script : Script) (ms : List Moment) (last : Stage) → script_of text ≡ Ok script → TellsOn from Given script ms last → has_come target ms ≡ false → NeverComes from limits target text

-- ---- the number

-- after a text a word means this number of events: with many events of the thread in its place, the run comes to the call by so many of them, and by no fewer
pub record IsCount (from : Origin) (limits : Limits) (text : List ℕ) (w : CallWord) (n : ℕ) : Type 0 where
  pub script : Script
  pub target : Target
  pub many : ℕ
  pub read : script_of (text ++ w.name) ≡ Ok script
  pub means : target_of script w ≡ Some target
  pub comes : ComesBy from limits target (moments_before script) (text ++ times_word w.name many) n

-- after a text a word means no number of events: the words before it cannot be read, the script has no such call, or the run does not come to it by all events for which the schedule has room
pub data HasNoCount (from : Origin) (limits : Limits) (text : List ℕ) (w : CallWord) : Type 0 where
  Unread : (f : ScriptFault) → script_of (text ++ w.name) ≡ Err f → HasNoCount from limits text w
  NoCall : (script : Script) → script_of (text ++ w.name) ≡ Ok script → target_of script w ≡ None → HasNoCount from limits text w
  Never : (script : Script) (target : Target) → script_of (text ++ w.name) ≡ Ok script → target_of script w ≡ Some target
      → NeverComes from limits target (text ++ times_word w.name (EVENT_LIMIT - moments_before script)) → HasNoCount from limits text w
