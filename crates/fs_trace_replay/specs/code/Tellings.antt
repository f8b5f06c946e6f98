-- What is told, and what is answered of it, as it is kept.
use Rattle.std.specs.Prelude.{◌≡◌, ◌<◌, ℕ, Bool, true, List, length, Option}
use Rattle.fs_names.specs.Keys.{Key}
use Rattle.fs_calls.specs.Starts.{Start}
use Rattle.fs_calls.specs.declared.call.Call.{Call}
use Rattle.fs_timeline.specs.Timeline.{commits}
use Rattle.fs_timeline.specs.declared.entry.Entry.{Entry}
use Rattle.fs_script.specs.TreeText.{tree_text}
use Rattle.fs_verdict.specs.declared.fault.RunFault.TheVariants.{OutOfMemory}
use Rattle.fs_trace_replay.specs.Changes.{IsLastChange}
use Rattle.fs_trace_replay.specs.Commits.{CommitsBehind, tree_after}
use Rattle.fs_trace_replay.specs.Replays.{IsCallBehind, IsLineOfChange, Telling}
use Rattle.fs_trace_replay.specs.declared.fault.ReplayFault.{ReplayFault}
use Rattle.fs_trace_replay.specs.declared.fault.ReplayFault.TheVariants.{Run, NoCommit, NoCall}
use Rattle.fs_trace_replay.specs.declared.asking.Question.{Question}
use Rattle.fs_trace_replay.specs.declared.asking.Question.TheVariants.{Whole, At, Before, Who}
use Rattle.fs_trace_replay.specs.declared.told.Told.{Told}

-- what is told
abbrev pub value_of : Told → Telling
value_of told = record { names = told.names; start = told.start; entries = told.entries.items; lawful = told.lawful }

-- out of memory
abbrev pub memory : ReplayFault
memory = Run OutOfMemory

-- there are fewer commits, or no memory
abbrev pub IsUncommitted : ℕ → ℕ → ReplayFault → Type 0
IsUncommitted most n (Run f) = f ≡ OutOfMemory
IsUncommitted most n (NoCommit m) = (m ≡ n) × (most < n)
IsUncommitted most n f = ⊥

-- a thread's call is not there or does not commit, or there is no memory
abbrev pub IsUncalled : Option (List (List ℕ)) → List Entry → List ℕ → ℕ → ReplayFault → Type 0
IsUncalled names es thread turn (Run f) = f ≡ OutOfMemory
IsUncalled names es thread turn NoCall = (n : ℕ) → IsCallBehind names es thread turn n → ⊥
IsUncalled names es thread turn f = ⊥

-- a call does not commit, or there is no memory
abbrev pub IsUnplaced : List Entry → ℕ → ReplayFault → Type 0
IsUnplaced es c (Run f) = f ≡ OutOfMemory
IsUnplaced es c NoCall = (n : ℕ) → CommitsBehind es c n → ⊥
IsUnplaced es c f = ⊥

-- the tree before the commit of a thread's call
abbrev pub IsTreeBefore : Option (List (List ℕ)) → Start → List Entry → List ℕ → ℕ → Bool → List ℕ → Type 0
IsTreeBefore names start es thread turn found text = (n : ℕ) × IsCallBehind names es thread turn n × (found ≡ true) × (text ≡ tree_text (tree_after start es n))

-- who last changed what stands at a key, by the calls that commit
abbrev pub IsChangeTold : Option (List (List ℕ)) → List Entry → Start → List Call → Key → Bool → List ℕ → Type 0
IsChangeTold names es start calls key found text = (last : Option ℕ) × IsLastChange start calls key (length calls) last × IsLineOfChange names es last found text

-- what is asked for is not there, or there is no memory
abbrev pub IsUnanswered : Option (List (List ℕ)) → List Entry → Question → ReplayFault → Type 0
IsUnanswered names es Whole f = f ≡ memory
IsUnanswered names es (At n) f = IsUncommitted (length (commits es)) n f
IsUnanswered names es (Before thread turn) f = IsUncalled names es thread.items turn f
IsUnanswered names es (Who path) f = f ≡ memory
