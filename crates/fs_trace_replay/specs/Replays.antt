-- What an input tells, and what is answered of it.
use Rattle.std.specs.Prelude.{◌≡◌, ℕ, ◌-◌, ◌≤◌, ◌<◌, Bool, true, false, ◌&&◌, List, [], length, Option, Some, None, Ok, get_or, slice_get, decimal}
use Rattle.fs_calls.specs.Starts.{Start}
use Rattle.fs_calls.specs.declared.call.Call.{Call}
use Rattle.fs_timeline.specs.Timeline.{commits}
use Rattle.fs_timeline.specs.Verdicts.{verdict}
use Rattle.fs_timeline.specs.declared.entry.Entry.{Entry}
use Rattle.fs_words.specs.Words.{number_of}
use Rattle.fs_script.specs.Journals.{journal_of}
use Rattle.fs_script.specs.Script.{script_of, seat_named}
use Rattle.fs_script.specs.TreeText.{tree_text}
use Rattle.fs_script.specs.declared.script.Script.{Script}
use Rattle.fs_verdict.specs.declared.fault.RunFault.{RunFault}
use Rattle.fs_verdict.specs.Checks.{is_journal}
use Rattle.fs_verdict.specs.InputFaults.{IsFaultOf}
use Rattle.fs_sched.specs.Checks.{is_lawful, verdict_of}
use Rattle.fs_sched.specs.Runs.{Stage, Runs, IsFaultOfRun}
use Rattle.fs_sched.specs.declared.schedule.Schedule.{Schedule}
use Rattle.fs_trace_replay.specs.Changes.{IsLastChange}
use Rattle.fs_trace_replay.specs.Commits.{CommitsBehind, IsTurn, front_by, tree_after}
use Rattle.fs_trace_replay.specs.Texts.{nobody_line, who_line}
use Rattle.fs_trace_replay.specs.declared.fault.ReplayFault.{ReplayFault}
use Rattle.fs_trace_replay.specs.declared.fault.ReplayFault.TheVariants as fault
use Rattle.fs_trace_replay.specs.declared.asking.Question.{Question}
use Rattle.fs_trace_replay.specs.declared.asking.Question.TheVariants.{Whole, At, Before, Who}

-- ---- what an input tells

-- the names of threads, where they have names; a start, the entries that hold, and whether these are all
pub record Telling : Type 0 where
  pub names : Option (List (List ℕ))
  pub start : Start
  pub entries : List Entry
  pub lawful : Bool

-- a journal tells its start and the entries before its first fault
abbrev pub IsToldByJournal : List ℕ → Telling → Type 0
IsToldByJournal input told =
    (es : List Entry) × (journal_of input ≡ Ok (told.start, es)) × (told.names ≡ None) × (told.entries ≡ front_by (verdict told.start es) es) × (told.lawful ≡ is_lawful (verdict told.start es))

-- a script tells what the last piece of its run leaves
abbrev pub IsToldByScript : Schedule → List ℕ → Telling → Type 0
IsToldByScript schedule input told =
    (script : Script) × (before : List Entry) × (last : Stage) × (script_of input ≡ Ok script) × Runs schedule script before last
    × (told.names ≡ Some script.names) × (told.start ≡ last.state.start) × (told.entries ≡ last.state.timeline) × (told.lawful ≡ true)

-- what an input tells, as a journal or as a script
abbrev pub IsToldBy : Bool → Schedule → List ℕ → Telling → Type 0
IsToldBy true schedule input told = IsToldByJournal input told
IsToldBy false schedule input told = IsToldByScript schedule input told

-- why it tells nothing
abbrev pub IsUntold : Bool → Schedule → List ℕ → RunFault → Type 0
IsUntold true schedule input f = IsFaultOf (verdict_of input) f
IsUntold false schedule input f = IsFaultOfRun schedule input f

-- ---- what is answered

-- the seat of the thread that a word names: by its name, or by the number of the seat
abbrev pub seat_by : Option (List (List ℕ)) → List ℕ → Option ℕ
seat_by None word = number_of word
seat_by (Some names) word = seat_named names word

-- the word of the thread on a seat
abbrev pub thread_word : Option (List (List ℕ)) → ℕ → List ℕ
thread_word None seat = decimal seat
thread_word (Some names) seat = get_or names seat []

-- the call of a thread with this place, by its number
abbrev pub IsCallOf : Option (List (List ℕ)) → List Entry → List ℕ → ℕ → ℕ → Type 0
IsCallOf names es thread turn c = (seat : ℕ) × (seat_by names thread ≡ Some seat) × IsTurn es seat turn c

-- it commits behind so many others
abbrev pub IsCallBehind : Option (List (List ℕ)) → List Entry → List ℕ → ℕ → ℕ → Type 0
IsCallBehind names es thread turn n = (c : ℕ) × IsCallOf names es thread turn c × CommitsBehind es c n

-- the line of the commit with this place, counted from 1
abbrev pub IsLineOfCommit : Option (List (List ℕ)) → List Entry → ℕ → List ℕ → Type 0
IsLineOfCommit names es place text =
    (c seat turn : ℕ) × (call : Call) × CommitsBehind es c (place - 1) × (slice_get (commits es) (place - 1) ≡ Some call) × IsTurn es seat turn c × (text ≡ who_line place c (thread_word names seat) turn call)

-- who last changed what stands at a key: it is found, or nobody did
abbrev pub IsLineOfChange : Option (List (List ℕ)) → List Entry → Option ℕ → Bool → List ℕ → Type 0
IsLineOfChange names es None found text = (found ≡ false) × (text ≡ nobody_line)
IsLineOfChange names es (Some place) found text = (found ≡ true) × IsLineOfCommit names es place text

-- the answer to a question: a tree, or the line of who changed what stands at a path; and whether it is found
abbrev pub IsAnswerTo : Option (List (List ℕ)) → Start → List Entry → Question → Bool → List ℕ → Type 0
IsAnswerTo names start es Whole found text = (found ≡ true) × (text ≡ tree_text (tree_after start es (length (commits es))))
IsAnswerTo names start es (At n) found text = (n ≤ length (commits es)) × (found ≡ true) × (text ≡ tree_text (tree_after start es n))
IsAnswerTo names start es (Before thread turn) found text = (n : ℕ) × IsCallBehind names es thread.items turn n × (found ≡ true) × (text ≡ tree_text (tree_after start es n))
IsAnswerTo names start es (Who path) found text = (last : Option ℕ) × IsLastChange start (commits es) path (length (commits es)) last × IsLineOfChange names es last found text

-- what is asked for is not there
abbrev pub IsNotThere : Option (List (List ℕ)) → List Entry → Question → ReplayFault → Type 0
IsNotThere names es (At n) (fault.NoCommit m) = (m ≡ n) × (length (commits es) < n)
IsNotThere names es (Before thread turn) fault.NoCall = (n : ℕ) → IsCallBehind names es thread.items turn n → ⊥
IsNotThere names es question f = ⊥

-- the answer to a question on an input, and whether it was found where all is lawful
abbrev pub IsReplayOf : Schedule → List ℕ → Question → Bool → List ℕ → Type 0
IsReplayOf schedule input question well text =
    (told : Telling) × IsToldBy (is_journal input) schedule input told × (found : Bool) × IsAnswerTo told.names told.start told.entries question found text × (well ≡ (told.lawful && found))

-- what an input tells has not what is asked for
abbrev pub IsNotThereIn : Schedule → List ℕ → Question → ReplayFault → Type 0
IsNotThereIn schedule input question f = (told : Telling) × IsToldBy (is_journal input) schedule input told × IsNotThere told.names told.entries question f

-- why there is none: the input's fault or that of its run, or what is asked for is not there
abbrev pub IsFaultOfReplay : Schedule → List ℕ → Question → ReplayFault → Type 0
IsFaultOfReplay schedule input question (fault.Run f) = IsUntold (is_journal input) schedule input f
IsFaultOfReplay schedule input question f = IsNotThereIn schedule input question f
