-- Runs of scripts, event by event.
use Rattle.std.specs.Prelude.{ℕ, ◌≡◌, ◌+◌, ◌-◌, ◌^◌, min, ◌<◌, Bool, true, false, ◌||◌, ◌⊎◌, List, [], ◌∷◌, ◌++◌, length, replicate, get_or, slice_get, slice_set, is_some, Ok, Option, Some, None, Err}
use Rattle.std.specs.List.{range_with_len, list_any}
use Rattle.fs_names.specs.Limits.{node_limit}
use Rattle.fs_names.specs.declared.limits.Limits.{Limits}
use Rattle.fs_timeline.specs.declared.entry.Entry.{Entry}
use Rattle.fs_calls.specs.declared.call.Call.{Call}
use Rattle.fs_script.specs.Script.{script_of}
use Rattle.fs_script.specs.declared.script.Script.{Script}
use Rattle.fs_script.specs.declared.script.Word.{Word}
use Rattle.fs_script.specs.declared.script.Word.TheVariants as word
use Rattle.fs_core.specs.Checkpoints.{IsLeastUnderWay}
use Rattle.fs_machine.specs.Headline.{IsIdle}
use Rattle.fs_machine.specs.States.{State, Begins, Step, empty, begun_again}
use Rattle.fs_machine.specs.declared.answers.Refusal.TheVariants.{Full}
use Rattle.fs_machine.specs.declared.answers.Stepped.{Stepped}
use Rattle.fs_sched.specs.Devices.{IsFaultOf}
use Rattle.fs_sched.specs.RunTexts.{IsRunText, number_of}
use Rattle.fs_sched.specs.declared.run_texts.EntryKind.TheVariants as kind
use Rattle.fs_verdict.specs.declared.fault.RunFault.{RunFault}
use Rattle.fs_verdict.specs.declared.fault.RunFault.TheVariants as fault
use Rattle.fs_sched.specs.declared.running.RunEnd.{RunEnd}
use Rattle.fs_sched.specs.Schedules.{is_finish, words_by, goes_on}
use Rattle.fs_sched.specs.declared.schedule.Schedule.{Schedule}

-- where a run stands: the machine's state, and how many calls of each thread have begun
pub record Stage : Type 0 where
  pub state : State
  pub begun : List ℕ

-- before the first event of so many threads, where the machine stands so
abbrev pub before_all : State → ℕ → Stage
before_all state threads = record { state = state; begun = replicate threads 0 }

-- the same at the root alone, by these limits
abbrev pub start : Limits → ℕ → Stage
start limits threads = before_all (empty limits (node_limit limits)) threads

-- the next call of a thread, where one is left
abbrev pub next_call : List (List Call) → Stage → ℕ → Option Call
next_call lists s seat = slice_get (get_or lists seat []) (get_or s.begun seat 0)

-- a thread has a call under way, or one left
abbrev pub has_more : List (List Call) → Stage → ℕ → Bool
has_more lists s seat = is_some (s.state.on_seat seat) || is_some (next_call lists s seat)

-- an event of a thread: a step of its call under way, else the begin of its next call, else nothing
pub data Event (lists : List (List Call)) (old : Stage) (seat : ℕ) (new : Stage) : Type 0 where
  Goes : (c : ℕ) (answer : Stepped) → old.state.on_seat seat ≡ Some c → Step old.state seat answer new.state → new.begun ≡ old.begun → Event lists old seat new
  Starts : (c : ℕ) (call : Call) → old.state.on_seat seat ≡ None → next_call lists old seat ≡ Some call → Begins old.state seat call (Ok c) new.state
      → new.begun ≡ slice_set old.begun seat (get_or old.begun seat 0 + 1) → Event lists old seat new
  Spent : old.state.on_seat seat ≡ None → next_call lists old seat ≡ None → new ≡ old → Event lists old seat new

-- events in order, of the threads with these seats
abbrev pub Events : List (List Call) → Stage → List ℕ → Stage → Type 0
Events lists old [] new = new ≡ old
Events lists old (seat ∷ seats) new = (middle : Stage) × Event lists old seat middle × Events lists middle seats new

-- one event of each thread, in the order of the blocks
abbrev pub Round : List (List Call) → Stage → Stage → Type 0
Round lists old new = Events lists old (range_with_len 0 (length lists)) new

-- no thread has a call under way, or one left
abbrev pub IsOver : List (List Call) → Stage → Type 0
IsOver lists s = (seat : ℕ) → seat < length lists → has_more lists s seat ≡ false

-- some thread has
abbrev pub IsUnfinished : List (List Call) → Stage → Type 0
IsUnfinished lists s = (seat : ℕ) × (seat < length lists) × (has_more lists s seat ≡ true)

-- rounds to the end: while some thread has a call under way, or one left, a round
pub data ToEnd (lists : List (List Call)) : Stage → Stage → Type 0 where
  Over : {last : Stage} → IsOver lists last → ToEnd lists last last
  More : {old middle last : Stage} → IsUnfinished lists old → Round lists old middle → ToEnd lists middle last → ToEnd lists old last

-- rounds to the end, where they follow
abbrev pub EndsBy : Bool → List (List Call) → Stage → Stage → Type 0
EndsBy true lists old last = ToEnd lists old last
EndsBy false lists old last = last ≡ old

-- what a word does, and the entries of the piece that ends: at a checkpoint, where no call is under way, the timeline begins again
abbrev pub Does : List (List Call) → Stage → Word → List Entry → Stage → Type 0
Does lists old (word.Events seat times) told new = Events lists old (replicate times seat) new × (told ≡ [])
Does lists old word.Checkpoint told new = IsIdle old.state × (told ≡ old.state.timeline) × (new ≡ record { state = begun_again old.state; begun = old.begun })
Does lists old word.Finish told new = (new ≡ old) × (told ≡ [])
Does lists old word.Drawn told new = (new ≡ old) × (told ≡ [])

-- words from left to right, and the entries of the pieces that end on the way
abbrev pub Words : List (List Call) → Stage → List Word → List Entry → Stage → Type 0
Words lists old [] told new = (new ≡ old) × (told ≡ [])
Words lists old (w ∷ words) told new = (middle : Stage) × (first : List Entry) × (rest : List Entry) × Does lists old w first middle × Words lists middle words rest new × (told ≡ first ++ rest)

-- a run of a script by a schedule, from a stage on
abbrev pub RunsFrom : Schedule → Script → Stage → List Entry → Stage → Type 0
RunsFrom schedule script old told last = (middle : Stage) × Words script.lists old (words_by schedule script.words script.lists) told middle × EndsBy (goes_on schedule script.words) script.lists middle last

-- a run of a script by a schedule, from its first stage to its last, which is of its last piece; and the entries of the pieces before
abbrev pub Runs : Schedule → Script → List Entry → Stage → Type 0
Runs schedule script told last = RunsFrom schedule script (start script.limits (length script.lists)) told last

-- the next event of a thread is the begin of a call, and all numbers are in use
abbrev pub IsRefused : List (List Call) → Stage → ℕ → Type 0
IsRefused lists s seat = (call : Call) × (next_call lists s seat ≡ Some call) × Begins s.state seat call (Err Full) s.state

-- one of these events is such a begin, after those before it
abbrev pub Stops : List (List Call) → Stage → List ℕ → Type 0
Stops lists old [] = ⊥
Stops lists old (seat ∷ seats) = IsRefused lists old seat ⊎ ((middle : Stage) × Event lists old seat middle × Stops lists middle seats)

-- one of the events in rounds to the end is
pub data StopsInRounds (lists : List (List Call)) : Stage → Type 0 where
  InRound : {old : Stage} → IsUnfinished lists old → Stops lists old (range_with_len 0 (length lists)) → StopsInRounds lists old
  InLater : {old middle : Stage} → IsUnfinished lists old → Round lists old middle → StopsInRounds lists middle → StopsInRounds lists old

-- a run stops at a word: one of its events is such a begin, or it is a checkpoint while calls are under way
abbrev pub StopsAt : List (List Call) → Stage → Word → RunFault → Type 0
StopsAt lists s (word.Events seat times) fault.Full = Stops lists s (replicate times seat)
StopsAt lists s word.Checkpoint (fault.UnderWay c) = IsLeastUnderWay s.state.on_seat c
StopsAt lists s w f = ⊥

-- it stops at one of these words, after those before it
abbrev pub StopsInWords : List (List Call) → Stage → List Word → RunFault → Type 0
StopsInWords lists old [] f = ⊥
StopsInWords lists old (w ∷ words) f = StopsAt lists old w f ⊎ ((middle : Stage) × (told : List Entry) × Does lists old w told middle × StopsInWords lists middle words f)

-- a run of a script by a schedule, from a stage on, stops by a fault
abbrev pub StopsFrom : Schedule → Script → Stage → RunFault → Type 0
StopsFrom schedule script old f =
    StopsInWords script.lists old (words_by schedule script.words script.lists) f
    ⊎ ((middle : Stage) × (told : List Entry) × Words script.lists old (words_by schedule script.words script.lists) told middle × (goes_on schedule script.words ≡ true) × (f ≡ fault.Full) × StopsInRounds script.lists middle)

-- the same from the first stage on
abbrev pub StopsBy : Schedule → Script → RunFault → Type 0
StopsBy schedule script f = StopsFrom schedule script (start script.limits (length script.lists)) f

-- the same of the script that an input has
abbrev pub ReachesStop : Schedule → List ℕ → RunFault → Type 0
ReachesStop schedule input f = (script : Script) × (script_of input ≡ Ok script) × StopsBy schedule script f

-- the fault of a run: of the input, out of memory, or of a checkpoint to which it comes
abbrev pub IsFaultOfRun : Schedule → List ℕ → RunFault → Type 0
IsFaultOfRun schedule input (fault.UnderWay c) = ReachesStop schedule input (fault.UnderWay c)
IsFaultOfRun schedule input f = IsFaultOf (script_of input) f

-- how many calls a script has
abbrev pub calls_in : List (List Call) → ℕ
calls_in [] = 0
calls_in (calls ∷ lists) = length calls + calls_in lists

-- the numbers of entries of each kind, and of the script's calls, of which there are no more than a text has lines
abbrev pub end_of : Script → List Entry → RunEnd
end_of script entries = record { begun = number_of kind.Begin entries; committed = number_of kind.Commit entries; returned = number_of kind.Return entries; calls = min (2 ^ 64 - 1) (calls_in script.lists) }

-- the numbers of the entries of all pieces of a run, and the text of the last one
abbrev pub AreOfRun : Script → List Entry → Stage → RunEnd → List ℕ → Type 0
AreOfRun script told last end text = (end ≡ end_of script (told ++ last.state.timeline)) × IsRunText last.state.start last.state.timeline last.state.graph text

-- each call of the script began, took its place and returned
pub record IsWhole (end : RunEnd) : Type 0 where
  pub begun : end.begun ≡ end.calls
  pub committed : end.committed ≡ end.calls
  pub returned : end.returned ≡ end.calls

-- the input has a script with the word by which rounds to the end follow
abbrev pub HasFinish : List ℕ → Type 0
HasFinish input = (script : Script) × (script_of input ≡ Ok script) × (list_any is_finish script.words ≡ true)

-- the numbers and the text of a run of a script, from a stage on
abbrev pub IsOutputFrom : Schedule → Script → Stage → RunEnd → List ℕ → Type 0
IsOutputFrom schedule script old end text = (told : List Entry) × (last : Stage) × RunsFrom schedule script old told last × AreOfRun script told last end text

-- the same from the first stage on
abbrev pub IsOutput : Schedule → Script → RunEnd → List ℕ → Type 0
IsOutput schedule script end text = IsOutputFrom schedule script (start script.limits (length script.lists)) end text

-- the same of the script that an input has
abbrev pub IsRunOf : Schedule → List ℕ → RunEnd → List ℕ → Type 0
IsRunOf schedule input end text = (script : Script) × (script_of input ≡ Ok script) × IsOutput schedule script end text
