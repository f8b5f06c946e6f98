-- What the moments of a run are, in order.
use Rattle.std.specs.Prelude.{ℕ, ◌≡◌, ◌+◌, ◌⊎◌, Bool, true, false, List, [], ◌∷◌, ◌++◌, length, map, get_or, slice_set, Ok, Some, None}
use Rattle.std.specs.List.{range_with_len}
use Rattle.fs_calls.specs.declared.call.Call.{Call}
use Rattle.fs_machine.specs.States.{Begins, Step}
use Rattle.fs_script.specs.declared.script.Script.{Script}
use Rattle.fs_script.specs.declared.script.Word.{Word}
use Rattle.fs_script.specs.declared.script.Word.TheVariants as word
use Rattle.fs_sched.specs.Runs.{Stage, start, next_call, Does, Words, IsOver, IsUnfinished}
use Rattle.fs_sched.specs.Schedules.{goes_on, one_event}
use Rattle.fs_sched.specs.declared.schedule.Schedule.{Schedule}
use Rattle.fs_sched.specs.Gives.{words_before}
use Rattle.fs_sched_witness.specs.declared.moments.Answer.{Answer}
use Rattle.fs_sched_witness.specs.declared.moments.Answer.TheVariants.{Spent, Begun, Stepped}
use Rattle.fs_sched_witness.specs.declared.moments.Moment.{Moment}
use Rattle.fs_sched_witness.specs.declared.moments.Moment.TheVariants.{Event, Checkpoint}

-- what an event of a thread is answered: that it is spent, the number of the call that begins, or what the step of its call did
abbrev pub AnswersEvent : List (List Call) → Stage → ℕ → Answer → Stage → Type 0
AnswersEvent lists old seat Spent new = (old.state.on_seat seat ≡ None) × (next_call lists old seat ≡ None) × (new ≡ old)
AnswersEvent lists old seat (Begun c) new = (call : Call) × (old.state.on_seat seat ≡ None) × (next_call lists old seat ≡ Some call) × Begins old.state seat call (Ok c) new.state × (new.begun ≡ slice_set old.begun seat (get_or old.begun seat 0 + 1))
AnswersEvent lists old seat (Stepped answer) new = (c : ℕ) × (old.state.on_seat seat ≡ Some c) × Step old.state seat answer new.state × (new.begun ≡ old.begun)

-- what a moment is: an event with its answer, or a checkpoint with the entries that end there
abbrev pub IsMoment : List (List Call) → Stage → Moment → Stage → Type 0
IsMoment lists old (Event t) new = AnswersEvent lists old t.seat t.answer new
IsMoment lists old (Checkpoint entries) new = Does lists old word.Checkpoint entries.items new

-- the same of moments in order
abbrev pub AreMoments : List (List Call) → Stage → List Moment → Stage → Type 0
AreMoments lists old [] new = new ≡ old
AreMoments lists old (m ∷ ms) new = (middle : Stage) × IsMoment lists old m middle × AreMoments lists middle ms new

-- the word that gives a moment
abbrev pub word_of : Moment → Word
word_of (Event t) = one_event t.seat
word_of (Checkpoint entries) = word.Checkpoint

-- the words of moments
abbrev pub words_of : List Moment → List Word
words_of ms = map word_of ms

-- the moments are of these words in order; they may be cut off once no thread has anything to do, as the others change nothing then
abbrev pub AreOfWords : List (List Call) → List Word → List Moment → Stage → Type 0
AreOfWords lists words ms last = (rest : List Word) × (words ≡ words_of ms ++ rest) × ((rest ≡ []) ⊎ (IsOver lists last × Words lists last rest [] last))

-- what the events of rounds to the end are answered
pub data AnswersToEnd (lists : List (List Call)) : Stage → List Moment → Stage → Type 0 where
  Over : {last : Stage} → IsOver lists last → AnswersToEnd lists last [] last
  More : {old middle last : Stage} (ms more : List Moment) → IsUnfinished lists old → words_of ms ≡ map one_event (range_with_len 0 (length lists)) → AreMoments lists old ms middle → AnswersToEnd lists middle more last → AnswersToEnd lists old (ms ++ more) last

-- the same where rounds to the end follow, and nothing else
abbrev pub AnswersEnd : Bool → List (List Call) → Stage → List Moment → Stage → Type 0
AnswersEnd true lists old ms last = AnswersToEnd lists old ms last
AnswersEnd false lists old ms last = (ms ≡ []) × (last ≡ old)

-- what the moments of a run of a script by a schedule are, from a stage on: first those that the schedule gives, then rounds
abbrev pub TellsFrom : Schedule → Script → Stage → List Moment → Stage → Type 0
TellsFrom schedule script old ms last =
    (middle : Stage) × (first more : List Moment) × (ms ≡ first ++ more) × AreMoments script.lists old first middle
    × AreOfWords script.lists (words_before schedule script.words script.lists) first middle × AnswersEnd (goes_on schedule script.words) script.lists middle more last

-- the same from the first stage to the last
abbrev pub TellsRun : Schedule → Script → List Moment → Stage → Type 0
TellsRun schedule script ms last = TellsFrom schedule script (start script.limits (length script.lists)) ms last
