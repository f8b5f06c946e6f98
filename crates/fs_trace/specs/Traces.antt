-- The text of a trace around the words of its lines, and that of a script with other words.
use Rattle.std.specs.Prelude.{ℕ, ◌≡◌, ◌⊎◌, Bool, List, [], ◌∷◌, ◌++◌, map, get_or, Ok, Option, ◌==◌, if◌then◌else◌, codes, decimal}
use Rattle.std.specs.List.{flat_map}
use Rattle.fs_machine.specs.States.{State}
use Rattle.fs_timeline.specs.declared.entry.Entry.{Entry}
use Rattle.fs_script.specs.Script.{script_of}
use Rattle.fs_script.specs.TreeText.{tree_text, IsSpelled}
use Rattle.fs_script.specs.declared.script.Script.{Script}
use Rattle.fs_script.specs.declared.script.Word.{Word}
use Rattle.fs_script.specs.declared.script.Word.TheVariants as word
use Rattle.fs_calls.specs.Tree.{Tree}
use Rattle.fs_sched.specs.Origins.{RunsOn, TellsOn}
use Rattle.fs_sched.specs.Runs.{Stage, end_of, IsRunOf}
use Rattle.fs_sched.specs.RunTexts.{end_line}
use Rattle.fs_sched.specs.Schedules.{one_event}
use Rattle.fs_sched.specs.declared.origin.Origin.{Origin}
use Rattle.fs_sched.specs.declared.origin.Origin.TheVariants.{Root}
use Rattle.fs_sched.specs.declared.running.RunEnd.{RunEnd}
use Rattle.fs_sched.specs.declared.schedule.Schedule.{Schedule}
use Rattle.fs_sched.specs.declared.schedule.Schedule.TheVariants.{Given}
use Rattle.fs_sched_witness.specs.Moments.{entries_told}
use Rattle.fs_sched.specs.Moments.{TellsRun}
use Rattle.fs_sched.specs.Gives.{given_words}
use Rattle.fs_trace_story.specs.Shown.{shown, deed_told}
use Rattle.fs_trace_story.specs.declared.page.Deed.{Deed}
use Rattle.fs_trace_story.specs.declared.page.Deed.TheVariants as deed
use Rattle.fs_sched_witness.specs.declared.moments.Answer.{Answer}
use Rattle.fs_sched_witness.specs.declared.moments.Answer.TheVariants.{Spent}
use Rattle.fs_sched_witness.specs.declared.moments.Moment.{Moment}
use Rattle.fs_sched_witness.specs.declared.moments.Moment.TheVariants.{Event, Checkpoint}

-- the line of a thread
abbrev pub thread_line : List ℕ → List ℕ
thread_line name = codes "thread " ++ (name ++ codes "\n")

-- what a line begins with: the number of its event and a space, or the word of a checkpoint
abbrev pub head_of : ℕ → Deed → List ℕ
head_of number deed.Checkpoint = codes "checkpoint"
head_of number d = decimal number ++ codes " "

-- the same by what is told of its moment
abbrev pub line_head : ℕ × (Option ℕ × Deed) → List ℕ
line_head told = head_of told.0 told.1.1

-- a line for each of these beginnings, in order: the beginning, and words behind it
abbrev pub AreLines : List (List ℕ) → List ℕ → Type 0
AreLines [] text = text ≡ []
AreLines (head ∷ heads) text = (words rest : List ℕ) × (text ≡ head ++ (words ++ (codes "\n" ++ rest))) × AreLines heads rest

-- the beginnings of the lines of a run
abbrev pub heads_shown : Bool → List Moment → List (List ℕ)
heads_shown every ms = map line_head (map deed_told (shown every ms))

-- the text of a trace: the threads, a line for each moment that is shown, lines of the calls that are left, and the end of the run's own text
abbrev pub IsTraceText : Bool → List (List ℕ) → List Moment → State → List ℕ → Type 0
IsTraceText every names ms last text =
    (lines left : List ℕ) × (t : Tree) × AreLines (heads_shown every ms) lines × IsSpelled last.graph t
    × (text ≡ codes "atomfs-trace 2\n" ++ (flat_map thread_line names ++ (lines ++ (left ++ (tree_text t ++ end_line last.timeline)))))

-- the trace of a run of the script that an input has, and how that run ended in all its pieces
abbrev pub IsTraceOf : Schedule → Bool → List ℕ → RunEnd → List ℕ → Type 0
IsTraceOf schedule every input end text =
    (script : Script) × (script_of input ≡ Ok script) × (ms : List Moment) × (last : Stage) × TellsRun schedule script ms last × (end ≡ end_of script (entries_told ms ++ last.state.timeline))
    × IsTraceText every script.names ms last.state text

-- ---- a script with the moments of a run as its words

-- the word of an event that is no idle turn
abbrev pub busy_event : ℕ → Answer → List Word
busy_event seat Spent = []
busy_event seat answer = one_event seat ∷ []

-- the word of a moment that is no idle turn
abbrev pub busy_word : Moment → List Word
busy_word (Event t) = busy_event t.seat t.answer
busy_word (Checkpoint entries) = word.Checkpoint ∷ []

-- the words of the moments of a run, without idle turns
abbrev pub busy_words : List Moment → List Word
busy_words ms = flat_map busy_word ms

-- how many events a word gives, where they are not one
abbrev pub times_text : ℕ → List ℕ
times_text times = if times == 1 then [] else codes "*" ++ decimal times

-- the text of a word
abbrev pub word_text : List (List ℕ) → Word → List ℕ
word_text names (word.Events seat times) = get_or names seat [] ++ times_text times
word_text names word.Checkpoint = codes "!checkpoint"
word_text names word.Finish = codes "finish"
word_text names word.Drawn = codes "!drawn"

-- what stands before a word: a space or a line feed
abbrev pub IsGap : ℕ → Type 0
IsGap byte = (byte ≡ 32) ⊎ (byte ≡ 10)

-- the texts of words, with one such byte before each
abbrev pub AreWordTexts : List (List ℕ) → List Word → List ℕ → Type 0
AreWordTexts names [] text = text ≡ []
AreWordTexts names (w ∷ words) text = (gap : ℕ) × (rest : List ℕ) × IsGap gap × (text ≡ gap ∷ (word_text names w ++ rest)) × AreWordTexts names words rest

-- a beginning of the script's text, byte for byte, and behind it words that give the moments of a run
abbrev pub IsScheduleText : List ℕ → List (List ℕ) → List Moment → List ℕ → Type 0
IsScheduleText input names ms text =
    (blocks rest texts : List ℕ) × (words : List Word) × (input ≡ blocks ++ rest) × (given_words words ≡ busy_words ms) × AreWordTexts names words texts × (text ≡ blocks ++ (texts ++ codes "\n"))

-- a script that an input has, with the moments of a run of it from there as its words
abbrev pub IsScheduleOn : Origin → Schedule → Script → List ℕ → List ℕ → Type 0
IsScheduleOn from schedule script input text = (ms : List Moment) × (last : Stage) × TellsOn from schedule script ms last × IsScheduleText input script.names ms text

-- the script that an input has, with the moments of a run of it as its words
abbrev pub IsScheduleOf : Schedule → List ℕ → List ℕ → Type 0
IsScheduleOf schedule input text = (script : Script) × (script_of input ≡ Ok script) × IsScheduleOn Root schedule script input text

-- ---- what is read of such a script

-- a text is read back as the script with the words of these moments, and nothing else of it is changed
abbrev pub IsReadAs : Script → List Moment → List ℕ → Type 0
IsReadAs script ms text = (words : List Word) × (given_words words ≡ busy_words ms) × (script_of text ≡ Ok (record script { words = words }))

-- each text of a run of an input by a schedule is that of a run of another input by its own words
abbrev pub HasSameRun : Schedule → List ℕ → List ℕ → Type 0
HasSameRun schedule input other = (end : RunEnd) (text : List ℕ) → IsRunOf schedule input end text → IsRunOf Given other end text

-- a text is read back as the script that an input has, with the moments of a run of it as its words, and has the text of that run
abbrev pub IsReadBack : Schedule → List ℕ → List ℕ → Type 0
IsReadBack schedule input text = (script : Script) × (script_of input ≡ Ok script) × (ms : List Moment) × (last : Stage) × TellsRun schedule script ms last × IsReadAs script ms text × HasSameRun schedule input text

-- the script that a text has runs so by its own words from there
abbrev pub RunsAgainOn : Origin → List ℕ → List Entry → Stage → Type 0
RunsAgainOn from text told last = (script : Script) × (script_of text ≡ Ok script) × RunsOn from Given script told last

-- a text is read back as a script with the moments of a run of it from there as its words, and that runs so again by these
abbrev pub IsReadBackOn : Origin → Schedule → Script → List ℕ → Type 0
IsReadBackOn from schedule script text = (ms : List Moment) × (last : Stage) × TellsOn from schedule script ms last × IsReadAs script ms text × RunsAgainOn from text (entries_told ms) last
