-- The trace of a journal, and that of an input.
use Rattle.std.specs.Prelude.{ℕ, ◌≡◌, ◌==◌, Bool, true, false, List, ◌++◌, Ok, codes, decimal}
use Rattle.std.specs.List.{join_with_byte}
use Rattle.fs_calls.specs.Starts.{Start}
use Rattle.fs_timeline.specs.Verdicts.{verdict}
use Rattle.fs_timeline.specs.declared.entry.Entry.{Entry}
use Rattle.fs_timeline.specs.declared.entry.Entry.TheVariants.{Begin, Commit, Return}
use Rattle.fs_text.specs.Calls.{call_words}
use Rattle.fs_text.specs.Journal.{reply_words}
use Rattle.fs_script.specs.Journals.{journal_of}
use Rattle.fs_sched.specs.RunTexts.{end_line}
use Rattle.fs_sched.specs.declared.running.RunEnd.{RunEnd}
use Rattle.fs_sched.specs.declared.schedule.Schedule.{Schedule}
use Rattle.fs_sched.specs.declared.schedule.Schedule.TheVariants.{Given}
use Rattle.fs_trace.specs.Objects.{AreObjectsOf}
use Rattle.fs_trace.specs.Traces.{IsTraceOf}
use Rattle.fs_trace_replay.specs.Commits.{front_by}
use Rattle.fs_trace_replay.specs.Replays.{IsReplayOf}
use Rattle.fs_trace_replay.specs.declared.asking.Question.TheVariants.{Whole}
use Rattle.fs_trace_entries.specs.Each.{AreEach}
use Rattle.fs_trace_entries.specs.Objects.{AreObjectsBehind}
use Rattle.fs_trace_entries.specs.declared.running.Notation.{Notation}
use Rattle.fs_trace_entries.specs.declared.running.Notation.TheVariants.{Words, Objects}

-- the line of an entry: its place, its call and the seat of that, what it does, and words behind that
abbrev pub line_text : ℕ → List ℕ → ℕ → List ℕ → List ℕ → List ℕ
line_text n seat c verb words = decimal n ++ (codes " call " ++ (decimal c ++ (codes " on seat " ++ (seat ++ (verb ++ (words ++ codes "\n"))))))

-- the same of this entry: who began what, whose call committed, and what was returned to whom
abbrev pub IsLine : ℕ → Entry → List ℕ → Type 0
IsLine n (Begin c seat call) line = line ≡ line_text n (decimal seat) c (codes " begins ") (join_with_byte 32 (call_words call))
IsLine n (Commit c) line = (seat effect : List ℕ) × (line ≡ line_text n seat c (codes " commits, ") effect)
IsLine n (Return c r) line = (seat : List ℕ) × (line ≡ line_text n seat c (codes " returns ") (join_with_byte 32 (reply_words r)))

-- a line for each entry, from this place on
abbrev pub AreLines : ℕ → List Entry → List ℕ → Type 0
AreLines n es text = AreEach IsLine n es text

-- the trace of these entries, behind which this tree stands: a line for each, lines of the calls that are left, the tree, and the counts
abbrev pub IsTraceBehind : List Entry → List ℕ → List ℕ → Type 0
IsTraceBehind es tree text = (lines left : List ℕ) × AreLines 1 es lines × (text ≡ codes "atomfs-trace 2\n" ++ (lines ++ (left ++ (tree ++ end_line es))))

-- the same in words, or as objects
abbrev pub IsWrittenBehind : Notation → List Entry → List ℕ → List ℕ → Type 0
IsWrittenBehind Words es tree text = IsTraceBehind es tree text
IsWrittenBehind Objects es tree text = AreObjectsBehind es tree text

-- the trace of a journal: its entries, or those before its first fault, and the tree that these make; it went well where it is lawful
abbrev pub IsTraceOfJournal : Notation → List ℕ → Bool → List ℕ → Type 0
IsTraceOfJournal notation input well text =
    (start : Start) × (es : List Entry) × (tree : List ℕ) × (journal_of input ≡ Ok (start, es)) × IsReplayOf Given input Whole well tree
    × IsWrittenBehind notation (front_by (verdict start es) es) tree text

-- the trace of a run, in words or as objects
abbrev pub IsWrittenRun : Notation → Schedule → Bool → List ℕ → RunEnd → List ℕ → Type 0
IsWrittenRun Words schedule every input end text = IsTraceOf schedule every input end text
IsWrittenRun Objects schedule every input end text = AreObjectsOf schedule every input end text

-- it went well where each call of the script returned
abbrev pub IsTraceOfRun : Notation → Schedule → Bool → List ℕ → Bool → List ℕ → Type 0
IsTraceOfRun notation schedule every input well text = (end : RunEnd) × IsWrittenRun notation schedule every input end text × (well ≡ (end.returned == end.calls))

-- that of an input, as a journal or as a script
abbrev pub IsTraceAs : Notation → Bool → Schedule → Bool → List ℕ → Bool → List ℕ → Type 0
IsTraceAs notation true schedule every input well text = IsTraceOfJournal notation input well text
IsTraceAs notation false schedule every input well text = IsTraceOfRun notation schedule every input well text
