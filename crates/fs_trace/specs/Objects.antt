-- The trace of a run as objects of JSON, one a line.
use Rattle.std.specs.Prelude.{ℕ, ◌≡◌, Bool, List, [], ◌∷◌, ◌++◌, map, get_or, Ok, Option, Some, None, codes}
use Rattle.std.specs.List.{flat_map}
use Rattle.fs_calls.specs.Tree.{Tree}
use Rattle.fs_words.specs.JsonObjects.{Member, Text, Number, object_text}
use Rattle.fs_machine.specs.States.{State}
use Rattle.fs_script.specs.Script.{script_of}
use Rattle.fs_script.specs.TreeText.{tree_text, IsSpelled}
use Rattle.fs_script.specs.declared.script.Script.{Script}
use Rattle.fs_sched.specs.Moments.{TellsRun}
use Rattle.fs_sched.specs.Runs.{Stage, end_of}
use Rattle.fs_sched.specs.RunTexts.{number_of}
use Rattle.fs_sched.specs.declared.run_texts.EntryKind.TheVariants as kind
use Rattle.fs_sched.specs.declared.running.RunEnd.{RunEnd}
use Rattle.fs_sched.specs.declared.schedule.Schedule.{Schedule}
use Rattle.fs_trace_story.specs.Shown.{deed_told, shown, Saying}
use Rattle.fs_trace_story.specs.declared.page.Deed.{Deed}
use Rattle.fs_trace_story.specs.declared.page.Deed.TheVariants as deed
use Rattle.fs_timeline.specs.declared.entry.Entry.{Entry}
use Rattle.fs_sched_witness.specs.Moments.{entries_told}
use Rattle.fs_sched_witness.specs.declared.moments.Moment.{Moment}

-- what a moment did, in words
abbrev pub deed_word : Deed → List ℕ
deed_word deed.Idles = codes "has nothing left"
deed_word deed.Begins = codes "begins"
deed_word (deed.Takes node) = codes "locks"
deed_word (deed.Waits node call) = codes "waits"
deed_word (deed.LetsGo node) = codes "unlocks"
deed_word (deed.Helps call) = codes "helps"
deed_word deed.Commits = codes "commits"
deed_word deed.CarriesOut = codes "makes its change"
deed_word deed.Returns = codes "returns"
deed_word deed.Checkpoint = codes "checkpoint"

-- the thread of an event, and its number
abbrev pub whose : List (List ℕ) → ℕ → Option ℕ → List Member
whose names number None = []
whose names number (Some seat) = (codes "event", Number number) ∷ (codes "thread", Text (get_or names seat [])) ∷ []

-- the first members of the object of a moment: the number of its event, its thread, and what it did
abbrev pub told_members : List (List ℕ) → Saying → List Member
told_members names told = whose names told.0 told.1.0 ++ (codes "did", Text (deed_word told.1.1)) ∷ []

-- an object has these members, and then others
abbrev pub IsObjectOf : List Member → List ℕ → Type 0
IsObjectOf first line = (more : List Member) × (line ≡ object_text (first ++ more))

-- an object for each of what is told, in order
abbrev pub AreObjects : List (List ℕ) → List Saying → List ℕ → Type 0
AreObjects names [] text = text ≡ []
AreObjects names (s ∷ told) text = (line rest : List ℕ) × IsObjectOf (told_members names s) line × AreObjects names told rest × (text ≡ line ++ rest)

-- the object of a thread
abbrev pub thread_object : List ℕ → List ℕ
thread_object name = object_text ((codes "thread", Text name) ∷ (codes "did", Text (codes "starts")) ∷ [])

-- the last object: the tree, and the numbers of entries of each kind
abbrev pub end_object : Tree → List Entry → List ℕ
end_object t es =
    object_text ((codes "did", Text (codes "ends")) ∷ (codes "tree", Text (tree_text t)) ∷ (codes "begun", Number (number_of kind.Begin es)) ∷ (codes "committed", Number (number_of kind.Commit es)) ∷ (codes "returned", Number (number_of kind.Return es)) ∷ [])

-- the objects of a trace: one for each thread, for each moment that is shown, for each call that is left, and for the end of the run
abbrev pub IsObjectText : Bool → List (List ℕ) → List Moment → State → List ℕ → Type 0
IsObjectText every names ms last text =
    (lines : List ℕ) × (left : List (List Member)) × (t : Tree) × AreObjects names (map deed_told (shown every ms)) lines × IsSpelled last.graph t
    × (text ≡ flat_map thread_object names ++ (lines ++ (flat_map object_text left ++ end_object t last.timeline)))

-- the trace of a run of the script that an input has, as objects, and how that run ended in all its pieces
abbrev pub AreObjectsOf : Schedule → Bool → List ℕ → RunEnd → List ℕ → Type 0
AreObjectsOf schedule every input end text =
    (script : Script) × (script_of input ≡ Ok script) × (ms : List Moment) × (last : Stage) × TellsRun schedule script ms last × (end ≡ end_of script (entries_told ms ++ last.state.timeline))
    × IsObjectText every script.names ms last.state text
