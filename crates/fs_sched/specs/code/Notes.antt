-- Moments that came, and were told.
use Rattle.std.specs.Prelude.{ℕ, ◌≡◌, ◌≢◌, ◌∷◌, ◌++◌, [], Bool, true, false, map, List}
use Rattle.std.specs.List.{range_with_len}
use Rattle.fs_calls.specs.declared.call.Call.{Call}
use Rattle.fs_script.specs.declared.script.Script.{Script}
use Rattle.fs_script.specs.declared.script.Word.{Word}
use Rattle.fs_sched.specs.declared.schedule.Schedule.{Schedule}
use Rattle.fs_sched.specs.Runs.{Stage}
use Rattle.fs_sched.specs.Moments.{AnswersEvent, AreMoments, words_of, AreOfWords, AnswersToEnd, TellsFrom}
use Rattle.fs_sched_witness.specs.Moments.{Hears, event_of, spent_of}
use Rattle.fs_sched_witness.specs.declared.moments.Answer.{Answer}
use Rattle.fs_sched_witness.specs.declared.moments.Answer.TheVariants.{Spent}
use Rattle.fs_sched_witness.specs.declared.moments.Moment.{Moment}

-- moments of these words have come, and were told
abbrev pub Notes : {A : Type 0} → (A → A → List Moment → Type 0) → List (List Call) → Stage → A → List Word → Stage → A → Type 0
Notes told lists old w words new v = (ms : List Moment) × Hears told w ms v × (words_of ms ≡ words) × AreMoments lists old ms new

-- an event came of a thread that had something to do, and was told behind those of so many others that have nothing; or it had nothing to do, and nobody was told
abbrev pub Happens : {A : Type 0} → (A → A → List Moment → Type 0) → List (List Call) → Stage → A → ℕ → ℕ → Bool → Stage → A → Type 0
Happens told lists old u before seat true new v = (answer : Answer) × (answer ≢ Spent) × AnswersEvent lists old seat answer new × Hears told u (map spent_of (range_with_len 0 before) ++ event_of seat answer ∷ []) v
Happens told lists old u before seat false new v = AnswersEvent lists old seat Spent new × (v ≡ u)

-- the same of words that may be cut off
abbrev pub NotesCut : {A : Type 0} → (A → A → List Moment → Type 0) → List (List Call) → Stage → A → List Word → Stage → A → Type 0
NotesCut told lists old w words new v = (ms : List Moment) × Hears told w ms v × AreMoments lists old ms new × AreOfWords lists words ms new

-- the same of rounds to the end
abbrev pub NotesToEnd : {A : Type 0} → (A → A → List Moment → Type 0) → List (List Call) → Stage → A → Stage → A → Type 0
NotesToEnd told lists old w new v = (ms : List Moment) × Hears told w ms v × AnswersToEnd lists old ms new

-- the same of all moments of a run
abbrev pub NotesRun : {A : Type 0} → (A → A → List Moment → Type 0) → Schedule → Script → Stage → A → Stage → A → Type 0
NotesRun told schedule script old w new v = (ms : List Moment) × Hears told w ms v × TellsFrom schedule script old ms new
