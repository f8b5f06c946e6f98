-- The part of a script's text that stays, and the words that are written behind it.
use Rattle.std.specs.Prelude.{ℕ, ◌≡◌, ◌≤◌, Bool, true, false, List, [], ◌∷◌, ◌++◌, codes}
use Rattle.std.specs.List.{list_any}
use Rattle.std.specs.Str.{bytes_eq}
use Rattle.fs_words.specs.Lines.{lines_of}
use Rattle.fs_script.specs.Limits.{events_in}
use Rattle.fs_script.specs.declared.limits.TheConstants.{EVENT_LIMIT}
use Rattle.fs_script.specs.declared.script.Word.{Word}
use Rattle.fs_script.specs.declared.script.Word.TheVariants as word
use Rattle.fs_sched.specs.Gives.{given_words}
use Rattle.fs_trace.specs.Traces.{busy_words, AreWordTexts, IsGap}
use Rattle.fs_trace.specs.declared.script_text.RunWords.{RunWords}
use Rattle.fs_trace.specs.declared.script_text.TheConstants.{LINE_WIDTH}
use Rattle.fs_sched_witness.specs.declared.moments.Moment.{Moment}

-- ---- words of a run

-- each word gives events, one at least, or is a checkpoint
abbrev pub AreTimed : List Word → Type 0
AreTimed [] = Unit {0}
AreTimed (word.Events seat times ∷ words) = (1 ≤ times) × AreTimed words
AreTimed (word.Checkpoint ∷ words) = AreTimed words
AreTimed (word.Finish ∷ words) = ⊥
AreTimed (word.Drawn ∷ words) = ⊥

-- all words of moments, where a script has room for them
pub record AreAllWords (run : RunWords) (ms : List Moment) : Type 0 where
  pub given : given_words run.words.items ≡ busy_words ms
  pub timed : AreTimed run.words.items
  pub counted : events_in (busy_words ms) ≤ run.events
  pub few : run.events ≤ EVENT_LIMIT

-- the words of moments, and how many events they give: once these are too many for a script, no more than they are
pub record HasWords (run : RunWords) (ms : List Moment) : Type 0 where
  pub most : run.events ≤ events_in (busy_words ms)
  pub all : run.events ≤ EVENT_LIMIT → AreAllWords run ms

-- ---- words that are written

-- what stands before a word: a line feed where the line has its width
abbrev pub IsGapBehind : ℕ → ℕ → Type 0
IsGapBehind width gap = IsGap gap × (LINE_WIDTH ≤ width → gap ≡ 10)

-- a text is empty or begins with a line feed
abbrev pub IsBehindLine : List ℕ → Type 0
IsBehindLine [] = Unit {0}
IsBehindLine (b ∷ bs) = b ≡ 10

-- a text has the texts of words behind it, which begin on a new line
abbrev pub AddsWords : List (List ℕ) → List Word → List ℕ → List ℕ → Type 0
AddsWords names words old new = (texts : List ℕ) × AreWordTexts names words texts × IsBehindLine texts × (new ≡ old ++ texts)

-- ---- the part that stays

-- a text begins with this
abbrev pub IsBeginning : List ℕ → List ℕ → Type 0
IsBeginning text beginning = (rest : List ℕ) × (text ≡ beginning ++ rest)

-- the line at which the schedule begins
abbrev pub is_schedule : List ℕ → Bool
is_schedule line = bytes_eq line (codes "schedule")

-- the lines of a text up to its first line `schedule` are the first lines of the head too, whatever is written behind that
abbrev pub IsHead : List ℕ → List ℕ → Type 0
IsHead text head =
    (before after : List (List ℕ)) × (list_any is_schedule before ≡ false) × (lines_of text ≡ before ++ codes "schedule" ∷ after)
    × ((more : List ℕ) → lines_of (head ++ 10 ∷ more) ≡ before ++ codes "schedule" ∷ lines_of more)

-- the same where the text has such a line
abbrev pub HasHead : List ℕ → List ℕ → Type 0
HasHead text head = list_any is_schedule (lines_of text) ≡ true → IsHead text head

-- a text is the head of a script's text, with words on new lines behind it
pub record IsWritten (input : List ℕ) (names : List (List ℕ)) (words : List Word) (text : List ℕ) : Type 0 where
  pub head : List ℕ
  pub texts : List ℕ
  pub has_head : HasHead input head
  pub are_texts : AreWordTexts names words texts
  pub behind : IsBehindLine texts
  pub is : text ≡ head ++ (texts ++ codes "\n")
