-- What is learned of histories, and the table that is written of it.
use Rattle.std.specs.Prelude.{◌≡◌, ℕ, Bool, List, [], ◌∷◌, Option, Some, None, Result, Ok, if◌then◌else◌}
use Rattle.std.specs.List.{flat_map, list_any}
use Rattle.fs_calls.specs.Starts.{Start}
use Rattle.fs_timeline.specs.declared.entry.Entry.{Entry}
use Rattle.fs_linearize_histories.specs.declared.heard.Heard.{Heard}
use Rattle.fs_linearize_histories.specs.declared.fault.HistoryFault.{HistoryFault}
use Rattle.fs_linearize_histories.specs.Faults.{history_fault}
use Rattle.fs_linearize_histories.specs.Histories.{Explains}
use Rattle.fs_words.specs.declared.fault.ScriptFault.{ScriptFault}
use Rattle.fs_linearize_dialects.specs.Dialects.{widened}
use Rattle.fs_linearize_dialects.specs.declared.dialect.Row.{Row}
use Rattle.fs_linearize_dialects.specs.Learning.{learned, is_overlap, is_unexplained}
use Rattle.fs_linearize_dialects.specs.LearnedTables.{proposed, table_text}
use Rattle.fs_linearize_dialects.specs.declared.learning.End.{End}
use Rattle.fs_linearize_dialects.specs.declared.learning.End.TheVariants as end
use Rattle.fs_linearize_text.specs.declared.learning.Learning.{Learning}
use Rattle.fs_linearize_text.specs.declared.learning.Learning.TheVariants.{Explained, Unexplained, Overlapping}
use Rattle.fs_linearize_text.specs.declared.learning.Learned.{Learned}

-- what is learned of a history: nothing of entries that are none
abbrev pub lesson_by : Option (ℕ × HistoryFault) → List Row × End → List Row × End
lesson_by (Some f) told = ([], end.Fault f.0 f.1)
lesson_by None told = told

abbrev pub lesson : Start × List Heard → List Row × End
lesson h = lesson_by (history_fault h.1) (learned h.0 0 h.1)

-- the rows of histories
abbrev pub rows_of_lesson : Start × List Heard → List Row
rows_of_lesson h = (lesson h).0

abbrev pub rows_in : List (Start × List Heard) → List Row
rows_in hs = flat_map rows_of_lesson hs

-- two calls of it overlap; no row explains a return of it, or it is no history
abbrev pub overlaps : Start × List Heard → Bool
overlaps h = is_overlap (lesson h).1

abbrev pub stays_unexplained : Start × List Heard → Bool
stays_unexplained h = is_unexplained (lesson h).1

-- what came of histories
abbrev pub learning_by : Bool → Bool → Learning
learning_by overlap unexplained = if overlap then Overlapping else (if unexplained then Unexplained else Explained)

abbrev pub learning_of : List (Start × List Heard) → Learning
learning_of hs = learning_by (list_any overlaps hs) (list_any stays_unexplained hs)

-- what is written: the table of their rows; nothing if calls overlap
abbrev pub written_of : Bool → List Row → List ℕ
written_of overlap rows = if overlap then [] else table_text rows

abbrev pub learned_text : List (Start × List Heard) → List ℕ
learned_text hs = written_of (list_any overlaps hs) (rows_in hs)

-- read by a table, each history is linearizable that rows explain to its end
abbrev pub AreAccepted : List Row → List (Start × List Heard) → Type 0
AreAccepted all [] = Unit {0}
AreAccepted all (h ∷ hs) = ((lesson h).1 ≡ end.Whole → (es : List Entry) × Explains h.0 (widened all h.1) es) × AreAccepted all hs

-- what is answered and written of histories that were read; the table that is written has what explains them
pub record IsLearning (given : Result (List (Start × List Heard)) ScriptFault) (told : Learned) (text : List ℕ) : Type 0 where
  pub histories : List (Start × List Heard)
  pub read : given ≡ Ok histories
  pub outcome : told.outcome ≡ learning_of histories
  pub text_is : text ≡ learned_text histories
  pub accepted : AreAccepted (proposed (rows_in histories)) histories
