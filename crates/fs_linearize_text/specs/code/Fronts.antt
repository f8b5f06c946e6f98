-- What is told of a history up to the first return that nothing explains.
use Rattle.std.specs.Prelude.{◌≡◌, ◌≢◌, ◌⊎◌, ◌-◌, ◌<◌, ℕ, List, take, slice_get, Option, Some}
use Rattle.fs_calls.specs.Starts.{Start}
use Rattle.fs_timeline.specs.declared.entry.Entry.{Entry}
use Rattle.fs_linearize_histories.specs.declared.heard.Heard.{Heard}
use Rattle.fs_linearize_histories.specs.declared.heard.Heard.TheVariants.{Return}
use Rattle.fs_linearize_histories.specs.declared.heard.Pattern.{Pattern}
use Rattle.fs_linearize_histories.specs.Histories.{Explains}
use Rattle.fs_linearize_histories.specs.Faults.{history_fault}
use Rattle.fs_linearize.specs.Results.{IsAnswerFor, fault_in}
use Rattle.fs_linearize.specs.declared.linearizing.Found.{Found}
use Rattle.fs_linearize_text.specs.Answers.{front_text, outcome_of}
use Rattle.fs_linearize_text.specs.Findings.{IsFrontText, IsFrontLimited}
use Rattle.fs_linearize_text.specs.declared.answer.Outcome.TheVariants.{Lawful}

-- a list is cut at the entry of a place, counted from 1
abbrev pub IsCutAt : List Heard → ℕ → List Heard → Option Heard → Type 0
IsCutAt h place before last = (x : Heard) → 0 < place → slice_get h (place - 1) ≡ Some x → (before ≡ take (place - 1) h) × (last ≡ Some x)

-- a journal explains entries, and its text is told with the return behind them
abbrev pub IsFrontBehind : Start → List Heard → Option Heard → List ℕ → Type 0
IsFrontBehind start before last text = (c : ℕ) (p : Pattern) → last ≡ Some (Return c p) → (j : List Entry) × Explains start before j × (text ≡ front_text start j c p)

-- no journal was found that explains them
abbrev pub IsNoneBehind : Start → List Heard → Option Heard → ℕ → Type 0
IsNoneBehind start before last limit = (c : ℕ) (p : Pattern) → last ≡ Some (Return c p) → (f : Found) × (outcome_of f ≢ Lawful) × IsAnswerFor start before limit f × (fault_in f ≡ history_fault before)

-- the front, or the plain text where the limit was reached
abbrev pub IsFrontOr : Start × List Heard → ℕ → ℕ → ℕ → List ℕ → List ℕ → Type 0
IsFrontOr h limit place call plain text = IsFrontText h place call text ⊎ (IsFrontLimited h limit place × (text ≡ plain))
