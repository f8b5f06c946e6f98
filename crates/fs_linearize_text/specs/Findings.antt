-- What is found of a history, as it is written.
use Rattle.std.specs.Prelude.{◌≡◌, ◌≢◌, ◌⊎◌, ◌-◌, ℕ, Bool, true, false, List, take, slice_get, Some}
use Rattle.fs_calls.specs.Starts.{Start}
use Rattle.fs_timeline.specs.declared.entry.Entry.{Entry}
use Rattle.fs_linearize_histories.specs.declared.heard.Heard.{Heard}
use Rattle.fs_linearize_histories.specs.declared.heard.Heard.TheVariants.{Return}
use Rattle.fs_linearize_histories.specs.declared.heard.Pattern.{Pattern}
use Rattle.fs_linearize_histories.specs.Histories.{Explains}
use Rattle.fs_linearize_histories.specs.Faults.{history_fault}
use Rattle.fs_linearize.specs.Limited.{WasLimited}
use Rattle.fs_linearize.specs.Results.{IsAnswerFor, fault_in}
use Rattle.fs_linearize.specs.declared.linearizing.Found.{Found}
use Rattle.fs_linearize.specs.declared.replies.Possible.{Possible}
use Rattle.fs_linearize.specs.declared.linearizing.Found.TheVariants as found
use Rattle.fs_linearize_text.specs.Answers.{front_text, found_text, outcome_of}
use Rattle.fs_linearize_text.specs.declared.answer.Outcome.TheVariants.{NoOrder}

-- the front of a history up to a return that nothing explains: a journal explains what is before it
abbrev pub IsFrontText : Start × List Heard → ℕ → ℕ → List ℕ → Type 0
IsFrontText h place call text = (j : List Entry) × (p : Pattern) × (slice_get h.1 (place - 1) ≡ Some (Return call p)) × Explains h.0 (take (place - 1) h.1) j × (text ≡ front_text h.0 j call p)

-- the limit was reached in the search for such a journal
abbrev pub IsFrontLimited : Start × List Heard → ℕ → ℕ → Type 0
IsFrontLimited h limit place = (end at : ℕ) × WasLimited h.0 (take end (take (place - 1) h.1)) limit at

-- what is written of what is found; if the front is asked for, that in the place of `none`
pub record IsTextOf (h : Start × List Heard) (limit : ℕ) (front : Bool) (f : Found) (text : List ℕ) : Type 0 where
  pub plain : front ≡ false → text ≡ found_text h.0 f
  pub other : outcome_of f ≢ NoOrder → text ≡ found_text h.0 f
  pub front_is : front ≡ true → (place call : ℕ) (possible : Possible) (held : ℕ) → f ≡ found.NoOrder place call possible held → IsFrontText h place call text ⊎ (IsFrontLimited h limit place × (text ≡ found_text h.0 f))

-- what is found of a history is true of it, its faults come first, and this is its text
pub record IsFoundOf (h : Start × List Heard) (limit : ℕ) (front : Bool) (f : Found) (text : List ℕ) : Type 0 where
  pub answer : IsAnswerFor h.0 h.1 limit f
  pub fault : fault_in f ≡ history_fault h.1
  pub text_is : IsTextOf h limit front f text
