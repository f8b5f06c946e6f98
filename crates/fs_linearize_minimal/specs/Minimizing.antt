-- What is written of a history without an order.
use Rattle.std.specs.Prelude.{◌≡◌, ℕ, true, false, List, [], length, take, Some}
use Rattle.fs_calls.specs.Starts.{Start}
use Rattle.fs_timeline.specs.declared.entry.Entry.{Entry}
use Rattle.fs_linearize_histories.specs.declared.heard.Heard.{Heard}
use Rattle.fs_linearize_histories.specs.Histories.{Explains}
use Rattle.fs_linearize_histories.specs.Faults.{history_fault}
use Rattle.fs_linearize.specs.Limited.{WasLimited}
use Rattle.fs_linearize.specs.Results.{IsRefusedAt}
use Rattle.fs_linearize_minimal.specs.Parts.{IsPartOf, calls_in}
use Rattle.fs_linearize_minimal.specs.Reasons.{CouldBeRight, IsNotRight}
use Rattle.fs_linearize_minimal.specs.Minimal.{IsMinimal, IsRefuted}
use Rattle.fs_linearize_minimal.specs.Texts.{history_text}
use Rattle.fs_linearize_minimal.specs.declared.reason.Reason.{Reason}
use Rattle.fs_linearize_minimal.specs.declared.minimizing.Minimized.{Minimized}
use Rattle.fs_linearize_minimal.specs.declared.minimizing.Minimized.TheVariants.{Core, Lawful, Fault, Unknown}

-- why a history has no order
pub record IsReasonOf (start : Start) (h : List Heard) (limit place : ℕ) (reason : Reason) : Type 0 where
  pub later : ℕ
  pub refused : IsRefusedAt start h limit place reason.call reason.possible later
  pub race : reason.race ≡ true → CouldBeRight start reason.call (take place h)
  pub no_race : reason.race ≡ false → IsNotRight start limit reason.call (take place h)

-- what is left of a history, and its text
pub record IsCoreOf (start : Start) (h : List Heard) (limit calls all : ℕ) (text : List ℕ) : Type 0 where
  pub place : ℕ
  pub reason : Reason
  pub whole : IsReasonOf start h limit place reason
  pub left : List Heard
  pub part : IsPartOf left (take place h)
  pub refuted : IsRefuted start limit reason left
  pub minimal : IsMinimal start limit reason left
  pub calls_are : calls ≡ length (calls_in left)
  pub all_are : all ≡ length (calls_in h)
  pub text_is : text ≡ history_text start left

-- what is answered and written of a history: that; or a journal explains it, or it is none, or the limit was reached
abbrev pub IsMinimizing : Start → List Heard → ℕ → Minimized → List ℕ → Type 0
IsMinimizing start h limit (Core calls all trials) text = IsCoreOf start h limit calls all text
IsMinimizing start h limit Lawful text = ((es : List Entry) × Explains start h es) × (text ≡ [])
IsMinimizing start h limit (Fault place kind) text = (history_fault h ≡ Some (place, kind)) × (text ≡ [])
IsMinimizing start h limit (Unknown place) text = ((end : ℕ) × WasLimited start (take end h) limit place) × (text ≡ [])
