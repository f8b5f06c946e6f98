-- The first return that nothing explains, and what is left of the history up to it.
use Rattle.std.specs.Prelude.{◌≡◌, ℕ, List, length, None}
use Rattle.fs_calls.specs.Starts.{Start}
use Rattle.fs_linearize_histories.specs.declared.heard.Heard.{Heard}
use Rattle.fs_linearize.specs.Results.{IsRefusedAt}
use Rattle.fs_linearize_histories.specs.Faults.{history_fault}
use Rattle.fs_linearize_minimal.specs.Parts.{IsPartOf, calls_in}
use Rattle.fs_linearize_minimal.specs.Minimal.{IsMinimal, IsRefuted}
use Rattle.fs_linearize_minimal.specs.Texts.{history_text}
use Rattle.fs_linearize_minimal.specs.declared.reason.Reason.{Reason}
use Rattle.fs_linearize_minimal.specs.declared.minimizing.Core.{Core}
use Rattle.fs_linearize_minimal.specs.declared.minimizing.Refusal.{Refusal}

-- what is left of a history that ends with the first return that nothing explains
pub record IsCut (start : Start) (limit : ℕ) (reason : Reason) (front : List Heard) (core : Core) : Type 0 where
  pub left : List Heard
  pub part : IsPartOf left front
  pub refuted : IsRefuted start limit reason left
  pub minimal : IsMinimal start limit reason left
  pub calls_are : core.calls ≡ length (calls_in left)
  pub text_is : core.text.items ≡ history_text start left

-- the first return that nothing explains
pub record IsRefusedBy (start : Start) (h : List Heard) (limit : ℕ) (refusal : Refusal) : Type 0 where
  pub history : history_fault h ≡ None
  pub later : ℕ
  pub refused : IsRefusedAt start h limit refusal.place refusal.call refusal.possible later
