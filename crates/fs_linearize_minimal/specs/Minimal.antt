-- What is left of a history without an order.
use Rattle.std.specs.Prelude.{◌≡◌, ◌⊎◌, ◌-◌, ℕ, true, List, [], ◌∷◌, length, take, None}
use Rattle.fs_calls.specs.Starts.{Start}
use Rattle.fs_linearize_histories.specs.declared.heard.Heard.{Heard}
use Rattle.fs_linearize_histories.specs.Histories.{HasNoOrder}
use Rattle.fs_linearize_histories.specs.Faults.{history_fault}
use Rattle.fs_linearize.specs.Possible.{ArePossible}
use Rattle.fs_linearize.specs.Results.{IsAnswerFor, IsReturnAt, fault_in}
use Rattle.fs_linearize.specs.declared.replies.Possible.{Possible}
use Rattle.fs_linearize.specs.declared.linearizing.Found.{Found}
use Rattle.fs_linearize_minimal.specs.Parts.{without, calls_in}
use Rattle.fs_linearize_minimal.specs.Reasons.{CouldBeRight, IsNotRight, is_same, place_in}
use Rattle.fs_linearize_minimal.specs.declared.reason.Reason.{Reason}

-- a history that no journal explains for this reason: its last entry is the first return that nothing explains, and that of this call; its reply could be right if that is a race, and else the call could have had the same replies
pub record IsRefuted (start : Start) (limit : ℕ) (reason : Reason) (h : List Heard) : Type 0 where
  pub history : history_fault h ≡ None
  pub order : HasNoOrder start h (length h)
  pub returns : IsReturnAt h (length h) reason.call
  pub replies : (p : Possible) × ArePossible start (take (length h - 1) h) limit reason.call p × (is_same reason reason.call p ≡ true)
  pub race : reason.race ≡ true → CouldBeRight start reason.call h

-- entries are not refused for this reason, by what is found of them
abbrev pub IsNeeded : Start → ℕ → Reason → List Heard → Type 0
IsNeeded start limit reason h = ((f : Found) × IsAnswerFor start h limit f × (fault_in f ≡ history_fault h) × (place_in reason f ≡ None)) ⊎ ((end : ℕ) × (reason.race ≡ true) × IsNotRight start limit reason.call (take end h))

-- the same without each of these calls
abbrev pub AreNeeded : Start → ℕ → Reason → List Heard → List ℕ → Type 0
AreNeeded start limit reason h [] = Unit {0}
AreNeeded start limit reason h (c ∷ calls) = IsNeeded start limit reason (without (c ∷ []) h) × AreNeeded start limit reason h calls

-- none of its calls can go
abbrev pub IsMinimal : Start → ℕ → Reason → List Heard → Type 0
IsMinimal start limit reason h = AreNeeded start limit reason h (calls_in h)
