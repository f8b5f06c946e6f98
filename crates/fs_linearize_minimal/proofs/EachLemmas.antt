-- Calls that are tried one after the other.
use Rattle.std.proofs.Common.{◌≡◌, ℕ, ◌<◌, ◌≤◌, Bool, true, false, ◌||◌, List, [], ◌∷◌, length, refl, sym, ◌∙◌, subst, arith}
use Rattle.fs_calls.specs.Starts.{Start}
use Rattle.fs_linearize_histories.specs.declared.heard.Heard.{Heard}
use Rattle.fs_linearize_minimal.specs.Parts.{IsPartOf, without}
use Rattle.fs_linearize_minimal.specs.Minimal.{AreNeeded, IsNeeded}
use Rattle.fs_linearize_minimal.specs.declared.reason.Reason.{Reason}
use Rattle.fs_linearize_minimal.proofs.PartLemmas.{short_part}

-- behind one more: if one went, there are fewer entries; if none did, the entries are the same, and so many calls are needed
pub each_next : (start : Start) (limit : ℕ) (reason : Reason) (h old new : List Heard) (went goes both : Bool) (call : ℕ) (rest calls : List ℕ) → both ≡ (went || goes) → IsPartOf old h → (went ≡ true → length old < length h) → (went ≡ false → old ≡ h) → (went ≡ false → AreNeeded start limit reason h (call ∷ rest) → AreNeeded start limit reason h calls) → (goes ≡ true → length new < length old) → (goes ≡ false → new ≡ old) → (goes ≡ false → length (without (call ∷ []) old) < length old → IsNeeded start limit reason (without (call ∷ []) old)) → length (without (call ∷ []) h) < length h
    → (both ≡ true → length new < length h) × (both ≡ false → new ≡ h) × (both ≡ false → AreNeeded start limit reason h rest → AreNeeded start limit reason h calls)
each_next start limit reason h old new true true both call rest calls is part shorter same needed went stays cannot less = (
  λ t. let a : length new < length old = went refl in let b : length old ≤ length h = short_part old h part in omega (arith, a, b),
  λ f. absurd (cc),
  λ f. absurd (cc),
)
each_next start limit reason h old new true false both call rest calls is part shorter same needed went stays cannot less = (
  λ t. subst (λ (k : List Heard). length k < length h) (sym (stays refl)) (shorter refl),
  λ f. absurd (cc),
  λ f. absurd (cc),
)
each_next start limit reason h old new false true both call rest calls is part shorter same needed went stays cannot less = (
  λ t. let a : length new < length old = went refl in let b : length old ≤ length h = short_part old h part in omega (arith, a, b),
  λ f. absurd (cc),
  λ f. absurd (cc),
)
each_next start limit reason h old new false false both call rest calls is part shorter same needed went stays cannot less =
    let whole : old ≡ h = same refl in
    let lost : length (without (call ∷ []) old) < length old = subst (λ (k : List Heard). length (without (call ∷ []) k) < length k) (sym whole) less in
    let one : IsNeeded start limit reason (without (call ∷ []) h) = subst (λ (k : List Heard). IsNeeded start limit reason (without (call ∷ []) k)) whole (cannot refl lost) in (
      λ t. absurd (cc),
      λ f. stays refl ∙ whole,
      λ f known. needed refl (one, known),
    )
