-- Configurations that were reached, and the timelines that lead to them, which go by the steps of a way.
use Rattle.std.specs.Prelude.{◌≡◌, ◌+◌, ◌-◌, ◌<◌, ℕ, List, [], ◌∷◌, map, reverse, slice_get, Some, Contains}
use Rattle.fs_calls.specs.Starts.{Start}
use Rattle.fs_timeline.specs.declared.entry.Entry.{Entry}
use Rattle.fs_timeline.specs.declared.entry.Entry.TheVariants.{Commit}
use Rattle.fs_linearize_histories.specs.declared.heard.Heard.{Heard}
use Rattle.fs_linearize_histories.specs.Heard.{IsHeardAs}
use Rattle.fs_linearize_histories.specs.Configurations.{Configuration}
use Rattle.fs_linearize_histories.specs.Paths.{LeadsTo}
use Rattle.fs_linearize_configurations.specs.declared.reached.Reached.{Reached}
use Rattle.fs_linearize_configurations.specs.declared.steps.Link.{Link}
use Rattle.fs_linearize_configurations.specs.declared.steps.Step.{Step}
use Rattle.fs_linearize_configurations.specs.declared.steps.Step.TheVariants.{Passes, Commits}

-- a timeline goes by steps along a history
abbrev pub GoesBy : List Heard → List Step → List Entry → Type 0
GoesBy h [] es = es ≡ []
GoesBy h (Passes ∷ ss) [] = ⊥
GoesBy [] (Passes ∷ ss) (e ∷ es) = ⊥
GoesBy (x ∷ h) (Passes ∷ ss) (e ∷ es) = IsHeardAs e x × GoesBy h ss es
GoesBy h (Commits c ∷ ss) [] = ⊥
GoesBy h (Commits c ∷ ss) (e ∷ es) = (e ≡ Commit c) × GoesBy h ss es

-- the commit of this place, counted from 1, is the last step of a way behind so many entries
pub record IsLast (links : List Link) (at last : ℕ) (link : Link) : Type 0 where
  pub some : 0 < last
  pub is : slice_get links (last - 1) ≡ Some link
  pub place : link.at ≡ at
  pub earlier : link.before < last

-- the steps of a way behind so many entries, the last first, of which the last commit has this place
abbrev pub GoesBack : List Link → ℕ → ℕ → List Step → Type 0
GoesBack links at last [] = (at ≡ 0) × (last ≡ 0)
GoesBack links at last (Passes ∷ ss) = (n : ℕ) × (at ≡ n + 1) × GoesBack links n last ss
GoesBack links at last (Commits c ∷ ss) = (link : Link) × IsLast links at last link × (link.number ≡ c) × GoesBack links at link.before ss

-- a timeline leads to a configuration, by the way back from a commit
pub record IsLedBy (start : Start) (h : List Heard) (links : List Link) (x : Configuration) (last : ℕ) : Type 0 where
  pub es : List Entry
  pub steps : List Step
  pub leads : LeadsTo start h es x
  pub back : GoesBack links x.at last steps
  pub goes : GoesBy h (reverse steps) es

abbrev pub IsLed : Start → List Heard → List Link → Reached → Type 0
IsLed start h links r = IsLedBy start h links r.configuration r.last

abbrev pub AllLed : Start → List Heard → List Link → List Reached → Type 0
AllLed start h links layer = (r : Reached) → Contains layer r → IsLed start h links r

-- more commits stand behind those that stood there, so each way is there still
abbrev pub Keeps : List Link → List Link → Type 0
Keeps old new = (start : Start) (h : List Heard) (x : Configuration) (last : ℕ) → IsLedBy start h old x last → IsLedBy start h new x last

abbrev pub configurations : List Reached → List Configuration
configurations layer = map (λ (r : Reached). r.configuration) layer
