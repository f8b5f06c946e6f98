-- What a core forgets by itself.
use Rattle.std.specs.Prelude.{◌≡◌, ◌≢◌, ◌<◌, ◌⊎◌, ℕ, Option, Some, None, length}
use Rattle.fs_timeline.specs.Timeline.{commits}
use Rattle.fs_machine.specs.States.{begun_again}
use Rattle.fs_core.specs.CoreValues.{CoreValue, state_of, IsAtRest}

-- no call was under way, and the entries are gone: the timeline begins again at the tree as it stands
pub record IsForgotten (old new : CoreValue) : Type 0 where
  pub rest : IsAtRest old
  pub again : state_of new ≡ begun_again (state_of old)
  pub seats : new.seats ≡ old.seats
  pub refusals : new.refusals ≡ old.refusals

-- how many calls stand in the timeline: those that have committed
abbrev pub calls : CoreValue → ℕ
calls machine = length (commits machine.timeline)

-- more calls stand than are to be kept: never, where all are
abbrev pub IsOver : Option ℕ → CoreValue → Type 0
IsOver None machine = ⊥
IsOver (Some most) machine = most < calls machine

-- memory was refused when the entries were to go, which the core counts; nothing else changed
pub record IsUnforgotten (old new : CoreValue) : Type 0 where
  pub rest : IsAtRest old
  pub counted : new.refusals ≢ old.refusals
  pub same : new ≡ record old { refusals = new.refusals }

-- more calls stood than are to be kept, and none was under way: they are forgotten, or memory for that was refused; else nothing changed
abbrev pub Keeps : Option ℕ → CoreValue → CoreValue → Type 0
Keeps most old new = ((new ≡ old) × (IsOver most old → IsAtRest old → ⊥)) ⊎ (IsOver most old × (IsForgotten old new ⊎ IsUnforgotten old new))

-- this came of the core behind that
abbrev pub After : Option ℕ → (CoreValue → CoreValue → Type 0) → CoreValue → CoreValue → Type 0
After most P old new = (middle : CoreValue) × Keeps most old middle × P middle new
