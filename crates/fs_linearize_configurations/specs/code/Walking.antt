-- Steps played along a history, on one tree that changes in place.
use Rattle.std.specs.Prelude.{◌≡◌, ℕ, true, List}
use Rattle.fs_calls.specs.Starts.{Start}
use Rattle.fs_timeline.specs.declared.entry.Entry.{Entry}
use Rattle.fs_linearize_histories.specs.declared.heard.Heard.{Heard}
use Rattle.fs_linearize_histories.specs.declared.heard.Heard.TheVariants.{Begin, Return}
use Rattle.fs_linearize_histories.specs.Configurations.{Configuration, is_in, without}
use Rattle.fs_linearize_histories.specs.Paths.{LeadsTo}
use Rattle.fs_linearize_configurations.specs.code.Calls.{AreUnderWay}
use Rattle.fs_linearize_configurations.specs.code.Ways.{GoesBy}
use Rattle.fs_linearize_configurations.specs.declared.steps.Step.{Step}
use Rattle.fs_linearize_configurations.specs.declared.walking.Walk.{Walk}

-- the configuration of a walk
abbrev pub reached_by : Walk → Configuration
reached_by w = record { at = w.at; now = w.tree; held = w.held.items }

-- which calls are held behind an entry that can pass
abbrev pub HoldsAfter : Heard → List ℕ → List ℕ → Type 0
HoldsAfter (Begin c seat call) held after = after ≡ held
HoldsAfter (Return c p) held after = (is_in c held ≡ true) × (after ≡ without c held)

-- a timeline leads to the configuration of a walk and goes by these steps, and these calls are under way there
pub record IsWalked (start : Start) (h : List Heard) (ss : List Step) (w : Walk) : Type 0 where
  pub es : List Entry
  pub leads : LeadsTo start h es (reached_by w)
  pub goes : GoesBy h ss es
  pub calls : AreUnderWay h w.at w.calls.items
