-- Searches that went on for as long as they might.
use Rattle.std.specs.Prelude.{◌≡◌, ◌+◌, ◌≤◌, ℕ, List, length, Contains}
use Rattle.fs_calls.specs.Starts.{Start}
use Rattle.fs_timeline.specs.declared.entry.Entry.{Entry}
use Rattle.fs_linearizable.specs.Linearizable.{history}
use Rattle.fs_linearize_histories.specs.declared.heard.Heard.{Heard}
use Rattle.fs_linearize_histories.specs.Histories.{ExplainsFront}
use Rattle.fs_linearize_histories.specs.Configurations.{Configuration}
use Rattle.fs_linearize_histories.specs.Paths.{LeadsTo}
use Rattle.fs_linearize_histories.specs.Apart.{AreApart}

-- so many different configurations were made, each of a timeline that explains a front, and one is before the entry of this place
pub record WasLimited (start : Start) (h : List Heard) (limit place : ℕ) : Type 0 where
  pub made : List Configuration
  pub apart : AreApart made
  pub many : limit ≤ length made
  pub led : (x : Configuration) → Contains made x → (es : List Entry) × LeadsTo start h es x
  pub before : (es : List Entry) × ExplainsFront start h es × (length (history es) + 1 ≡ place)
