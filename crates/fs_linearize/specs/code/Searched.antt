-- What a search answers.
use Rattle.std.specs.Prelude.{◌≡◌, ℕ, List, take, None}
use Rattle.fs_calls.specs.Starts.{Start}
use Rattle.fs_timeline.specs.declared.entry.Entry.{Entry}
use Rattle.fs_linearize_histories.specs.declared.heard.Heard.{Heard}
use Rattle.fs_linearize_histories.specs.Histories.{HasNoOrder, HasNoFront, Explains}
use Rattle.fs_linearize_configurations.specs.code.Ways.{GoesBy}
use Rattle.fs_linearize_configurations.specs.declared.steps.Step.{Step}
use Rattle.fs_linearize.specs.Limited.{WasLimited}
use Rattle.fs_linearize.specs.Results.{IsReturnAt, IsAnswerFor, IsKnownAbove, TellsLinearizable, fault_in}
use Rattle.fs_linearize.specs.declared.search.Searched.{Searched}
use Rattle.fs_linearize.specs.declared.search.Searched.TheVariants.{Ends, NoOrder, Limited}
use Rattle.fs_linearize.specs.declared.first_return.Place.{Place}
use Rattle.fs_linearize.specs.declared.first_return.Place.TheVariants as place
use Rattle.fs_linearize.specs.declared.linearizing.Found.{Found}

-- what was searched: steps of a timeline that explains the history, or there is none, or the limit was reached
abbrev pub IsSearched : Start → List Heard → ℕ → Searched → Type 0
IsSearched start h limit (Ends steps) = (es : List Entry) × Explains start h es × GoesBy h steps.items es
IsSearched start h limit (NoOrder place call) = HasNoFront start h place × IsReturnAt h place call
IsSearched start h limit (Limited place) = WasLimited start h limit place

-- the first return up to which no timeline explains a history, or the limit was reached in the search for one
abbrev pub IsPlace : Start → List Heard → ℕ → Place → Type 0
IsPlace start h limit (place.First n call) = HasNoOrder start h n × IsReturnAt h n call
IsPlace start h limit (place.Limited n) = (end : ℕ) × WasLimited start (take end h) limit n

-- what is found of a history that no timeline explains
pub record IsRefused (start : Start) (h : List Heard) (limit : ℕ) (f : Found) : Type 0 where
  pub answer : IsAnswerFor start h limit f
  pub linearizable : TellsLinearizable start h f
  pub fault : fault_in f ≡ None
  pub known : IsKnownAbove h limit f

-- steps of a timeline that explains a history
abbrev pub IsOrder : Start → List Heard → List Step → Type 0
IsOrder start h steps = (es : List Entry) × Explains start h es × GoesBy h steps es
