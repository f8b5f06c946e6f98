-- What holds of histories and the search: laws, each proved as the contract of a function of the module `laws`.
use Rattle.std.specs.Prelude.{◌≡◌, ◌<◌, ◌≤◌, ◌+◌, ◌-◌, ◌^◌, ◌↔◌, ℕ, List, length, take, Contains, Some, None}
use Rattle.fs_calls.specs.Starts.{Start}
use Rattle.fs_timeline.specs.declared.entry.Entry.{Entry}
use Rattle.fs_linearizable.specs.Linearizable.{IsLinearizable, history}
use Rattle.fs_linearize_histories.specs.declared.heard.Heard.{Heard}
use Rattle.fs_linearize_histories.specs.Heard.{AreHeardIn}
use Rattle.fs_linearize_histories.specs.Histories.{IsHistory, Explains, ExplainsFront}
use Rattle.fs_linearize_histories.specs.Faults.{history_fault}
use Rattle.fs_linearize_histories.specs.declared.fault.HistoryFault.{HistoryFault}
use Rattle.fs_linearize_histories.specs.Configurations.{Configuration, at_start, IsFollowed}
use Rattle.fs_linearize_histories.specs.Early.{SettlesIn}
use Rattle.fs_linearize_histories.specs.Paths.{LeadsTo}
use Rattle.fs_linearize_histories.specs.Apart.{AreApart}

-- what a timeline explains is a history
abbrev pub ExplainedAreHistories : Type 0
ExplainedAreHistories = (start : Start) (h : List Heard) (es : List Entry) → Explains start h es → IsHistory h

-- the first entry with which the entries up to it are no history
pub record IsFirstFault (h : List Heard) (place : ℕ) : Type 0 where
  pub before : IsHistory (take (place - 1) h)
  pub with_it : IsHistory (take place h) → ⊥

-- a list of entries is a history exactly where it has no fault, and a fault names the first
pub record FaultsAreFirst : Type 0 where
  pub none : (h : List Heard) → (history_fault h ≡ None) ↔ IsHistory h
  pub first : (h : List Heard) (place : ℕ) (kind : HistoryFault) → history_fault h ≡ Some (place, kind) → IsFirstFault h place

-- a timeline that explains a history explains it as its front
abbrev pub ExplainedFronts : Type 0
ExplainedFronts = (start : Start) (h : List Heard) (es : List Entry) → Explains start h es → ExplainsFront start h es

-- the start and what follows each member of a set settles to members
pub record IsClosed (start : Start) (h : List Heard) (seen : List Configuration) : Type 0 where
  pub starts : SettlesIn h seen (at_start start)
  pub followed : (x : Configuration) → Contains seen x → IsFollowed h (SettlesIn h seen) x

-- a closed set has a configuration at the end of each front that is explained
abbrev pub ClosedSetsReach : Type 0
ClosedSetsReach = (start : Start) (h : List Heard) (es : List Entry) (seen : List Configuration) → IsClosed start h seen → ExplainsFront start h es
    → (x : Configuration) × Contains seen x × (x.at ≡ length (history es))

-- a history is explained by none if a closed set has no configuration at its end
abbrev pub ClosedSetsRefute : Type 0
ClosedSetsRefute = (start : Start) (h : List Heard) (seen : List Configuration) → IsClosed start h seen → ((x : Configuration) → Contains seen x → x.at < length h) → (es : List Entry) → Explains start h es → ⊥

-- a timeline explains what was heard exactly where a linearizable history is heard so
abbrev pub ExplainedAreLinearizable : Type 0
ExplainedAreLinearizable = (start : Start) (h : List Heard) → ((es : List Entry) × Explains start h es) ↔ ((g : List Entry) × IsLinearizable start g × AreHeardIn g h × (length g ≡ length h))

-- of a history of so many entries there are at most so many different configurations to which timelines lead
abbrev pub ConfigurationsAreFew : Type 0
ConfigurationsAreFew = (start : Start) (h : List Heard) (made : List Configuration) → AreApart made → ((x : Configuration) → Contains made x → (es : List Entry) × LeadsTo start h es x)
    → length made ≤ (length h + 1) ^ (length h + 1)
