-- What the answer for a history says.
use Rattle.std.specs.Prelude.{◌≡◌, ◌≤◌, ◌+◌, ◌-◌, ◌^◌, ℕ, List, length, take, slice_get, Option, Some, None}
use Rattle.fs_calls.specs.Starts.{Start}
use Rattle.fs_timeline.specs.declared.entry.Entry.{Entry}
use Rattle.fs_linearizable.specs.Linearizable.{IsLinearizable}
use Rattle.fs_linearize_histories.specs.declared.heard.Heard.{Heard}
use Rattle.fs_linearize_histories.specs.Heard.{AreHeardIn}
use Rattle.fs_linearize_histories.specs.declared.heard.Heard.TheVariants.{Return}
use Rattle.fs_linearize_histories.specs.declared.heard.Pattern.{Pattern}
use Rattle.fs_linearize_histories.specs.declared.fault.HistoryFault.{HistoryFault}
use Rattle.fs_linearize_histories.specs.Histories.{Explains, HasNoOrder, HasNoFront}
use Rattle.fs_linearize.specs.Limited.{WasLimited}
use Rattle.fs_linearize.specs.Possible.{ArePossible}
use Rattle.fs_linearize.specs.declared.replies.Possible.{Possible}
use Rattle.fs_linearize.specs.declared.linearizing.Found.{Found}
use Rattle.fs_linearize.specs.declared.linearizing.Found.TheVariants.{Lawful, NoOrder, Fault, Unknown}

-- the entry of a place, counted from 1, is a return of a call
abbrev pub IsReturnAt : List Heard → ℕ → ℕ → Type 0
IsReturnAt h place c = (p : Pattern) × (slice_get h (place - 1) ≡ Some (Return c p))

-- what is said where no journal explains the history: the first return up to which none does, and what its call could have replied; and up to which entry none does with the replies that are recorded later
pub record IsRefusedAt (start : Start) (h : List Heard) (limit place call : ℕ) (replies : Possible) (later : ℕ) : Type 0 where
  pub order : HasNoOrder start h place
  pub returns : IsReturnAt h place call
  pub possible : ArePossible start (take (place - 1) h) limit call replies
  pub held : HasNoFront start h later

-- a journal explains the history; or none does; or the entries are no history; or the limit was reached in the search for one that explains the entries up to some place
abbrev pub IsAnswerFor : Start → List Heard → ℕ → Found → Type 0
IsAnswerFor start h limit (Lawful journal) = Explains start h journal.items
IsAnswerFor start h limit (NoOrder place call possible held) = IsRefusedAt start h limit place call possible held
IsAnswerFor start h limit (Fault place kind) = Unit {0}
IsAnswerFor start h limit (Unknown place) = (end : ℕ) × WasLimited start (take end h) limit place

-- what is asked for more configurations than a history of so many entries can have is never left unknown
abbrev pub IsKnownAbove : List Heard → ℕ → Found → Type 0
IsKnownAbove h limit (Lawful journal) = Unit {0}
IsKnownAbove h limit (NoOrder place call possible held) = Unit {0}
IsKnownAbove h limit (Fault place kind) = Unit {0}
IsKnownAbove h limit (Unknown place) = limit ≤ (length h + 1) ^ (length h + 1)

-- the fault that is answered
abbrev pub fault_in : Found → Option (ℕ × HistoryFault)
fault_in (Fault place kind) = Some (place, kind)
fault_in found = None

-- a linearizable history is heard so
abbrev pub IsHeardLinearizable : Start → List Heard → Type 0
IsHeardLinearizable start h = (g : List Entry) × IsLinearizable start g × AreHeardIn g h × (length g ≡ length h)

-- a journal says that what was heard is linearizable, an entry without an order, or at fault, that it is not
abbrev pub TellsLinearizable : Start → List Heard → Found → Type 0
TellsLinearizable start h (Lawful journal) = IsHeardLinearizable start h
TellsLinearizable start h (NoOrder place call possible held) = IsHeardLinearizable start h → ⊥
TellsLinearizable start h (Fault place kind) = IsHeardLinearizable start h → ⊥
TellsLinearizable start h (Unknown place) = Unit {0}
