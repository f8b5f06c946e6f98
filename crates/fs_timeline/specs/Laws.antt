-- What holds of timelines and verdicts: laws, each proved as the contract of a function of the module `laws`.
use Rattle.std.specs.Prelude.{◌≡◌, ℕ, ◌-◌, List, [], ◌∷◌, ◌++◌, ◌↔◌, take}
use Rattle.fs_calls.specs.Starts.{Start}
use Rattle.fs_timeline.specs.Timeline.{IsNext, IsAnswered, IsWellFormed, IsLawful}
use Rattle.fs_timeline.specs.Verdicts.{verdict}
use Rattle.fs_timeline.specs.declared.entry.Entry.{Entry}
use Rattle.fs_timeline.specs.declared.verdict.Verdict.{Verdict}
use Rattle.fs_timeline.specs.declared.verdict.Verdict.TheVariants.{Lawful, Fault}

-- a lawful timeline stays lawful when its last entry is taken away
abbrev pub LawfulWithoutTheLast : Type 0
LawfulWithoutTheLast = (start : Start) (es : List Entry) (last : Entry) → IsLawful start (es ++ last ∷ []) → IsLawful start es

-- with one entry more a timeline is well formed exactly where it was and the entry fits
abbrev pub WellFormedAppended : Type 0
WellFormedAppended = (es : List Entry) (e : Entry) → IsWellFormed (es ++ e ∷ []) ↔ (IsWellFormed es × IsNext es e)

-- with one entry more a timeline is lawful exactly where it was, the entry fits, and its reply is the one that is due
abbrev pub LawfulAppended : Type 0
LawfulAppended = (start : Start) (es : List Entry) (e : Entry) → IsLawful start (es ++ e ∷ []) ↔ (IsLawful start es × IsNext es e × IsAnswered start es e)

-- the verdict is Lawful exactly on lawful timelines
abbrev pub LawfulIsLawful : Type 0
LawfulIsLawful = (start : Start) (es : List Entry) → (verdict start es ≡ Lawful) ↔ IsLawful start es

-- a fault names the first entry with which the entries up to it are not lawful
pub record IsFirstFault (start : Start) (es : List Entry) (place : ℕ) : Type 0 where
  pub before : IsLawful start (take (place - 1) es)
  pub with_it : IsLawful start (take place es) → ⊥

-- a verdict that is a fault names the first one
abbrev pub NamesFirstFault : Start → List Entry → Verdict → Type 0
NamesFirstFault start es Lawful = Unit {0}
NamesFirstFault start es (Fault place kind) = IsFirstFault start es place

-- the verdict on each list of entries names the first fault, if it is one
abbrev pub FaultsAreFirst : Type 0
FaultsAreFirst = (start : Start) (es : List Entry) → NamesFirstFault start es (verdict start es)
