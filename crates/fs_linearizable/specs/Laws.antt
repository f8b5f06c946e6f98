-- What holds of linearizable histories and lawful timelines: laws, each proved as the contract of a function of the module `laws`.
use Rattle.std.specs.Prelude.{◌≡◌, ◌↔◌, ℕ, List, map}
use Rattle.fs_calls.specs.Starts.{Start}
use Rattle.fs_calls.specs.declared.call.Call.{Call}
use Rattle.fs_timeline.specs.Timeline.{IsLawful, commits}
use Rattle.fs_timeline.specs.declared.entry.Entry.{Entry}
use Rattle.fs_timeline.specs.declared.entry.Entry.TheVariants.{Begin}
use Rattle.fs_linearizable.specs.Linearizable.{history, IsHistory, ComesBefore, Precedes, Operation, IsLinearization, IsLinearizable}

-- the history of a lawful timeline is linearizable
abbrev pub LawfulIsLinearizable : Type 0
LawfulIsLinearizable = (start : Start) (es : List Entry) → IsLawful start es → IsLinearizable start (history es)

-- a history is linearizable if and only if it is the history of a lawful timeline
abbrev pub LinearizableIsLawful : Type 0
LinearizableIsLawful = (start : Start) (h : List Entry) → IsLinearizable start h ↔ ((es : List Entry) × IsLawful start es × (history es ≡ h))

-- the calls of a linearization are, in its order, those that a timeline commits
abbrev pub AreCommitted : List Operation → List Entry → Type 0
AreCommitted s es = commits es ≡ map (λ (o : Operation). o.call) s

-- the commits of a lawful timeline linearize its history
abbrev pub CommitsLinearize : Type 0
CommitsLinearize = (start : Start) (es : List Entry) → IsLawful start es → (s : List Operation) × IsLinearization start (history es) s × AreCommitted s es

-- each linearization of a history is the commits of a lawful timeline
abbrev pub LinearizationsCommit : Type 0
LinearizationsCommit = (start : Start) (h : List Entry) (s : List Operation) → IsHistory h → IsLinearization start h s
    → (es : List Entry) × IsLawful start es × (history es ≡ h) × AreCommitted s es

-- of two calls on one seat the first precedes the second, so that a linearization keeps the order of each seat
abbrev pub SeatsTakeTurns : Type 0
SeatsTakeTurns = (h : List Entry) (seat c d : ℕ) (call other : Call) → IsHistory h → ComesBefore h (Begin c seat call) (Begin d seat other) → Precedes h c d
