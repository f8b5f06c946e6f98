-- What holds of a step in every state, of a run or not. Each law is proved as the contract of a function of the module `laws`.
use Rattle.std.specs.Prelude.{ℕ, ◌≡◌, IsTrue, List, [], ◌∷◌, ◌++◌, Some}
use Rattle.fs_names.specs.Shapes.{is_there}
use Rattle.fs_timeline.specs.declared.entry.Entry.{Entry}
use Rattle.fs_timeline.specs.declared.entry.Entry.TheVariants.{Commit, Return}
use Rattle.fs_calls.specs.Graphs.{Graph}
use Rattle.fs_calls.specs.declared.reply.Reply.{Reply}
use Rattle.fs_machine.specs.declared.moves.Move.TheVariants.{LetGo as Leaves}
use Rattle.fs_machine.specs.Leaving.{let_go}
use Rattle.fs_machine.specs.Moves.{next}
use Rattle.fs_machine.specs.Records.{Finished, Holdings, Record, taken, taken_if}
use Rattle.fs_machine.specs.States.{State, Step, IsWalkingBelow}
use Rattle.fs_machine.specs.declared.answers.Stepped.{Stepped}
use Rattle.fs_machine.specs.declared.answers.Stepped.TheVariants.{Idle, Took, Busy, LetGo, Helped, Committed, CarriedOut, Returned}

-- what a seat's step answers, and the state after it, are determined
abbrev pub IsDetermined : State → Type 0
IsDetermined s = (seat : ℕ) (a b : Stepped) (new other : State) → Step s seat a new → Step s seat b other → (a ≡ b) × (new ≡ other)

-- the entries that a step of a call adds, by its answer
abbrev pub entries_of : ℕ → Stepped → List Entry
entries_of c Idle = []
entries_of c (Took n) = []
entries_of c (Busy n d) = []
entries_of c (LetGo n) = []
entries_of c (Helped d) = Commit d ∷ []
entries_of c Committed = Commit c ∷ []
entries_of c CarriedOut = []
entries_of c (Returned r) = Return c r ∷ []

-- a step of the call on a seat adds these entries to the timeline, and no others
abbrev pub AddsItsEntries : State → Type 0
AddsItsEntries s = (seat c : ℕ) (answer : Stepped) (new : State) → Step s seat answer new → s.on_seat seat ≡ Some c → new.timeline ≡ s.timeline ++ entries_of c answer

-- below a call that was helped stands no walking call
abbrev pub HelpsTheLowest : State → Type 0
HelpsTheLowest s = (seat d e : ℕ) (new : State) (op : Record) (st : Holdings) → Step s seat (Helped d) new → new.ops d ≡ Some op → op.holdings ≡ Some st → IsWalkingBelow new st.node e → ⊥

-- the answers of a step after which a number may be free
abbrev pub MayFree : Stepped → Type 0
MayFree Idle = ⊥
MayFree (Took n) = ⊥
MayFree (Busy n d) = ⊥
MayFree (LetGo n) = Unit {0}
MayFree (Helped d) = ⊥
MayFree Committed = ⊥
MayFree CarriedOut = ⊥
MayFree (Returned r) = Unit {0}

-- a number in use leaves it by a let go or a return alone: a finish keeps what it removes
abbrev pub FreesByLeavingAlone : State → Type 0
FreesByLeavingAlone s = (seat n : ℕ) (answer : Stepped) (new : State) → Step s seat answer new → (MayFree answer → ⊥) → IsTrue (is_there (s.graph.shape n)) → IsTrue (is_there (new.graph.shape n))

-- each step of each state is determined
abbrev pub StepsAreDetermined : Type 0
StepsAreDetermined = (s : State) → IsDetermined s

-- each step of each state adds the entries that its answer tells, and no other
abbrev pub StepsAddTheirEntries : Type 0
StepsAddTheirEntries = (s : State) → AddsItsEntries s

-- in each state a call helps one below which no walking call stands
abbrev pub TheLowestIsHelped : Type 0
TheLowestIsHelped = (s : State) → HelpsTheLowest s

-- in each state a number leaves by a let go or a return alone
abbrev pub LeavingFreesAlone : Type 0
LeavingFreesAlone = (s : State) → FreesByLeavingAlone s

-- a call whose reply is fixed lets go of the node that it took last, and of no other
abbrev pub TheLastTakenGoesFirst : Type 0
TheLastTakenGoesFirst = (graph : Graph) (op : Record) (r : Reply) (st : Holdings) → op.phase ≡ Finished r → op.holdings ≡ Some st → (n : ℕ) × (next graph op ≡ Leaves n) × (taken st ≡ taken_if (let_go op n).holdings ++ n ∷ [])
