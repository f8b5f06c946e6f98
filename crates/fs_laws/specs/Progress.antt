-- Who waits for whom, and that somebody goes on.
use Rattle.std.specs.Prelude.{ℕ, ◌≡◌, Some}
use Rattle.fs_names.specs.Keys.{Key}
use Rattle.fs_names.specs.Parts.{HasNames}
use Rattle.fs_calls.specs.Graphs.{at}
use Rattle.fs_machine.specs.Moves.{next}
use Rattle.fs_machine.specs.declared.moves.Move.TheVariants.{Take as Takes}
use Rattle.fs_machine.specs.Records.{Holdings, Record}
use Rattle.fs_machine.specs.States.{State, Step}
use Rattle.fs_machine.specs.declared.answers.Stepped.{Stepped}
use Rattle.fs_machine.specs.declared.answers.Stepped.TheVariants.{Idle, Took, Busy, LetGo, Helped, Committed, CarriedOut, Returned}

-- a call wants a node that another one holds
pub record WaitsFor (s : State) (c d : ℕ) (op : Record) : Type 0 where
  pub is : s.ops c ≡ Some op
  pub node : ℕ
  pub wants : next s.graph op ≡ Takes node
  pub held : s.holder node ≡ Some d

-- one call stands above a node by one name or more; a call that stands nowhere stands above all
abbrev pub HoldsAbove : State → Record → ℕ → Type 0
HoldsAbove s op n = (st : Holdings) → op.holdings ≡ Some st → (key : Key) × HasNames key × (at s.graph.child st.node key ≡ Some n)

-- of two calls that wait, the first for the second: the first stands above the second
abbrev pub WaitsBelow : State → Type 0
WaitsBelow s = (c d e : ℕ) (op q : Record) → WaitsFor s c d op → WaitsFor s d e q → (other : Holdings) × (q.holdings ≡ Some other) × HoldsAbove s op other.node

-- an answer by which a call went on
abbrev pub GoesOn : Stepped → Type 0
GoesOn Idle = ⊥
GoesOn (Busy n d) = ⊥
GoesOn (Took n) = Unit {0}
GoesOn (LetGo n) = Unit {0}
GoesOn (Helped d) = Unit {0}
GoesOn Committed = Unit {0}
GoesOn CarriedOut = Unit {0}
GoesOn (Returned r) = Unit {0}

-- some seat's step lets a call go on
pub record SomebodyGoesOn (s : State) : Type 0 where
  pub seat : ℕ
  pub answer : Stepped
  pub new : State
  pub step : Step s seat answer new
  pub goes_on : GoesOn answer

-- where a call is under way, somebody goes on
abbrev pub IsNeverStuck : State → Type 0
IsNeverStuck s = (c : ℕ) (op : Record) → s.ops c ≡ Some op → SomebodyGoesOn s

-- each seat has a step
pub record HasStep (s : State) (seat : ℕ) : Type 0 where
  pub answer : Stepped
  pub new : State
  pub step : Step s seat answer new
