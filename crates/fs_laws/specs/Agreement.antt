-- What the parts of a state say of one another.
use Rattle.std.specs.Prelude.{ℕ, ◌≡◌, ◌<◌, Some}
use Rattle.fs_names.specs.Shapes.{Shape}
use Rattle.fs_calls.specs.Graphs.{IsGraph}
use Rattle.fs_machine.specs.Records.{Holdings, Record, Holds}
use Rattle.fs_machine.specs.OpValues.{IsBounded}
use Rattle.fs_machine.specs.States.{State}

-- a call under way that holds a node
abbrev pub IsHeldBy : State → ℕ → ℕ → Type 0
IsHeldBy s n c = (op : Record) × (st : Holdings) × (s.ops c ≡ Some op) × (op.holdings ≡ Some st) × Holds st n

-- holders are those who hold, seats are those of calls under way, the graph is one, and it keeps its limits
pub record PartsAgree (s : State) : Type 0 where
  pub holder_holds : (n c : ℕ) → s.holder n ≡ Some c → IsHeldBy s n c
  pub holds_holder : (n c : ℕ) → IsHeldBy s n c → s.holder n ≡ Some c
  pub seat_call : (seat c : ℕ) → s.on_seat seat ≡ Some c → (op : Record) × (s.ops c ≡ Some op) × (op.seat ≡ seat)
  pub call_seat : (c : ℕ) (op : Record) → s.ops c ≡ Some op → s.on_seat op.seat ≡ Some c
  pub is_graph : IsGraph s.graph
  pub bounded : IsBounded s.start.limits s.graph
  pub below : (n : ℕ) (shape : Shape) → s.graph.shape n ≡ Some shape → n < s.limit
