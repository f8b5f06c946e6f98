-- Which numbers are in use.
use Rattle.std.specs.Prelude.{ℕ, ◌≡◌, Some, ◌⊎◌}
use Rattle.fs_names.specs.Keys.{Key}
use Rattle.fs_names.specs.Shapes.{Shape}
use Rattle.fs_calls.specs.Graphs.{Graph, numbers}
use Rattle.fs_machine.specs.Records.{Record}
use Rattle.fs_laws.specs.Invariants.{HasSpare}
use Rattle.fs_machine.specs.States.{State}

-- a number has a node
abbrev pub IsInUse : State → ℕ → Type 0
IsInUse s n = (shape : Shape) × (s.graph.shape n ≡ Some shape)

-- names lead to it from the root
abbrev pub IsReached : Graph → ℕ → Type 0
IsReached graph n = (key : Key) × (numbers graph key ≡ Some n)

-- a call under way has reserved it and not used it, or has removed it and still holds it
abbrev pub IsSpared : State → ℕ → Type 0
IsSpared s n = (c : ℕ) × (op : Record) × (s.ops c ≡ Some op) × HasSpare op n

-- a call under way has removed it and still holds it
abbrev pub IsRemovedBy : State → ℕ → ℕ → Type 0
IsRemovedBy s n c = (op : Record) × (s.ops c ≡ Some op) × (op.removed ≡ Some n)

-- in use are exactly the numbers that are reached, and those that one call under way has reserved or removed; none is both; and each node that a call holds is reached, or removed by it
pub record NumbersAreKept (s : State) : Type 0 where
  pub no_leak : (n : ℕ) → IsInUse s n → IsReached s.graph n ⊎ IsSpared s n
  pub in_use : (n : ℕ) → IsReached s.graph n ⊎ IsSpared s n → IsInUse s n
  pub apart : (n : ℕ) → IsReached s.graph n → IsSpared s n → ⊥
  pub one_call : (n c d : ℕ) (p q : Record) → s.ops c ≡ Some p → s.ops d ≡ Some q → HasSpare p n → HasSpare q n → c ≡ d
  pub held : (n c : ℕ) → s.holder n ≡ Some c → IsReached s.graph n ⊎ IsRemovedBy s n c
