-- Which walking calls are below a node, or below one that would be moved, and which of these is to be helped.
use Rattle.std.specs.Prelude.{ℕ, ◌≡◌, ◌<◌, ◌≤◌, ◌↔◌, nat_lt, Bool, true, false, IsTrue, IsSome, List, Option, Some, None, length, option_map, slice_get, slice_index}
use Rattle.fs_names.specs.Keys.{Key}
use Rattle.fs_names.specs.Shapes.{Shape}
use Rattle.fs_nodes.specs.Graphs.{Graph, Children, numbers, IsGraph, IsReached}
use Rattle.fs_nodes.specs.Stores.{Places}
use Rattle.fs_nodes.specs.Stores.{graph_of}
use Rattle.fs_locks.specs.Holding.{Holding, holder, room}
use Rattle.fs_machine.specs.States.{IsMoved}
use Rattle.fs_machine.specs.declared.moves.Moved.{Moved}
use Rattle.fs_core_seats.specs.Seats.{number_on, running_on}
use Rattle.fs_core_seats.specs.declared.helping.Way.{Way}
use Rattle.fs_core_seats.specs.declared.seat.Running.{Running}
use Rattle.fs_core_seats.specs.code.Orders.{IsListed, AreListed}
use Rattle.fs_core_seats.specs.code.Owed.{is_walking}

-- the position of a walking call
abbrev pub position_if : Bool → Running → Option ℕ
position_if true running = option_map (λ st. st.node) running.op.holdings
position_if false running = None

-- the position of the call on a seat, where it is walking
abbrev pub position_of : Option Running → Option ℕ
position_of None = None
position_of (Some running) = position_if (is_walking running) running

-- the position of the walking call on a seat
abbrev pub position_on : List (Option Running) → ℕ → Option ℕ
position_on seats seat = position_of (running_on seats seat)

-- the walking call on a seat is below a node
pub record IsUnder (children : Children) (seats : List (Option Running)) (s seat : ℕ) : Type 0 where
  pub running : Running
  pub node : ℕ
  pub on : slice_get seats seat ≡ Some (Some running)
  pub position : position_of (Some running) ≡ Some node
  pub reached : IsReached children s node

-- a node is reached from one that would be moved
abbrev pub IsBelowMoved : Children → Moved → ℕ → Type 0
IsBelowMoved children moved node = (s : ℕ) × IsMoved moved s × IsReached children s node

-- the walking call on a seat is below a node that would be moved
pub record IsUnderMoved (children : Children) (seats : List (Option Running)) (moved : Moved) (seat : ℕ) : Type 0 where
  pub running : Running
  pub node : ℕ
  pub on : slice_get seats seat ≡ Some (Some running)
  pub position : position_of (Some running) ≡ Some node
  pub reached : IsBelowMoved children moved node

-- no walking call of another seat is below a node
abbrev pub IsAlone : Children → List (Option Running) → ℕ → ℕ → Type 0
IsAlone children seats node seat = (other : ℕ) → (seat ≡ other → ⊥) → IsUnder children seats node other → ⊥

-- one that is below a node that would be moved, and no other one is below its position
pub record IsLowestOn (children : Children) (seats : List (Option Running)) (moved : Moved) (seat : ℕ) : Type 0 where
  pub under : IsUnderMoved children seats moved seat
  pub alone : IsAlone children seats under.node seat

-- a number is less than another one, or there is no other
abbrev pub is_lesser : Option ℕ → Option ℕ → Bool
is_lesser (Some c) (Some d) = nat_lt c d
is_lesser _ None = true
is_lesser None (Some d) = true

-- of the seats below one, those with a lowest call: none, or the one with the least number
abbrev pub HasLeast : Children → List (Option Running) → Moved → ℕ → Option ℕ → Type 0
HasLeast children seats moved i None = (j : ℕ) → j < i → IsLowestOn children seats moved j → ⊥
HasLeast children seats moved i (Some seat) = (seat < i) × IsLowestOn children seats moved seat × ((j c d : ℕ) → j < i → IsLowestOn children seats moved j → number_on seats seat ≡ Some c → number_on seats j ≡ Some d → c ≤ d)

-- the same of the first so many seats of a list
abbrev pub HasLeastOf : Children → List (Option Running) → Moved → List ℕ → ℕ → Option ℕ → Type 0
HasLeastOf children seats moved listed i None = (k : ℕ) → k < i → IsLowestOn children seats moved (slice_index listed k) → ⊥
HasLeastOf children seats moved listed i (Some seat) =
    (seat < length seats) × IsLowestOn children seats moved seat × ((k c d : ℕ) → k < i → IsLowestOn children seats moved (slice_index listed k) → number_on seats seat ≡ Some c → number_on seats (slice_index listed k) ≡ Some d → c ≤ d)

-- a node is reached from the root
abbrev pub IsRooted : Graph → ℕ → Type 0
IsRooted graph n = (key : Key) × (numbers graph key ≡ Some n)

-- the numbers in use are below a bound
abbrev pub AreBelow : Graph → ℕ → Type 0
AreBelow graph bound = (n : ℕ) (shape : Shape) → graph.shape n ≡ Some shape → n < bound

-- what a search needs: a graph in which each number has room for a holder, a list with each seat that has a call, and each walking
-- call at a node that is reached from the root, that is held, and at which there is no other one
pub record CanSearch (store : Places) (holding : Holding) (seats : List (Option Running)) (listed : List ℕ) : Type 0 where
  pub graph : IsGraph (graph_of store)
  pub within : AreBelow (graph_of store) (room holding)
  pub all : AreListed seats listed
  pub rooted : (seat n : ℕ) → position_on seats seat ≡ Some n → IsRooted (graph_of store) n
  pub held : (seat n : ℕ) → position_on seats seat ≡ Some n → IsSome (holder holding n)
  pub apart : (seat other n : ℕ) → position_on seats seat ≡ Some n → position_on seats other ≡ Some n → seat ≡ other

-- a walking call at a node, other than the one on a seat: its seat
abbrev pub StandsIf : List (Option Running) → ℕ → ℕ → Option ℕ → Type 0
StandsIf seats n seat None = (j : ℕ) → (seat ≡ j → ⊥) → position_on seats j ≡ Some n → ⊥
StandsIf seats n seat (Some k) = (seat ≡ k → ⊥) × (position_on seats k ≡ Some n)

-- the one that was met before, else one at a node
abbrev pub MeetsIf : List (Option Running) → ℕ → ℕ → Option ℕ → Option ℕ → Type 0
MeetsIf seats n seat None result = StandsIf seats n seat result
MeetsIf seats n seat (Some k) result = result ≡ Some k

-- another walking call is above a position, and whoever else is above that is above this one too
abbrev pub IsAbove : Children → List (Option Running) → ℕ → ℕ → ℕ → Type 0
IsAbove children seats seat position k =
    (n : ℕ) × (seat ≡ k → ⊥) × (position_on seats k ≡ Some n) × IsReached children n position × ((j m : ℕ) → (seat ≡ j → ⊥) → position_on seats j ≡ Some m → IsReached children m position → IsReached children m n)

-- the nearest other walking call above the position of the one on a seat; none only where none is above it
abbrev pub IsNearest : Children → List (Option Running) → ℕ → ℕ → Option ℕ → Type 0
IsNearest children seats seat position None = (j m : ℕ) → (seat ≡ j → ⊥) → position_on seats j ≡ Some m → IsReached children m position → ⊥
IsNearest children seats seat position (Some k) = IsAbove children seats seat position k

-- the same of a seat, on which perhaps no call walks
abbrev pub IsNearestIf : Children → List (Option Running) → ℕ → Option ℕ → Option ℕ → Type 0
IsNearestIf children seats seat None above = above ≡ None
IsNearestIf children seats seat (Some position) above = IsNearest children seats seat position above

-- the way up from the position of the walking call on a seat
pub record IsWay (children : Children) (seats : List (Option Running)) (moved : Moved) (seat : ℕ) (way : Way) : Type 0 where
  pub below : IsTrue way.below ↔ IsUnderMoved children seats moved seat
  pub above : IsNearestIf children seats seat (position_on seats seat) way.above

-- the ways of the first so many seats of a list
abbrev pub AreWays : Children → List (Option Running) → Moved → List ℕ → ℕ → List Way → Type 0
AreWays children seats moved listed i ways = (k : ℕ) (way : Way) → k < i → slice_get ways (slice_index listed k) ≡ Some way → IsWay children seats moved (slice_index listed k) way

-- the call on a seat is the nearest one above that on a seat of a list
pub record IsMet (listed : List ℕ) (ways : List Way) (seat : ℕ) : Type 0 where
  pub other : ℕ
  pub way : Way
  pub listed_is : IsListed listed other
  pub on : slice_get ways other ≡ Some way
  pub above : way.above ≡ Some seat

-- its way passes a node that would be moved, and no way meets it
pub record IsUnmet (listed : List ℕ) (ways : List Way) (seat : ℕ) : Type 0 where
  pub way : Way
  pub on : slice_get ways seat ≡ Some way
  pub below : IsTrue way.below
  pub unmet : IsMet listed ways seat → ⊥
