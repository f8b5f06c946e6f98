-- What a store is to all above it: a graph, a limit, the room made and the form of its files.
use Rattle.std.specs.Prelude.{ℕ, Bool, ◌≡◌, ◌≤◌, true, is_some, List, [], ◌∷◌, Option, Some, None}
use Rattle.fs_names.specs.Names.{Name, has_name}
use Rattle.fs_names.specs.Shapes.{Shape, Dir, names_of}
use Rattle.fs_calls.specs.Graphs.{Graph, IsAcyclic, IsUnlinked}
use Rattle.fs_nodes_places.specs.Stores.{Places, graph_of, limit_of, room, is_above}

-- a graph, the limit on numbers in use, for how many numbers there is room, and whether files are in blocks
pub record Seen : Type 0 where
  pub graph : Graph
  pub limit : ℕ
  pub room : ℕ
  pub in_blocks : Bool

-- what is seen of a store
abbrev pub seen : Places → Seen
seen store = record { graph = graph_of store; limit = limit_of store; room = room store; in_blocks = store.in_blocks }

-- each name is above the one before it, and the first above the given one
abbrev pub Ascends : Option Name → List Name → Type 0
Ascends low [] = Unit {0}
Ascends low (x ∷ names) = (is_above low x ≡ true) × Ascends (Some x) names

-- what every store keeps
pub record IsReal (store : Seen) : Type 0 where
  -- the root is a directory that no entry names
  pub root : (names : List Name) × (store.graph.shape 0 ≡ Some (Dir names))
  pub root_unlinked : IsUnlinked store.graph.child 0
  -- entries lead from directories to numbers in use, and each number is named at most once
  pub of_dir : (d n : ℕ) (x : Name) → store.graph.child d x ≡ Some n → (names : List Name) × (store.graph.shape d ≡ Some (Dir names))
  pub to_used : (d n : ℕ) (x : Name) → store.graph.child d x ≡ Some n → (s : Shape) × (store.graph.shape n ≡ Some s)
  pub one_name : (d e n : ℕ) (x y : Name) → store.graph.child d x ≡ Some n → store.graph.child e y ≡ Some n → (d ≡ e) × (x ≡ y)
  -- no node is reached from itself
  pub acyclic : IsAcyclic store.graph.child
  -- the names of a directory are those of its entries, and ascend
  pub listed : (d : ℕ) (x : Name) → has_name x (names_of (store.graph.shape d)) ≡ is_some (store.graph.child d x)
  pub ascend : (d : ℕ) → Ascends None (names_of (store.graph.shape d))
  -- numbers in use are below the room, and that is within the limit
  pub made : (n : ℕ) → store.room ≤ n → store.graph.shape n ≡ None
  pub within : store.room ≤ store.limit
