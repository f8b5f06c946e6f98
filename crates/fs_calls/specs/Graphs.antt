-- Graphs of numbered nodes, and the trees that they spell.
use Rattle.std.specs.Prelude.{ℕ, zero, suc, ◌≡◌, ◌+◌, true, eqb, ◌&&◌, if◌then◌else◌, List, [], ◌∷◌, Option, Some, None}
use Rattle.fs_names.specs.Names.{Name, same_name, inserted_name, removed_name, has_name}
use Rattle.fs_names.specs.Keys.{Key}
use Rattle.fs_names.specs.Shapes.{Shape, Dir, File, is_there, names_of}

-- what each entry of a node names
abbrev pub Children : Type 0
Children = ℕ → Name → Option ℕ

-- what each entry names, and what each node is (None: the number is not in use)
pub record Graph : Type 0 where
  pub child : Children
  pub shape : ℕ → Option Shape

-- what the second step gives, if the first gives something
abbrev pub then_at : {V W : Type 0} → Option V → (V → Option W) → Option W
then_at None f = None
then_at (Some n) f = f n

-- where a list of names leads from a node
abbrev pub at : Children → ℕ → Key → Option ℕ
at child n [] = Some n
at child n (x ∷ key) = then_at (child n x) (λ m. at child m key)

-- some names, or none, lead from one node to another
abbrev pub IsReached : Children → ℕ → ℕ → Type 0
IsReached child n m = (key : Key) × (at child n key ≡ Some m)

-- no node is reached from itself by one name or more
abbrev pub IsAcyclic : Children → Type 0
IsAcyclic child = (n : ℕ) (key : Key) (x : Name) → at child n (x ∷ key) ≡ Some n → ⊥

-- no entry names this node
abbrev pub IsUnlinked : Children → ℕ → Type 0
IsUnlinked children n = (dir : ℕ) (name : Name) → children dir name ≡ Some n → ⊥

-- some entry of this directory names this node
abbrev pub IsParent : Children → ℕ → ℕ → Type 0
IsParent children n dir = (name : Name) × (children dir name ≡ Some n)

-- the number at each key, read from the root
abbrev pub numbers : Graph → Key → Option ℕ
numbers graph key = at graph.child 0 key

-- what stands at each key: the tree that a graph spells
abbrev pub graph_shapes : Graph → Key → Option Shape
graph_shapes graph key = then_at (numbers graph key) graph.shape

-- what an entry's node is
abbrev pub entry_shape : Graph → ℕ → Name → Option Shape
entry_shape graph n x = then_at (graph.child n x) graph.shape

-- how many numbers below a limit are in use
abbrev pub used_below : (ℕ → Option Shape) → ℕ → ℕ
used_below shapes zero = 0
used_below shapes (suc n) = if is_there (shapes n) then used_below shapes n + 1 else used_below shapes n

-- one entry names this node, or none, from now on
abbrev pub set_child : ℕ → Name → Option ℕ → Children → Children
set_child dir x v child d y = if eqb d dir && same_name y x then v else child d y

-- one number has this value from now on
abbrev pub set_at : {A : Type 0} → ℕ → A → (ℕ → A) → ℕ → A
set_at n v f m = if eqb m n then v else f m

-- the root alone
abbrev pub empty_graph : Graph
empty_graph = record { child = λ n x. None; shape = set_at 0 (Some (Dir [])) (λ n. None) }

-- the changes of a graph: a number comes into use
abbrev pub reserved_in : ℕ → Shape → Graph → Graph
reserved_in n s graph = record { child = graph.child; shape = set_at n (Some s) graph.shape }

-- a number leaves use
abbrev pub released_in : ℕ → Graph → Graph
released_in n graph = record { child = graph.child; shape = set_at n None graph.shape }

-- a file's bytes change
abbrev pub content_in : ℕ → List ℕ → Graph → Graph
content_in n bytes graph = record { child = graph.child; shape = set_at n (Some (File bytes)) graph.shape }

-- an entry comes
abbrev pub linked_in : ℕ → Name → ℕ → Graph → Graph
linked_in dir x n graph = record { child = set_child dir x (Some n) graph.child; shape = set_at dir (Some (Dir (inserted_name x (names_of (graph.shape dir))))) graph.shape }

-- an entry goes
abbrev pub unlinked_in : ℕ → Name → Graph → Graph
unlinked_in dir x graph = record { child = set_child dir x None graph.child; shape = set_at dir (Some (Dir (removed_name x (names_of (graph.shape dir))))) graph.shape }

-- an entry moves; what its new directory had under the new name is named no more
abbrev pub moved_in : ℕ → Name → ℕ → Name → ℕ → Graph → Graph
moved_in from x to y n graph = linked_in to y n (unlinked_in from x graph)

-- two entries change what they name: each directory keeps its names
abbrev pub swapped_in : ℕ → Name → ℕ → ℕ → Name → ℕ → Graph → Graph
swapped_in dir x n other y m graph = record { child = set_child dir x (Some m) (set_child other y (Some n) graph.child); shape = graph.shape }

-- what every graph of a run keeps
pub record IsGraph (graph : Graph) : Type 0 where
  -- no node is named twice, and none leads back to itself
  pub one_key : (a b : Key) (n : ℕ) → numbers graph a ≡ Some n → numbers graph b ≡ Some n → a ≡ b
  -- names lead from directories in use to numbers in use
  pub of_dir : (n m : ℕ) (x : Name) → graph.child n x ≡ Some m → (names : List Name) × (graph.shape n ≡ Some (Dir names)) × (has_name x names ≡ true)
  pub to_used : (n m : ℕ) (x : Name) → graph.child n x ≡ Some m → (s : Shape) × (graph.shape m ≡ Some s)
  -- and each name that a directory lists leads somewhere
  pub listed : (n : ℕ) (names : List Name) (x : Name) → graph.shape n ≡ Some (Dir names) → has_name x names ≡ true → (m : ℕ) × (graph.child n x ≡ Some m)
  pub root : (names : List Name) × (graph.shape 0 ≡ Some (Dir names))
  -- what is not reached from the root has no entries
  pub loose : (n m : ℕ) (x : Name) → graph.child n x ≡ Some m → (key : Key) × (numbers graph key ≡ Some n)
