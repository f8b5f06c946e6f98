-- What the nodes of a store are while those of a tree's rows come in, one by one.
use Rattle.std.specs.Prelude.{ℕ, ◌≡◌, ◌≢◌, ◌<◌, List, [], ◌∷◌, ◌++◌, Some, None, IsTrue}
use Rattle.fs_names.specs.Keys.{Key}
use Rattle.fs_names.specs.Names.{Name}
use Rattle.fs_names.specs.Shapes.{Shape, Dir, File, is_dir}
use Rattle.fs_names.specs.declared.kind.Kind.{Kind}
use Rattle.fs_names.specs.declared.kind.Kind.TheVariants as kinds
use Rattle.fs_seq.specs.declared.rows.Row.{Row}
use Rattle.fs_seq.specs.Rows.{key_of}
use Rattle.fs_nodes.specs.Graphs.{Graph, numbers, linked_in, reserved_in, IsGraph}

-- a new node of a kind; the bytes are those of a file
abbrev pub shape_of_kind : Kind → List ℕ → Shape
shape_of_kind kinds.Dir bytes = Dir []
shape_of_kind kinds.File bytes = File bytes

-- the node of a row, which has no entries
abbrev pub shape_of_row : Row → Shape
shape_of_row row = shape_of_kind row.kind row.bytes.items

-- a row can be added: its last name is free in the directory to which the others lead
pub record CanAdd (graph : Graph) (row : Row) : Type 0 where
  pub is_graph : IsGraph graph
  pub named : key_of row ≢ []
  pub place : (above : Key) (x : Name) → key_of row ≡ above ++ x ∷ [] → (dir : ℕ) × (numbers graph above ≡ Some dir) × IsTrue (is_dir (graph.shape dir)) × (graph.child dir x ≡ None)

-- a row was added: this number, which was not in use, has its node, and an entry of its directory names that
pub record IsAdded (limit : ℕ) (graph new : Graph) (row : Row) (node : ℕ) : Type 0 where
  pub above : Key
  pub name : Name
  pub dir : ℕ
  pub split : key_of row ≡ above ++ name ∷ []
  pub parent : numbers graph above ≡ Some dir
  pub free : graph.shape node ≡ None
  pub within : node < limit
  pub added : new ≡ linked_in dir name node (reserved_in node (shape_of_row row) graph)
