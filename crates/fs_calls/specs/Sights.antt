-- What stands at each key of a tree, resolution of paths there, and the rows read there.
use Rattle.std.specs.Prelude.{Bool, [], ◌∷◌, Option, Some, None}
use Rattle.fs_names.specs.Keys.{Key, after_prefix, parent_of, is_end}
pub use Rattle.fs_names.specs.Shapes.{Shape, Dir, File, is_there, is_missing, is_dir, is_file, names_of, bytes_of, has_any, has_entries, is_crowded, is_full}
use Rattle.fs_calls.specs.Tree as tree
use Rattle.fs_calls.specs.Tree.{Tree, Node, look, names_in}
use Rattle.fs_calls.specs.Forms.{Form, AtNode, AtEntry, AtPair, Rename, Exchange}
use Rattle.fs_calls.specs.Rows.{as_dir, node_fault, entry_fault, rename_fault, exchange_fault, has_room}
use Rattle.fs_calls.specs.declared.errno.Errno.{Errno}
use Rattle.fs_calls.specs.declared.errno.Errno.TheVariants.{Enoent, Enotdir}

-- what stands at each key
abbrev pub Sight : Type 0
Sight = Key → Option Shape

-- a node at a key: a directory with its names, or a file with its bytes
abbrev pub shape_of : Tree → Key → Option Node → Option Shape
shape_of t k None = None
shape_of t k (Some tree.Dir) = Some (Dir (names_in t k))
shape_of t k (Some (tree.File bytes)) = Some (File bytes)

-- the sight of a tree
abbrev pub tree_shapes : Tree → Sight
tree_shapes t k = shape_of t k (look t k)

-- the first name, by what stands at the directory and at the name; then the rest
abbrev pub resolve_next : Option Shape → Option Shape → Option Errno → Option Errno
resolve_next (Some (Dir names)) (Some child) rest = rest
resolve_next (Some (Dir names)) None rest = Some Enoent
resolve_next (Some (File bytes)) child rest = Some Enotdir
resolve_next None child rest = Some Enoent

-- resolution from the root, name by name; None where the key is there
abbrev pub resolve : Sight → Key → Option Errno
resolve sight [] = None
resolve sight (x ∷ p) = resolve_next (sight []) (sight (x ∷ [])) (resolve (λ k. sight (x ∷ k)) p)

-- the resolution of a key that should be a directory
abbrev pub resolve_dir : Sight → Key → Option Errno
resolve_dir sight d = as_dir (resolve sight d) (sight d)

-- whether two keys are one
abbrev pub is_same : Key → Key → Bool
is_same p q = is_end (after_prefix p q)

-- the first error of a call's row
abbrev pub row_in : Sight → Form → Option Errno
row_in sight (AtNode c p) = node_fault c (resolve sight p) (sight p)
row_in sight (AtEntry c p) = entry_fault c (resolve_dir sight (parent_of p)) (sight (parent_of p)) (sight p)
row_in sight (AtPair (Rename most) p q) = rename_fault (resolve_dir sight (parent_of p)) (resolve_dir sight (parent_of q)) (sight p) (is_same p q) (sight q) (has_room most (is_same (parent_of p) (parent_of q)) (sight (parent_of q)))
row_in sight (AtPair Exchange p q) = exchange_fault (resolve_dir sight (parent_of p)) (resolve_dir sight (parent_of q)) (sight p) (sight q)
