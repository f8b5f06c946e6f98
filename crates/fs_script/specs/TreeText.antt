-- The text of a tree: its keys are in order, so that each directory is followed at once by what is below it.
use Rattle.std.specs.Prelude.{◌≡◌, ℕ, List, [], ◌∷◌, ◌++◌, codes}
use Rattle.std.specs.List.{flat_map}
use Rattle.fs_names.specs.Keys.{Key}
use Rattle.fs_calls.specs.Tree.{Tree, Node, Dir, File, IsTree}
use Rattle.fs_calls.specs.Sights.{tree_shapes}
use Rattle.fs_nodes.specs.Graphs.{Graph, graph_shapes}
use Rattle.fs_words.specs.Lines.{line_text}
use Rattle.fs_words.specs.Words.{Word, hex_word, path_word}

-- the words of a node at a key
abbrev pub node_words : Key → Node → List Word
node_words key Dir = codes "dir" ∷ path_word key ∷ []
node_words key (File bytes) = codes "file" ∷ path_word key ∷ hex_word bytes ∷ []

-- the line of what stands at a key
abbrev pub node_line : Key × Node → List ℕ
node_line row = line_text (node_words row.0 row.1)

-- a line `tree`, and a line for each key
unfoldable pub tree_text : Tree → List ℕ
tree_text t = codes "tree\n" ++ flat_map node_line t

-- the tree that the nodes of a graph spell: there is only one
pub record IsSpelled (graph : Graph) (t : Tree) : Type 0 where
  pub tree : IsTree t
  pub spelled : tree_shapes t ≡ graph_shapes graph

-- a text has the text of the spelled tree behind it
abbrev pub AppendsTree : Graph → List ℕ → List ℕ → Type 0
AppendsTree graph old new = (t : Tree) × IsSpelled graph t × (new ≡ old ++ tree_text t)
