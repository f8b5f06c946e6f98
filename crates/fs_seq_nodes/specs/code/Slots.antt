-- Places under numbers, and the tree that they spell.
use Rattle.std.specs.Prelude.{◌≡◌, ◌≢◌, ℕ, zero, suc, Bool, true, List, [], ◌∷◌, length, map, Option, Some, None, is_some, slice_index_or, option_and_then, insert, IsTrue}
use Rattle.std.specs.List.{flat_map}
use Rattle.std.specs.FinMap.{find, is_sorted}
use Rattle.fs_blocks.specs.Files.{FileValue}
use Rattle.fs_names.specs.Names.{Name, name_cmp}
use Rattle.fs_names.specs.Keys.{Key}
use Rattle.fs_names.specs.Limits.{in_blocks}
use Rattle.fs_names.specs.declared.limits.Limits.{Limits}
use Rattle.fs_calls.specs.Tree.{Node, Dir as IsDir, File as IsFile, Tree, from_list}
use Rattle.fs_calls.specs.Sights.{Shape}
use Rattle.fs_calls.specs.Sights as shapes

-- a directory, by the names of its entries and their numbers, or a file
pub data Place : Type 0 where
  Dir : List (Name × ℕ) → Place
  File : FileValue → Place

-- a place or none under each number from 0 on
abbrev pub Slots : Type 0
Slots = List (Option Place)

-- the place of a number
unfoldable pub place_at : Slots → ℕ → Option Place
place_at g n = slice_index_or g n None

-- the links of a directory
abbrev pub links_of : Option Place → List (Name × ℕ)
links_of None = []
links_of (Some (Dir links)) = links
links_of (Some (File file)) = []

-- what a place is in a tree
abbrev pub node_of : Option Place → Option Node
node_of None = None
node_of (Some (Dir links)) = Some IsDir
node_of (Some (File file)) = Some (IsFile file.bytes)

-- what a call sees of a place
abbrev pub shape_of : Option Place → Option Shape
shape_of None = None
shape_of (Some (Dir links)) = Some (shapes.Dir (map (λ l. l.0) links))
shape_of (Some (File file)) = Some (shapes.File file.bytes)

-- the links under a number
abbrev pub links_at : Slots → ℕ → List (Name × ℕ)
links_at g n = links_of (place_at g n)

-- the number of a name's node in the directory n
unfoldable pub child : Slots → ℕ → Name → Option ℕ
child g n x = find name_cmp x (links_at g n)

-- the number to which names lead from n
abbrev pub walk_from : Slots → ℕ → Key → Option ℕ
walk_from g n [] = Some n
walk_from g n (x ∷ k) = option_and_then (λ m. walk_from g m k) (child g n x)

-- the number to which a key leads
abbrev pub walk : Slots → Key → Option ℕ
walk g k = walk_from g 0 k

-- what the place of a number is in a tree
abbrev pub node_at : Slots → ℕ → Option Node
node_at g n = node_of (place_at g n)

-- what stands at a key
unfoldable pub spelled : Slots → Key → Option Node
spelled g k = option_and_then (node_at g) (walk g k)

-- what a call sees at a key
abbrev pub shape_at : Slots → ℕ → Option Shape
shape_at g n = shape_of (place_at g n)

-- the keys of fewer than so many names that lead on from n
abbrev pub keys_from : ℕ → Slots → ℕ → List Key
keys_from zero g n = []
keys_from (suc many) g n = [] ∷ flat_map (λ (l : Name × ℕ). map (λ k. l.0 ∷ k) (keys_from many g l.1)) (links_at g n)

-- an entry where there is one
abbrev pub with_node : Key → Option Node → List (Key × Node) → List (Key × Node)
with_node k None rest = rest
with_node k (Some e) rest = (k, e) ∷ rest

-- the entries at these keys
abbrev pub nodes_at : Slots → List Key → List (Key × Node)
nodes_at g [] = []
nodes_at g (k ∷ ks) = with_node k (spelled g k) (nodes_at g ks)

-- the tree whose keys are the names that lead from 0
unfoldable pub tree_of : Slots → Tree
tree_of g = from_list (nodes_at g (keys_from (length g) g 0))

-- what a graph keeps
pub record IsForest (g : Slots) : Type 0 where
  -- no number is reached in two ways
  pub once : (a b : Key) (n : ℕ) → walk g a ≡ Some n → walk g b ≡ Some n → a ≡ b
  -- each number that is reached has a place
  pub inside : (k : Key) (n : ℕ) → walk g k ≡ Some n → is_some (place_at g n) ≡ true
  pub root : node_at g 0 ≡ Some IsDir
  -- the names of a directory rise
  pub rising : (n : ℕ) → IsTrue (is_sorted name_cmp (links_at g n))

-- g' has this under the number n, and under all others what g has
pub record Sets (g g' : Slots) (n : ℕ) (o : Option Place) : Type 0 where
  pub here : place_at g' n ≡ o
  pub elsewhere : (j : ℕ) → j ≢ n → place_at g' j ≡ place_at g j

-- a new place under a number that had none, and an entry for it
pub record Attaches (g g' : Slots) (dir i : ℕ) (x : Name) (new : Place) : Type 0 where
  pub number : ℕ
  pub between : Slots
  pub free : place_at g number ≡ None
  pub linking : Sets g between dir (Some (Dir (insert (links_at g dir) i (x, number))))
  pub adding : Sets between g' number (Some new)

-- a file is in blocks, or it is not; of a directory and of no place that says nothing
abbrev pub HasForm : Bool → Option Place → Type 0
HasForm in_blocks None = Unit
HasForm in_blocks (Some (Dir links)) = Unit
HasForm in_blocks (Some (File file)) = file.in_blocks ≡ in_blocks

-- so are all files of a graph
pub record HaveForm (in_blocks : Bool) (g : Slots) : Type 0 where
  pub each : (n : ℕ) → HasForm in_blocks (place_at g n)

-- files stay in the form of these limits
abbrev pub KeepsForm : Limits → Slots → Slots → Type 0
KeepsForm limits g g' = HaveForm (in_blocks limits) g → HaveForm (in_blocks limits) g'
