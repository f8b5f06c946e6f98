-- A walk through the nodes of a store, in the order of their keys.
use Rattle.std.specs.Prelude.{◌≡◌, ℕ, zero, suc, ◌+◌, ◌-◌, ◌*◌, ◌<◌, Bool, true, false, List, [], ◌∷◌, ◌++◌, length, map, filter, Option, Some, None}
use Rattle.std.specs.List.{flat_map}
use Rattle.std.specs.Borrow.{Bor}
use Rattle.fs_names.specs.Names.{Name}
use Rattle.fs_names.specs.Keys.{Key}
use Rattle.fs_names.specs.Shapes.{Shape}
use Rattle.fs_names.specs.Shapes as shapes
use Rattle.fs_calls.specs.Tree.{Node}
use Rattle.fs_calls.specs.Tree as tree
use Rattle.fs_seq_nodes.specs.code.Slots.{Place, links_at, child, keys_from, nodes_at}
use Rattle.fs_seq_nodes.specs.code.Slots as forest
use Rattle.fs_nodes.specs.Graphs.{Graph, Children}
use Rattle.fs_nodes.specs.Seen.{Seen}
use Rattle.fs_nodes.specs.Stores.{is_above}
use Rattle.fs_script.specs.TreeText.{node_line}
use Rattle.fs_script.specs.declared.tree.Step.{Step}

-- ---- the nodes as places with links

-- a number; 0 where there is none
abbrev pub number_or : Option ℕ → ℕ
number_or None = 0
number_or (Some n) = n

-- each name with the number of its node
abbrev pub links : Children → ℕ → List Name → List (Name × ℕ)
links child n [] = []
links child n (x ∷ names) = (x, number_or (child n x)) ∷ links child n names

-- what a number is, as a place with links; nothing here depends on the form of a file
abbrev pub place_of : Children → ℕ → Option Shape → Option Place
place_of child n None = None
place_of child n (Some (shapes.Dir names)) = Some (forest.Dir (links child n names))
place_of child n (Some (shapes.File bytes)) = Some (forest.File (record { bytes = bytes; in_blocks = false }))

-- so many places, of which the first has the number i
abbrev pub places_from : Graph → ℕ → ℕ → forest.Slots
places_from graph i zero = []
places_from graph i (suc k) = place_of graph.child i (graph.shape i) ∷ places_from graph (suc i) k

-- the places of a store
abbrev pub forest_of : Seen → forest.Slots
forest_of store = places_from store.graph 0 store.room

-- a node with these bytes: a file, where there are some
abbrev pub node_with : Option (Bor (List ℕ)) → Node
node_with None = tree.Dir
node_with (Some bytes) = tree.File bytes.now

-- what a node is in a tree
abbrev pub node_seen : Option Shape → Option Node
node_seen None = None
node_seen (Some (shapes.Dir names)) = Some tree.Dir
node_seen (Some (shapes.File bytes)) = Some (tree.File bytes)

-- ---- where a walk stands

-- the steps down from the root, the directory that they lead to, and the entry of it that was written last, by its name and its node
pub record WalkPlace : Type 0 where
  pub above : List Step
  pub dir : ℕ
  pub low : Option Name
  pub last : Option ℕ

-- the node is the one that the entry of the name names
abbrev pub IsLast : Children → ℕ → Option Name → Option ℕ → Type 0
IsLast child dir None last = last ≡ None
IsLast child dir (Some x) last = (n : ℕ) × (last ≡ Some n) × (child dir x ≡ Some n)

-- the key that steps lead to
abbrev pub key_above : List Step → Key
key_above [] = []
key_above (s ∷ steps) = s.name ∷ key_above steps

-- the steps lead from a number to another
abbrev pub Leads : forest.Slots → ℕ → List Step → ℕ → Type 0
Leads g n [] dir = n ≡ dir
Leads g n (s ∷ steps) dir = (n ≡ s.dir) × (m : ℕ) × (child g n s.name ≡ Some m) × Leads g m steps dir

-- the links whose names are above the low one
abbrev pub links_above : Option Name → List (Name × ℕ) → List (Name × ℕ)
links_above low ls = filter (λ (l : Name × ℕ). is_above low l.0) ls

-- the keys behind some links of the directory at a key, of fewer than so many names behind each link
abbrev pub keys_behind : ℕ → forest.Slots → Key → List (Name × ℕ) → List Key
keys_behind many g key ls = flat_map (λ (l : Name × ℕ). map (λ (k : Key). key ++ l.0 ∷ k) (keys_from many g l.1)) ls

-- the keys that are still to come: those behind the directory's other links, and then those behind the other links above
abbrev pub pending : ℕ → forest.Slots → Key → List Step → ℕ → Option Name → List Key
pending many g key [] dir low = keys_behind many g key (links_above low (links_at g dir))
pending zero g key (s ∷ steps) dir low = []
pending (suc many) g key (s ∷ steps) dir low = pending many g (key ++ s.name ∷ []) steps dir low ++ keys_behind (suc many) g key (links_above (Some s.name) (links_at g s.dir))

-- the keys that are still to come where a walk stands
abbrev pub pending_at : forest.Slots → WalkPlace → List Key
pending_at g w = pending (length g - 1) g [] w.above w.dir w.low

-- the text of the nodes at some keys
abbrev pub text_at : forest.Slots → List Key → List ℕ
text_at g ks = flat_map node_line (nodes_at g ks)

-- how far it is to the end: two for each key, one for each step
abbrev pub left : forest.Slots → WalkPlace → ℕ
left g w = 2 * length (pending_at g w) + length w.above

-- a step of the walk: what was written and what is to come are together what they were
pub record Goes (g : forest.Slots) (old : WalkPlace) (before : List ℕ) (new : WalkPlace) (after : List ℕ) : Type 0 where
  pub leads : Leads g 0 new.above new.dir
  pub text : after ++ text_at g (pending_at g new) ≡ before ++ text_at g (pending_at g old)
  pub nearer : left g new < left g old

-- a step, or the end, where nothing is to come
abbrev pub Steps : forest.Slots → WalkPlace → List ℕ → WalkPlace → List ℕ → Bool → Type 0
Steps g old before new after true = Goes g old before new after
Steps g old before new after false = (text_at g (pending_at g old) ≡ []) × (after ≡ before)

-- the walk after an entry was written: down to a directory, or on behind a file
abbrev pub visited : WalkPlace → Name → ℕ → Bool → WalkPlace
visited w name node true = record { above = w.above ++ record { dir = w.dir; name = name } ∷ []; dir = node; low = None; last = None }
visited w name node false = record { above = w.above; dir = w.dir; low = Some name; last = Some node }

-- the line of a node at a key, where there is one
abbrev pub row_text : Key → Option Node → List ℕ
row_text key None = []
row_text key (Some node) = node_line (key, node)

-- one step up by the last of the steps above, behind the directory left, or none is above and nothing changed
abbrev pub IsUp : WalkPlace → WalkPlace → Bool → Type 0
IsUp old new true = (s : Step) × (old.above ≡ new.above ++ s ∷ []) × (new.dir ≡ s.dir) × (new.low ≡ Some s.name) × (new.last ≡ Some old.dir)
IsUp old new false = (old.above ≡ []) × (new ≡ old)

-- the start of a walk
abbrev pub at_root : WalkPlace
at_root = record { above = []; dir = 0; low = None; last = None }
