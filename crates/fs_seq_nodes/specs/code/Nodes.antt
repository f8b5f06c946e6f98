-- What the nodes of a slab are as a graph.
use Rattle.std.specs.Prelude.{◌≡◌, ℕ, Bool, false, nat_le, map, length, Option, Some, None, Result, Ok, Err}
use Rattle.fs_names.specs.Names.{Name}
use Rattle.fs_names.specs.Keys.{Key, parent_of, last_of}
use Rattle.fs_names.specs.Shapes.{Shape}
use Rattle.slab.specs.Slab.{Slab}
use Rattle.fs_calls.specs.declared.errno.Errno.{Errno}
use Rattle.fs_calls.specs.declared.errno.Errno.TheVariants.{Enoent, Enotdir}
use Rattle.fs_seq_nodes.specs.declared.nodes.Entry.{Entry}
use Rattle.fs_seq_nodes.specs.declared.nodes.Node.{Node}
use Rattle.fs_seq_nodes.specs.declared.nodes.Node.TheVariants.{Dir, File}
use Rattle.fs_seq_nodes.specs.declared.nodes.Spot.{Spot}
use Rattle.fs_seq_nodes.specs.declared.nodes.Spot.TheVariants.{Taken, Free}
use Rattle.fs_calls.specs.Tree as trees
use Rattle.fs_calls.specs.Outcomes.{resolution, parents_resolution}
use Rattle.fs_seq_nodes.specs.code.Slots.{Place, Slots, place_at, links_at, node_at, shape_at, child, walk, tree_of}
use Rattle.fs_seq_nodes.specs.code.Slots as places
pub use Rattle.fs_seq_nodes.specs.code.Entries.{pair, pairs, number_of, name_of, without, IsNameAt, BelongsAt, Searches}

-- the place that a node is
abbrev pub place : Node → Place
place (Dir links) = places.Dir (pairs links)
place (File file) = places.File file

-- what a node is in a tree
abbrev pub tree_node : Node → trees.Node
tree_node (Dir links) = trees.Dir
tree_node (File file) = trees.File file.bytes

-- the place of a slot
abbrev pub slot_place : Option Node → Option Place
slot_place None = None
slot_place (Some node) = Some (place node)

-- the places of a slab's slots
abbrev pub graph : Slab Node → Slots
graph nodes = map slot_place nodes.slots

-- what a node says of the names behind its key, none of which leads on
abbrev pub verdict : Option trees.Node → Option Errno
verdict None = None
verdict (Some trees.Dir) = Some Enoent
verdict (Some (trees.File bytes)) = Some Enotdir

-- a step from a number by a name: where it leads, or why it leads nowhere
abbrev pub Steps : Slots → ℕ → Name → Result ℕ Errno → Type 0
Steps g n x (Ok m) = child g n x ≡ Some m
Steps g n x (Err e) = (child g n x ≡ None) × (verdict (node_at g n) ≡ Some e)

-- names resolved: the number to which they lead, or the error
abbrev pub Resolves : Slots → Key → Result ℕ Errno → Type 0
Resolves g k (Ok n) = walk g k ≡ Some n
Resolves g k (Err e) = resolution (tree_of g) k ≡ Some e

-- a directory, the place of a path's last name among its links, and the number to which it leads
pub record IsTaken (g : Slots) (p : Key) (dir i n : ℕ) : Type 0 where
  pub parent : walk g (parent_of p) ≡ Some dir
  pub directory : place_at g dir ≡ Some (places.Dir (links_at g dir))
  pub stands : IsNameAt (links_at g dir) (last_of p) i
  pub leads : child g dir (last_of p) ≡ Some n

-- the entry at a path
abbrev pub IsAt : Slots → Key → Entry → Type 0
IsAt g p entry = IsTaken g p entry.dir entry.place entry.node

-- a directory without a path's last name, the place where it belongs, and how many links there are
pub record IsFree (g : Slots) (p : Key) (dir i entries : ℕ) : Type 0 where
  pub parent : walk g (parent_of p) ≡ Some dir
  pub directory : place_at g dir ≡ Some (places.Dir (links_at g dir))
  pub belongs : BelongsAt (links_at g dir) (last_of p) i
  pub count : entries ≡ length (links_at g dir)

-- a path's last name looked up in its parent, or why there is no directory
abbrev pub LooksUp : Slots → Key → Result Spot Errno → Type 0
LooksUp g p (Ok (Taken dir i n)) = IsTaken g p dir i n
LooksUp g p (Ok (Free dir i entries)) = IsFree g p dir i entries
LooksUp g p (Err e) = parents_resolution (tree_of g) p ≡ Some e

-- the number that stands where a name was looked up
abbrev pub number_there : Spot → Option ℕ
number_there (Taken dir i n) = Some n
number_there (Free dir i entries) = None

-- what a call sees there
abbrev pub shape_there : Slots → Spot → Option Shape
shape_there g (Taken dir i n) = shape_at g n
shape_there g (Free dir i entries) = None

-- the number of the directory, and the place among its entries
abbrev pub place_there : Spot → ℕ × ℕ
place_there (Taken dir i n) = (dir, i)
place_there (Free dir i entries) = (dir, i)

-- the entry that stands where a name was looked up
abbrev pub entry_there : Spot → Option Entry
entry_there (Taken dir i n) = Some (record { dir = dir; place = i; node = n })
entry_there (Free dir i entries) = None

-- whether the directory, which has at most so many entries, has no place for the name; a name that stands there has its own
abbrev pub full_there : ℕ → Spot → Bool
full_there most (Taken dir i n) = false
full_there most (Free dir i entries) = nat_le most entries
