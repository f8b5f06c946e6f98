-- What a store is to its callers, and the graph that it is.
use Rattle.std.specs.Prelude.{ℕ, ◌≡◌, ◌+◌, ◌≤◌, Bool, true, false, eqb, ◌&&◌, if◌then◌else◌, List, [], ◌∷◌, Option, Some, None, slice_get, length, option_map}
use Rattle.std.specs.Borrow.{Bor}
use Rattle.std.specs.Ordering.{is_lt}
use Rattle.std.specs.List.{find, filter}
use Rattle.fs_names.specs.Names.{Name, name_cmp, same_name, inserted_name}
use Rattle.fs_names.specs.Shapes.{Shape, Dir, File, names_of}
use Rattle.fs_names.specs.declared.kind.Kind.{Kind}
use Rattle.fs_names.specs.declared.kind.Kind.TheVariants as kinds
use Rattle.fs_nodes_places.specs.declared.node.Content.{Content}
use Rattle.fs_nodes_places.specs.declared.node.Content.TheVariants as contents
use Rattle.fs_nodes_places.specs.declared.node.Link.{Link}
use Rattle.fs_nodes_places.specs.declared.node.Node.{Node}
use Rattle.fs_calls.specs.Graphs.{Graph, Children, then_at, IsAcyclic, used_below}

-- a limit on numbers in use, whether files are in blocks, and for each number made so far, in their order, its node, if it has one
pub record Places : Type 0 where
  pub limit : ℕ
  pub in_blocks : Bool
  pub places : List (Option Node)

-- what a place holds
abbrev pub content_of : Option Node → Option Content
content_of None = None
content_of (Some node) = Some node.content

-- the entry that names its node
abbrev pub link_of : Option Node → Option Link
link_of None = None
link_of (Some node) = node.link

-- what the place of a number holds
abbrev pub content_at : List (Option Node) → ℕ → Option Content
content_at places n = then_at (slice_get places n) content_of

-- the entry that names the node of a number
abbrev pub link_at : List (Option Node) → ℕ → Option Link
link_at places n = then_at (slice_get places n) link_of

-- whether an entry is the one of this name in this directory
abbrev pub is_link : Option Link → ℕ → Name → Bool
is_link None dir name = false
is_link (Some link) dir name = eqb dir link.dir && same_name name link.name

-- whether it is one of this directory
abbrev pub is_in : Option Link → ℕ → Bool
is_in None dir = false
is_in (Some link) dir = eqb dir link.dir

-- the first place, counted from i, whose node is named by the entry
abbrev pub child_from : ℕ → List (Option Node) → ℕ → Name → Option ℕ
child_from i [] dir name = None
child_from i (place ∷ places) dir name = if is_link (link_of place) dir name then Some i else child_from (i + 1) places dir name

-- the node that an entry names
abbrev pub child_in : List (Option Node) → Children
child_in places dir name = child_from 0 places dir name

-- an entry's name among those of a directory, where it is an entry of that one
abbrev pub with_link : Option Link → ℕ → List Name → List Name
with_link None dir names = names
with_link (Some link) dir names = if eqb dir link.dir then inserted_name link.name names else names

-- the names of a directory, in byte order
abbrev pub names_in : List (Option Node) → ℕ → List Name
names_in [] dir = []
names_in (place ∷ places) dir = with_link (link_of place) dir (names_in places dir)

-- a directory with these names, or a file with its bytes
abbrev pub shape_with : List Name → Content → Shape
shape_with names contents.Dir = Dir names
shape_with names (contents.File file) = File file.bytes

-- what the node of a number is
abbrev pub shape_in : List (Option Node) → ℕ → Option Shape
shape_in places n = option_map (shape_with (names_in places n)) (content_at places n)

-- the graph of all places
abbrev pub graph_in : List (Option Node) → Graph
graph_in places = record { child = child_in places; shape = shape_in places }

-- the graph that a store is
unfoldable pub graph_of : Places → Graph
graph_of store = graph_in store.places

-- its limit on numbers in use
unfoldable pub limit_of : Places → ℕ
limit_of store = store.limit

-- what each of its entries names
abbrev pub child : Places → Children
child store = (graph_of store).child

-- what each of its nodes is
abbrev pub shape : Places → ℕ → Option Shape
shape store = (graph_of store).shape

-- how many numbers are in use
abbrev pub in_use : Places → ℕ
in_use store = used_below (shape store) (limit_of store)

-- for how many numbers there is a place
unfoldable pub room : Places → ℕ
room store = length store.places

-- the kind of a node
abbrev pub kind_of_shape : Shape → Kind
kind_of_shape (Dir names) = kinds.Dir
kind_of_shape (File bytes) = kinds.File

-- the same of a number, where it is in use
abbrev pub kind_of : Option Shape → Option Kind
kind_of there = option_map kind_of_shape there

-- what a new node of a kind is
abbrev pub new_shape : Kind → Shape
new_shape kinds.Dir = Dir []
new_shape kinds.File = File []

-- a name above another one; all names are above none
abbrev pub is_above : Option Name → Name → Bool
is_above None name = true
is_above (Some low) name = is_lt (name_cmp low name)

-- a name with the node that its entry names
abbrev pub with_child : (Name → Option ℕ) → Option Name → Option (Name × ℕ)
with_child children None = None
with_child children (Some name) = option_map (λ n. (name, n)) (children name)

-- the first entry of a directory above a name
abbrev pub next_entry : Graph → ℕ → Option Name → Option (Name × ℕ)
next_entry graph dir low = with_child (graph.child dir) (find (is_above low) (names_of (graph.shape dir)))

-- an entry whose name is lent
abbrev pub lent : Option (Bor Name × ℕ) → Option (Name × ℕ)
lent entry = option_map (λ e. (e.0.now, e.1)) entry

-- those of some names that are above a name
abbrev pub names_above : Option Name → List Name → List Name
names_above low names = filter (is_above low) names

-- what the next name above a name is: with it those names begin, and go on with the ones above it
abbrev pub IsNextName : List Name → Option Name → Option Name → Type 0
IsNextName names low None = names_above low names ≡ []
IsNextName names low (Some next) = names_above low names ≡ next ∷ names_above (Some next) names

-- the entry after the one that names a node: the next one of the same directory
abbrev pub IsEntryAfter : Graph → ℕ → Option (Name × ℕ) → Type 0
IsEntryAfter graph n next = (dir : ℕ) (name : Name) → graph.child dir name ≡ Some n → next ≡ next_entry graph dir (Some name)

-- the same of its name
abbrev pub IsNameAfter : Graph → ℕ → Option Name → Type 0
IsNameAfter graph n next = (dir : ℕ) (name : Name) → graph.child dir name ≡ Some n → IsNextName (names_of (graph.shape dir)) (Some name) next

-- what a store keeps: no more places than its limit, the root, each node's entry leads to it from a directory, and no node is reached
-- from itself
pub record IsStore (limit : ℕ) (places : List (Option Node)) : Type 0 where
  pub within : length places ≤ limit
  pub root : content_at places 0 ≡ Some contents.Dir
  pub root_unlinked : link_at places 0 ≡ None
  pub found : (n : ℕ) (link : Link) → link_at places n ≡ Some link → child_in places link.dir link.name ≡ Some n
  pub of_dir : (n : ℕ) (link : Link) → link_at places n ≡ Some link → content_at places link.dir ≡ Some contents.Dir
  pub acyclic : IsAcyclic (child_in places)
