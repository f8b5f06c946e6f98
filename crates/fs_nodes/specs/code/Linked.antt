-- What the places of a store with sibling links say, and what they keep.
use Rattle.std.specs.Prelude.{ℕ, Bool, true, suc, ◌≡◌, ◌+◌, ◌-◌, ◌&&◌, List, Option, Some, None, length, slice_get}
use Rattle.std.specs.List.{find}
use Rattle.fs_names.specs.Names.{Name}
use Rattle.fs_names.specs.Shapes.{names_of}
use Rattle.fs_names.specs.declared.limits.TheConstants.{NODE_LIMIT}
use Rattle.fs_nodes_places.specs.declared.node.Link.{Link}
use Rattle.fs_nodes_places.specs.declared.place.Place.{Place}
use Rattle.fs_calls.specs.Graphs.{Graph, then_at}
use Rattle.fs_nodes_places.specs.code.Edits.{edited}
pub use Rattle.fs_nodes_places.specs.code.Hints.{bare, bared}
use Rattle.fs_nodes_places.specs.Plains.{plain, plains}
use Rattle.fs_nodes_places.specs.Stores.{link_of, is_in, graph_in, is_above, names_above, IsStore}

-- the graph that places are
abbrev pub graph_of_places : List Place → Graph
graph_of_places ps = graph_in (plains ps)

-- the node of a directory's least name, or of the least one above a name
abbrev pub next_child : Graph → ℕ → Option Name → Option ℕ
next_child graph dir low = then_at (find (is_above low) (names_of (graph.shape dir))) (graph.child dir)

-- the sibling after a node
abbrev pub IsNextSibling : Graph → ℕ → Option ℕ → Type 0
IsNextSibling graph n next = (dir : ℕ) (name : Name) → graph.child dir name ≡ Some n → next ≡ next_child graph dir (Some name)

-- the sibling before a node; the first one has none
abbrev pub IsPrev : Graph → ℕ → ℕ → Option ℕ → Type 0
IsPrev graph dir n None = next_child graph dir None ≡ Some n
IsPrev graph dir n (Some m) = (name : Name) × (graph.child dir name ≡ Some m) × (next_child graph dir (Some name) ≡ Some n)

-- the siblings of a node
abbrev pub IsBeside : Graph → ℕ → Option ℕ → Option ℕ → Option Link → Type 0
IsBeside graph n next prev None = Unit {0}
IsBeside graph n next prev (Some link) = (next ≡ next_child graph link.dir (Some link.name)) × IsPrev graph link.dir n prev

-- a name that comes before the first one above the low one, or where there is none
abbrev pub IsBefore : Name → Option Name → Type 0
IsBefore x None = Unit {0}
IsBefore x (Some y) = is_above (Some x) y ≡ true

-- a low name is one of the directory, and its node is that of a number; none has none
abbrev pub IsLow : Graph → ℕ → Option Name → Option ℕ → Type 0
IsLow graph dir None o = o ≡ None
IsLow graph dir (Some y) o = (m : ℕ) × (graph.child dir y ≡ Some m) × (o ≡ Some m)

-- a low name between which and a free one nothing stands
abbrev pub IsAt : Graph → ℕ → Name → Option Name → Type 0
IsAt graph dir x low = (is_above low x ≡ true) × IsBefore x (find (is_above low) (names_of (graph.shape dir)))

-- where a free name belongs: between two siblings
pub record IsGap (graph : Graph) (dir : ℕ) (x : Name) (prev next : Option ℕ) : Type 0 where
  pub low : Option Name
  pub is_low : IsLow graph dir low prev
  pub at : IsAt graph dir x low
  pub next_is : next ≡ next_child graph dir low

-- a place's ways are those of its number in a graph
pub record IsIndexed (graph : Graph) (n : ℕ) (p : Place) : Type 0 where
  pub entries : p.entries ≡ length (names_of (graph.shape n))
  pub first : p.first ≡ next_child graph n None
  pub beside : IsBeside graph n p.next p.prev (link_of (plain p))

-- what the places of a store keep
pub record IsPlaces (ps : List Place) : Type 0 where
  pub store : IsStore NODE_LIMIT (plains ps)
  pub each : (n : ℕ) (p : Place) → slice_get ps n ≡ Some p → IsIndexed (graph_of_places ps) n p

-- the first entry is another one from now on
abbrev pub with_first : Option ℕ → Place → Place
with_first to p = record p { first = to }

-- the next sibling is another one
abbrev pub with_next : Option ℕ → Place → Place
with_next to p = record p { next = to }

-- the sibling before is another one
abbrev pub with_prev : Option ℕ → Place → Place
with_prev to p = record p { prev = to }

-- a directory has so many entries
abbrev pub with_entries : ℕ → Place → Place
with_entries count p = record p { entries = count }

-- a node is named by an entry that stands between two siblings, or by none
abbrev pub entered : Option ℕ → Name → Option ℕ → Option ℕ → Place → Place
entered dir name prev next p = record p { parent = dir; name = name; prev = prev; next = next }

-- the way to an entry, from the sibling before it, or from its directory
abbrev pub led : ℕ → Option ℕ → Option ℕ → List Place → List Place
led dir None to ps = edited dir (with_first to) ps
led dir (Some prev) to ps = edited prev (with_next to) ps

-- the way back to it, from the sibling after it
abbrev pub followed : Option ℕ → Option ℕ → List Place → List Place
followed None to ps = ps
followed (Some next) to ps = edited next (with_prev to) ps

-- a node comes between two siblings
abbrev pub put_between : ℕ → ℕ → Name → Option ℕ → Option ℕ → List Place → List Place
put_between dir n name prev next ps = edited n (entered (Some dir) name prev next) (followed next (Some n) (led dir prev (Some n) (edited dir (λ p. with_entries (p.entries + 1) p) ps)))

-- a node leaves its place between two siblings, with another name there
abbrev pub taken_out : ℕ → ℕ → Name → Option ℕ → Option ℕ → List Place → List Place
taken_out dir n blank prev next ps = edited n (entered None blank None None) (followed next prev (led dir prev next (edited dir (λ p. with_entries (p.entries - 1) p) ps)))

-- an entry of a directory
abbrev pub IsEntry : Graph → ℕ → ℕ → Type 0
IsEntry graph dir n = (y : Name) × (graph.child dir y ≡ Some n)

-- an entry whose name is greater than a given one
abbrev pub IsGreater : Graph → ℕ → Name → ℕ → Type 0
IsGreater graph dir x n = (y : Name) × (graph.child dir y ≡ Some n) × (is_above (Some x) y ≡ true)

-- an entry whose name is lesser than a given one
abbrev pub IsLesser : Graph → ℕ → Name → ℕ → Type 0
IsLesser graph dir x n = (y : Name) × (graph.child dir y ≡ Some n) × (is_above (Some y) x ≡ true)

-- whether a place is that of an entry of the directory with a lesser name
abbrev pub is_lesser : Place → ℕ → Name → Bool
is_lesser p dir x = is_in (link_of (plain p)) dir && is_above (Some p.name) x

-- where a search for x stands: between two siblings, the first of which is lesser, if there is one
pub record IsPassed (ps : List Place) (dir : ℕ) (x : Name) (prev next : Option ℕ) : Type 0 where
  pub low : Option Name
  pub is_low : IsLow (graph_of_places ps) dir low prev
  pub below : is_above low x ≡ true
  pub next_is : next ≡ next_child (graph_of_places ps) dir low

-- how many names are above that of a place
abbrev pub names_past : List Name → Option Place → ℕ
names_past names None = 0
names_past names (Some p) = length (names_above (Some p.name) names)

-- how many entries are still to come
abbrev pub rank : List Place → ℕ → Option ℕ → ℕ
rank ps dir None = 0
rank ps dir (Some n) = suc (names_past (names_of ((graph_of_places ps).shape dir)) (slice_get ps n))
