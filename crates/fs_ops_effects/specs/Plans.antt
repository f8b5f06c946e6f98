-- What a finish does, by its row of the table of errors, and the effect of that.
use Rattle.std.specs.Prelude.{ℕ, ◌≡◌, ◌≢◌, ◌<◌, Bool, true, false, IsTrue, IfSome, IsSome, is_some, length, Option, Some, None}
use Rattle.fs_names.specs.Keys.{last_of}
use Rattle.fs_names.specs.Names.{Name}
use Rattle.fs_names.specs.Shapes.{Shape, is_dir, has_entries}
use Rattle.fs_nodes.specs.Graphs.{Graph, linked_in, unlinked_in, moved_in, swapped_in, IsReached}
use Rattle.fs_nodes.specs.Seen.{Seen, IsReal}
use Rattle.fs_calls.specs.Forms.{Form, AtNode, AtEntry, AtPair}
use Rattle.fs_calls.specs.Rows.{node_row}
use Rattle.fs_calls.specs.declared.errno.Errno.{Errno}
use Rattle.fs_calls.specs.declared.reply.Reply.TheVariants.{Done, Failed}
use Rattle.fs_ops_effects.specs.Paths.{first_path, second_path, new_name}
use Rattle.fs_ops_effects.specs.declared.plan.Route.{Route}
use Rattle.fs_ops_effects.specs.declared.plan.Moving.{Moving}
use Rattle.fs_ops_effects.specs.declared.plan.Swapping.{Swapping}
use Rattle.fs_ops_effects.specs.declared.plan.Plan.{Plan}
use Rattle.fs_ops_effects.specs.declared.plan.Plan.TheVariants.{Fails, Stays, Answers, Adds, Removes, Moves, Replaces, Swaps}
use Rattle.fs_machine.specs.Finishes.{Effect, no_effect, node_effect}
use Rattle.fs_machine.specs.OpValues.{SpareIf}
use Rattle.fs_machine.specs.declared.moves.Moved.{Moved}
use Rattle.fs_machine.specs.declared.moves.Moved.TheVariants.{Nothing, One, Two}

-- ---- plans, by the first error of a row

-- a call on a node
abbrev pub node_plan : Option Errno → ℕ → Plan
node_plan (Some e) n = Fails e
node_plan None n = Answers n

-- a call on an entry, by what it would add: one that adds nothing removes
abbrev pub entry_plan : Option Errno → Option Shape → ℕ → Plan
entry_plan (Some e) new dir = Fails e
entry_plan None (Some shape) dir = Adds dir
entry_plan None None dir = Removes dir

-- a call on two entries, by whether both paths are one, and by what it would do
abbrev pub pair_plan : Option Errno → Bool → Plan → Plan
pair_plan (Some e) same_path plan = Fails e
pair_plan None true plan = Stays
pair_plan None false plan = plan

-- a node goes to a name that is free, or in the place of another one
abbrev pub moves : Bool → ℕ → Plan
moves true n = Replaces n
moves false n = Moves n

-- the same of a node that is there
abbrev pub moving : Bool → Option ℕ → Plan
moving replaces None = Stays
moving replaces (Some n) = moves replaces n

-- two nodes that are there change places
abbrev pub swapping : Option ℕ → Option ℕ → Plan
swapping (Some n) (Some m) = Swaps n m
swapping (Some n) None = Stays
swapping None other = Stays

-- what a finish would really move
abbrev pub moved_by : Plan → Moved
moved_by (Fails e) = Nothing
moved_by Stays = Nothing
moved_by (Answers n) = Nothing
moved_by (Adds dir) = Nothing
moved_by (Removes dir) = Nothing
moved_by (Moves n) = One n
moved_by (Replaces n) = One n
moved_by (Swaps n m) = Two n m

-- ---- their effects

-- a call on a node answers there; the others have no answer of their own
abbrev pub answered_at : Graph → Form → ℕ → Option ℕ → Effect
answered_at graph (AtNode c p) n reserved = node_effect graph n reserved (node_row c None (graph.shape n))
answered_at graph (AtEntry c p) n reserved = no_effect Done graph reserved
answered_at graph (AtPair c p q) n reserved = no_effect Done graph reserved

-- the reserved number gets an entry
abbrev pub added : Graph → ℕ → Name → Option ℕ → Effect
added graph dir x None = no_effect Done graph None
added graph dir x (Some n) = record { reply = Done; graph = linked_in dir x n graph; reserved = None; removed = None }

-- an entry goes
abbrev pub removed : Graph → ℕ → Name → Option ℕ → Effect
removed graph dir x reserved = record { reply = Done; graph = unlinked_in dir x graph; reserved = reserved; removed = graph.child dir x }

-- a node's entry goes along the route of a rename
abbrev pub along : Route → ℕ → Bool → Moving
along route n replaces = record { source = route.source; dest = route.dest; moved = n; replaces = replaces; victim = route.victim }

-- an entry goes to another directory, or to another name
abbrev pub moved : Graph → Moving → Name → Name → Option ℕ → Effect
moved graph m x y reserved = record { reply = Done; graph = moved_in m.source x m.dest y m.moved graph; reserved = reserved; removed = m.victim }

-- the nodes at both ends of the route of an exchange
abbrev pub between : Route → ℕ → ℕ → Swapping
between route n m = record { source = route.source; dest = route.dest; first = n; second = m }

-- two entries change what they name
abbrev pub swapped : Graph → Swapping → Name → Name → Option ℕ → Effect
swapped graph s x y reserved = record { reply = Done; graph = swapped_in s.source x s.first s.dest y s.second graph; reserved = reserved; removed = None }

-- a plan that is carried out
abbrev pub carried : Graph → Form → Route → Option ℕ → Plan → Effect
carried graph call route reserved (Fails e) = no_effect (Failed e) graph reserved
carried graph call route reserved Stays = no_effect Done graph reserved
carried graph call route reserved (Answers n) = answered_at graph call n reserved
carried graph call route reserved (Adds dir) = added graph dir (last_of (first_path call)) reserved
carried graph call route reserved (Removes dir) = removed graph dir (last_of (first_path call)) reserved
carried graph call route reserved (Moves n) = moved graph (along route n false) (last_of (first_path call)) (last_of (second_path call)) reserved
carried graph call route reserved (Replaces n) = moved graph (along route n true) (last_of (first_path call)) (last_of (second_path call)) reserved
carried graph call route reserved (Swaps n m) = swapped graph (between route n m) (last_of (first_path call)) (last_of (second_path call)) reserved

-- ---- what they need of the store

-- what holds of a plan that changes a directory
abbrev pub Changes : Plan → Type 0 → Type 0
Changes (Fails e) R = Unit {0}
Changes Stays R = Unit {0}
Changes (Answers n) R = Unit {0}
Changes (Adds dir) R = R
Changes (Removes dir) R = R
Changes (Moves n) R = R
Changes (Replaces n) R = R
Changes (Swaps n m) R = R

-- a directory where the name is free, and a number that is not its own
pub record CanAdd (store : Seen) (n : ℕ) (x : Name) (reserved : Option ℕ) : Type 0 where
  pub real : IsReal store
  pub dir : IsTrue (is_dir (store.graph.shape n))
  pub absent : store.graph.child n x ≡ None
  pub spare : SpareIf store.graph reserved
  pub other : reserved ≢ Some n

-- an entry of a node without entries
pub record CanRemove (store : Seen) (dir : ℕ) (x : Name) : Type 0 where
  pub there : IsSome (store.graph.child dir x)
  pub bare : IfSome (store.graph.child dir x) (λ n. has_entries (store.graph.shape n) ≡ false)

-- an entry, and another name in a directory that is not below what it names; what stands there has no entries
pub record CanMove (store : Seen) (m : Moving) (x y : Name) : Type 0 where
  pub real : IsReal store
  pub there : store.graph.child m.source x ≡ Some m.moved
  pub dir : IsTrue (is_dir (store.graph.shape m.dest))
  pub replaces : m.replaces ≡ is_some (store.graph.child m.dest y)
  pub bare : IfSome (store.graph.child m.dest y) (λ n. has_entries (store.graph.shape n) ≡ false)
  pub apart : m.source ≡ m.dest → x ≡ y → ⊥
  pub below : IsReached store.graph.child m.moved m.dest → ⊥

-- two entries, of whose nodes neither is reached from the other
pub record CanSwap (store : Seen) (s : Swapping) (x y : Name) : Type 0 where
  pub there : store.graph.child s.source x ≡ Some s.first
  pub there_too : store.graph.child s.dest y ≡ Some s.second
  pub apart : (IsReached store.graph.child s.first s.second → ⊥) × (IsReached store.graph.child s.second s.first → ⊥)

-- a plan that can be carried out, of a call whose paths have names where it needs them, and that gives an entry such a name
abbrev pub CanCarryOut : Seen → Form → Route → Option ℕ → Plan → Type 0
CanCarryOut store call route reserved (Fails e) = Unit {0}
CanCarryOut store call route reserved Stays = Unit {0}
CanCarryOut store call route reserved (Answers n) = Unit {0}
CanCarryOut store call route reserved (Adds dir) = (0 < length (first_path call)) × (new_name call ≡ Some (last_of (first_path call))) × CanAdd store dir (last_of (first_path call)) reserved
CanCarryOut store call route reserved (Removes dir) = (0 < length (first_path call)) × CanRemove store dir (last_of (first_path call))
CanCarryOut store call route reserved (Moves n) = (0 < length (first_path call)) × (0 < length (second_path call)) × (new_name call ≡ Some (last_of (second_path call))) × CanMove store (along route n false) (last_of (first_path call)) (last_of (second_path call))
CanCarryOut store call route reserved (Replaces n) = (0 < length (first_path call)) × (0 < length (second_path call)) × (new_name call ≡ Some (last_of (second_path call))) × CanMove store (along route n true) (last_of (first_path call)) (last_of (second_path call))
CanCarryOut store call route reserved (Swaps n m) = (0 < length (first_path call)) × (0 < length (second_path call)) × CanSwap store (between route n m) (last_of (first_path call)) (last_of (second_path call))
