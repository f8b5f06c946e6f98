-- A call as a machine of its own: what its code keeps. Its seat and its place among the commits are told by whoever runs it.
use Rattle.std.specs.Prelude.{ℕ, ◌≡◌, ◌≢◌, ◌<◌, ◌≤◌, IsTrue, false, List, [], Option, Some, None, length, ◌⊎◌}
use Rattle.fs_names.specs.Keys.{Key, parent_of, last_of}
use Rattle.fs_names.specs.Limits.{entry_limit, file_limit}
use Rattle.fs_names.specs.Names.{Name}
use Rattle.fs_names.specs.Shapes.{Shape, Dir, File, is_there, has_entries}
use Rattle.fs_names.specs.declared.limits.Limits.{Limits}
use Rattle.fs_calls.specs.Forms.{form, Form, AtNode, AtEntry, AtPair}
use Rattle.fs_calls.specs.Forms as pairs
use Rattle.fs_calls.specs.declared.call.Call.{Call}
use Rattle.fs_calls.specs.declared.reply.Reply.{Reply}
use Rattle.fs_calls.specs.Graphs.{Graph, reserved_in, IsReached, IsUnlinked}
use Rattle.fs_machine.specs.Finishes.{finish}
use Rattle.fs_machine.specs.Leaving.{let_go, finished_op}
use Rattle.fs_machine.specs.Moves.{next, took}
use Rattle.fs_machine.specs.declared.moves.Move.{Move}
use Rattle.fs_machine.specs.Records.{Holdings, Phase, Walking, Placed, Finished, Record}

-- the limits that it keeps, the call, what it has walked of its paths and what is left of it, where it stands, its reply once it is fixed, its reserved number and the node that it removed
pub record OpValue : Type 0 where
  pub limits : Limits
  pub call : Call
  pub walked : Key
  pub remaining : Form
  pub holdings : Option Holdings
  pub reply : Option Reply
  pub reserved : Option ℕ
  pub removed : Option ℕ

-- its phase, where it may have a place in the timeline
abbrev pub phase_of : Option ℕ → Option Reply → Phase
phase_of place (Some r) = Finished r
phase_of (Some i) None = Placed i
phase_of None None = Walking

-- its record on a seat; the limits are those of the machine's start
abbrev pub record_of : ℕ → Option ℕ → OpValue → Record
record_of seat place op =
    record { seat = seat; call = op.call; walked = op.walked; remaining = op.remaining; holdings = op.holdings; phase = phase_of place op.reply; reserved = op.reserved; removed = op.removed }

-- a call that begins by these limits
abbrev pub new_value : Limits → Call → Option ℕ → OpValue
new_value limits call reserved = record { limits = limits; call = call; walked = []; remaining = form limits call; holdings = None; reply = None; reserved = reserved; removed = None }

-- its next move; neither its seat nor its place matters
abbrev pub next_of : Graph → OpValue → Move
next_of graph op = next graph (record_of 0 None op)

-- after a take: on each seat and with each place the record is what the machine says
abbrev pub IsTook : OpValue → ℕ → OpValue → Type 0
IsTook old n new = (seat : ℕ) (place : Option ℕ) → record_of seat place new ≡ took (record_of seat place old) n

-- the same after a let go
abbrev pub IsLetGo : OpValue → ℕ → OpValue → Type 0
IsLetGo old n new = (seat : ℕ) (place : Option ℕ) → record_of seat place new ≡ let_go (record_of seat place old) n

-- the same after a finish on a graph
abbrev pub IsFinished : Graph → OpValue → OpValue → Type 0
IsFinished graph old new = (seat : ℕ) (place : Option ℕ) → record_of seat place new ≡ finished_op (record_of seat place old) (finish graph (record_of seat place old))

-- the graph after its finish
abbrev pub graph_after : Graph → OpValue → Graph
graph_after graph op = (finish graph (record_of 0 None op)).graph

-- a begin on a graph with so many numbers, by these limits: a call that reserves gets some number below so many that was not in use
abbrev pub BegunAs : Graph → ℕ → Limits → Call → Option Shape → OpValue → Graph → Type 0
BegunAs graph limit limits call None op new = (op ≡ new_value limits call None) × (new ≡ graph)
BegunAs graph limit limits call (Some shape) op new = (n : ℕ) × (n < limit) × (graph.shape n ≡ None) × (op ≡ new_value limits call (Some n)) × (new ≡ reserved_in n shape graph)

-- a number that is in use, that no entry names, and without entries: it may be linked, or released
pub record IsSpare (graph : Graph) (n : ℕ) : Type 0 where
  pub used : IsTrue (is_there (graph.shape n))
  pub unlinked : IsUnlinked graph.child n
  pub not_root : n ≢ 0
  pub empty : has_entries (graph.shape n) ≡ false

-- a number that a call may have reserved, or removed
abbrev pub SpareIf : Graph → Option ℕ → Type 0
SpareIf graph number = (n : ℕ) → number ≡ Some n → IsSpare graph n

-- no directory has more entries than so many
abbrev pub DirsWithin : ℕ → Graph → Type 0
DirsWithin most graph = (n : ℕ) (names : List Name) → graph.shape n ≡ Some (Dir names) → length names ≤ most

-- no file has more bytes than so many
abbrev pub FilesWithin : ℕ → Graph → Type 0
FilesWithin most graph = (n : ℕ) (content : List ℕ) → graph.shape n ≡ Some (File content) → length content ≤ most

-- no directory and no file is above its limit
pub record IsBounded (limits : Limits) (graph : Graph) : Type 0 where
  pub entries : DirsWithin (entry_limit limits) graph
  pub bytes : FilesWithin (file_limit limits) graph

-- heads of a pair that stand at one node have walked the same names
abbrev pub HeadsApart : Form → Holdings → Type 0
HeadsApart (AtNode c p) st = Unit {0}
HeadsApart (AtEntry c p) st = Unit {0}
HeadsApart (AtPair c p q) st = st.source.node ≡ st.dest.node → st.source.walked ≡ st.dest.walked

-- from the node that a rename would move its new directory is not reached, and of the nodes that an exchange would move neither from the other, once the heads have come to both parents
abbrev pub MovesApart : Graph → Form → Holdings → Type 0
MovesApart graph (AtNode c p) st = Unit {0}
MovesApart graph (AtEntry c p) st = Unit {0}
MovesApart graph (AtPair (pairs.Rename most) p q) st = (n : ℕ) → st.source.walked ≡ parent_of p → st.dest.walked ≡ parent_of q → graph.child st.source.node (last_of p) ≡ Some n → IsReached graph.child n st.dest.node → ⊥
MovesApart graph (AtPair pairs.Exchange p q) st = (n m : ℕ) → st.source.walked ≡ parent_of p → st.dest.walked ≡ parent_of q → graph.child st.source.node (last_of p) ≡ Some n → graph.child st.dest.node (last_of q) ≡ Some m
    → (n ≡ m) ⊎ ((IsReached graph.child n m → ⊥) × (IsReached graph.child m n → ⊥))

-- what a finish needs of the graph: among others, that the reserved number is not the node stood at
pub record CanFinish (graph : Graph) (reserved : Option ℕ) (remaining : Form) (holdings : Option Holdings) : Type 0 where
  pub spare : SpareIf graph reserved
  pub heads : (st : Holdings) → holdings ≡ Some st → HeadsApart remaining st
  pub other : (st : Holdings) → holdings ≡ Some st → reserved ≢ Some st.node
  pub apart : (st : Holdings) → holdings ≡ Some st → MovesApart graph remaining st
