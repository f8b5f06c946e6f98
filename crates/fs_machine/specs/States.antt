-- States of the core, what a begin and a step may do, and runs.
use Rattle.std.specs.Prelude.{ℕ, ◌≡◌, true, ◌+◌, ◌<◌, ◌≤◌, List, [], ◌∷◌, ◌++◌, ◌⊎◌, Option, Some, None, Result, Ok, Err}
use Rattle.std.specs.declared.cmp.Ordering.TheVariants.{Less}
use Rattle.fs_names.specs.Keys.{Key}
use Rattle.fs_names.specs.Names.{Name, name_cmp, has_name}
use Rattle.fs_names.specs.Shapes.{Shape, Dir}
use Rattle.fs_names.specs.declared.limits.Limits.{Limits}
use Rattle.fs_calls.specs.Tree.{IsTree}
use Rattle.fs_calls.specs.Starts.{Start, start_tree, root_start}
use Rattle.fs_calls.specs.Outcomes.{next_start}
use Rattle.fs_calls.specs.Sights.{tree_shapes}
use Rattle.fs_calls.specs.Forms.{form, reserved_by}
use Rattle.fs_calls.specs.declared.call.Call.{Call}
use Rattle.fs_calls.specs.declared.reply.Reply.{Reply}
use Rattle.fs_calls.specs.Graphs.{Graph, at, empty_graph, graph_shapes, IsGraph, IsReached, reserved_in, set_at, used_below}
use Rattle.fs_timeline.specs.declared.entry.Entry.{Entry}
use Rattle.fs_timeline.specs.declared.entry.Entry.TheVariants.{Begin, Commit, Return}
use Rattle.fs_machine.specs.Finishes.{finish}
use Rattle.fs_machine.specs.Leaving.{is_removed, releasing, let_go, finished_op, unreserved}
use Rattle.fs_machine.specs.Moves.{next, took}
use Rattle.fs_machine.specs.OpValues.{IsBounded}
use Rattle.fs_machine.specs.declared.moves.Move.{Move}
use Rattle.fs_machine.specs.declared.moves.Moved.{Moved}
use Rattle.fs_machine.specs.declared.moves.Moved.TheVariants.{Nothing, One, Two}
use Rattle.fs_machine.specs.declared.moves.Move.TheVariants.{Take as Takes, LetGo as Leaves, Finish as Finishes, Return as Ends}
use Rattle.fs_machine.specs.declared.answers.Refusal.{Refusal}
use Rattle.fs_machine.specs.declared.answers.Refusal.TheVariants.{SeatBusy, Full, OutOfMemory}
use Rattle.fs_machine.specs.declared.answers.Stepped.{Stepped}
use Rattle.fs_machine.specs.declared.answers.Stepped.TheVariants.{Idle, Took, Busy, LetGo, Helped, Committed, CarriedOut, Returned}
use Rattle.fs_machine.specs.Records.{Holdings, Walking, Placed, Finished, Record, Records}
use Rattle.fs_timeline.specs.Timeline.{begins, commit_count, commits}

-- limit, the start at which the timeline begins, graph, who holds each node, the calls under way by their numbers, the call on each seat, timeline
pub record State : Type 0 where
  pub limit : ℕ
  pub start : Start
  pub graph : Graph
  pub holder : ℕ → Option ℕ
  pub ops : Records
  pub on_seat : ℕ → Option ℕ
  pub timeline : List Entry

-- before anything began
abbrev pub fresh : ℕ → Start → Graph → State
fresh limit start graph = record { limit = limit; start = start; graph = graph; holder = λ n. None; ops = λ c. None; on_seat = λ s. None; timeline = [] }

-- the same of the root alone
abbrev pub empty : Limits → ℕ → State
empty limits limit = fresh limit (root_start limits) empty_graph

-- names in byte order, each once
abbrev pub IsBefore : Name → List Name → Type 0
IsBefore x names = (y : Name) → has_name y names ≡ true → name_cmp x y ≡ Less

abbrev pub AreRising : List Name → Type 0
AreRising [] = Unit {0}
AreRising (x ∷ names) = IsBefore x names × AreRising names

-- the timeline begins again, at the tree that it plays, by the same limits
abbrev pub begun_again : State → State
begun_again s = fresh s.limit (next_start s.start (commits s.timeline)) s.graph

-- where a timeline can begin: a graph that spells the tree, keeps the limits, and has no number in use that is not reached
pub record IsStart (limit : ℕ) (start : Start) (graph : Graph) : Type 0 where
  pub least : 1 ≤ limit
  pub tree : IsTree (start_tree start)
  pub spelled : graph_shapes graph ≡ tree_shapes (start_tree start)
  pub is_graph : IsGraph graph
  pub bounded : IsBounded start.limits graph
  pub rising : (n : ℕ) (names : List Name) → graph.shape n ≡ Some (Dir names) → AreRising names
  pub below : (n : ℕ) (s : Shape) → graph.shape n ≡ Some s → n < limit
  pub reached : (n : ℕ) (s : Shape) → graph.shape n ≡ Some s → IsReached graph.child 0 n

-- what a begin answers: the call's number, or why it could not begin
abbrev pub Begun : Type 0
Begun = Result ℕ Refusal

-- the record of a call that begins by these limits
abbrev pub new_op : Limits → ℕ → Call → Option ℕ → Record
new_op limits seat call reserved = record { seat = seat; call = call; walked = []; remaining = form limits call; holdings = None; phase = Walking; reserved = reserved; removed = None }

-- the state after a begin
abbrev pub began : State → ℕ → Call → ℕ → Option ℕ → Graph → State
began old seat call c reserved graph = record old {
  graph = graph;
  ops = set_at c (Some (new_op old.start.limits seat call reserved)) old.ops;
  on_seat = set_at seat (Some c) old.on_seat;
  timeline = old.timeline ++ Begin c seat call ∷ [];
}

-- a call that reserves gets some number below the limit that is not in use
abbrev pub Reserves : State → ℕ → Call → ℕ → Option Shape → State → Type 0
Reserves old seat call c None new = new ≡ began old seat call c None old.graph
Reserves old seat call c (Some shape) new =
    (n : ℕ) × (n < old.limit) × (old.graph.shape n ≡ None) × (new ≡ began old seat call c (Some n) (reserved_in n shape old.graph))

-- a number is wanted and all are in use
abbrev pub IsFull : State → Option Shape → Type 0
IsFull old None = ⊥
IsFull old (Some shape) = used_below old.graph.shape old.limit ≡ old.limit

-- the relation of a begin
abbrev pub Begins : State → ℕ → Call → Begun → State → Type 0
Begins old seat call (Err SeatBusy) new = (c : ℕ) × (old.on_seat seat ≡ Some c) × (new ≡ old)
Begins old seat call (Err Full) new = (old.on_seat seat ≡ None) × IsFull old (reserved_by call) × (new ≡ old)
Begins old seat call (Err OutOfMemory) new = (old.on_seat seat ≡ None) × (IsFull old (reserved_by call) → ⊥) × (new ≡ old)
Begins old seat call (Ok c) new = (old.on_seat seat ≡ None) × (c ≡ begins old.timeline + 1) × Reserves old seat call c (reserved_by call) new

-- the call is on the seat, and this is its next move
abbrev pub Moves : State → ℕ → ℕ → Record → Move → Type 0
Moves old seat c op move = (old.on_seat seat ≡ Some c) × (old.ops c ≡ Some op) × (next old.graph op ≡ move)

-- a call's position is at a node or is reached from it
abbrev pub IsBelow : Graph → ℕ → Record → Type 0
IsBelow graph s op = (st : Holdings) × (key : Key) × (op.holdings ≡ Some st) × (at graph.child s key ≡ Some st.node)

-- a walking call below s
abbrev pub IsWalkingBelow : State → ℕ → ℕ → Type 0
IsWalkingBelow state s d = (op : Record) × (state.ops d ≡ Some op) × (op.phase ≡ Walking) × IsBelow state.graph s op

-- one of the nodes that move
abbrev pub IsMoved : Moved → ℕ → Type 0
IsMoved Nothing s = ⊥
IsMoved (One n) s = s ≡ n
IsMoved (Two n m) s = (s ≡ n) ⊎ (s ≡ m)

-- a walking call below a node that moves
abbrev pub IsWalkingBelowMoved : State → Moved → ℕ → Type 0
IsWalkingBelowMoved state moved d = (s : ℕ) × IsMoved moved s × IsWalkingBelow state s d

-- below a node that moves, and no other walking call is at a node that is reached from its position
abbrev pub IsLowest : State → Moved → ℕ → Type 0
IsLowest state moved d = IsWalkingBelowMoved state moved d × ((op : Record) (st : Holdings) (e : ℕ) → state.ops d ≡ Some op → op.holdings ≡ Some st → (d ≡ e → ⊥) → IsWalkingBelow state st.node e → ⊥)

-- whom to help: of several, the least number
abbrev pub IsChosen : State → Moved → ℕ → Type 0
IsChosen state moved d = IsLowest state moved d × ((e : ℕ) → IsLowest state moved e → d ≤ e)

-- no walking call below a node that a call would move
abbrev pub NoneBelow : State → Moved → Type 0
NoneBelow state moved = (d : ℕ) → IsWalkingBelowMoved state moved d → ⊥

-- after a take
abbrev pub taking : State → ℕ → Record → ℕ → State
taking old c op n = record old { holder = set_at n (Some c) old.holder; ops = set_at c (Some (took op n)) old.ops }

-- after a let go
abbrev pub letting_go : State → ℕ → Record → ℕ → State
letting_go old c op n = record old {
  graph = releasing (is_removed op.removed n) n old.graph;
  holder = set_at n None old.holder;
  ops = set_at c (Some (let_go op n)) old.ops;
}

-- d gets its place
abbrev pub helping : State → ℕ → Record → State
helping old d op = record old {
  ops = set_at d (Some (record op { phase = Placed (commit_count old.timeline) })) old.ops;
  timeline = old.timeline ++ Commit d ∷ [];
}

-- the change is made and the reply is fixed
abbrev pub carrying : State → ℕ → Record → State
carrying old c op = record old {
  graph = (finish old.graph op).graph;
  ops = set_at c (Some (finished_op op (finish old.graph op))) old.ops;
}

-- the same with the call's place
abbrev pub committing : State → ℕ → Record → State
committing old c op = record (carrying old c op) { timeline = old.timeline ++ Commit c ∷ [] }

-- after a return
abbrev pub returning : State → ℕ → Record → Reply → State
returning old c op r = record old {
  graph = unreserved op.reserved old.graph;
  ops = set_at c None old.ops;
  on_seat = set_at op.seat None old.on_seat;
  timeline = old.timeline ++ Return c r ∷ [];
}

-- the relation of a step
abbrev pub Step : State → ℕ → Stepped → State → Type 0
Step old seat Idle new = (old.on_seat seat ≡ None) × (new ≡ old)
Step old seat (Took n) new = (c : ℕ) × (op : Record) × Moves old seat c op (Takes n) × (old.holder n ≡ None) × (new ≡ taking old c op n)
Step old seat (Busy n d) new = (c : ℕ) × (op : Record) × Moves old seat c op (Takes n) × (old.holder n ≡ Some d) × (new ≡ old)
Step old seat (LetGo n) new = (c : ℕ) × (op : Record) × Moves old seat c op (Leaves n) × (new ≡ letting_go old c op n)
Step old seat (Helped d) new = (c : ℕ) × (op : Record) × (s : Moved) × Moves old seat c op (Finishes s) × (op.phase ≡ Walking) × IsChosen old s d × (q : Record) × (old.ops d ≡ Some q) × (new ≡ helping old d q)
Step old seat Committed new = (c : ℕ) × (op : Record) × (s : Moved) × Moves old seat c op (Finishes s) × (op.phase ≡ Walking) × NoneBelow old s × (new ≡ committing old c op)
Step old seat CarriedOut new = (c : ℕ) × (op : Record) × (s : Moved) × (i : ℕ) × Moves old seat c op (Finishes s) × (op.phase ≡ Placed i) × (new ≡ carrying old c op)
Step old seat (Returned r) new = (c : ℕ) × (op : Record) × Moves old seat c op Ends × (op.phase ≡ Finished r) × (new ≡ returning old c op r)

-- the states of all runs
pub data Run : State → Type 0 where
  Starting : (limit : ℕ) (start : Start) (graph : Graph) → IsStart limit start graph → Run (fresh limit start graph)
  Beginning : {old : State} (seat : ℕ) (call : Call) (answer : Begun) (new : State) → Run old → Begins old seat call answer new → Run new
  Stepping : {old : State} (seat : ℕ) (answer : Stepped) (new : State) → Run old → Step old seat answer new → Run new
