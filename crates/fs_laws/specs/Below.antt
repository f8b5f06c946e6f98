-- Who stands below whom, who holds what, and what the placed calls leave, in every state of a run.
use Rattle.std.specs.Prelude.{ℕ, ◌≡◌, ◌<◌, ◌≤◌, List, [], ◌∷◌, true, ◌++◌, Some, ◌⊎◌, length}
use Rattle.fs_names.specs.Keys.{Key}
use Rattle.fs_calls.specs.Outcomes as tree
use Rattle.fs_calls.specs.Starts.{Start}
use Rattle.fs_calls.specs.Sights.{tree_shapes}
use Rattle.fs_calls.specs.declared.call.Call.{Call}
use Rattle.fs_calls.specs.declared.reply.Reply.{Reply}
use Rattle.fs_calls.specs.Graphs.{at, graph_shapes}
use Rattle.fs_timeline.specs.Timeline as journal
use Rattle.fs_timeline.specs.declared.entry.Entry.{Entry}
use Rattle.fs_machine.specs.Moves.{next}
use Rattle.fs_machine.specs.declared.moves.Move.TheVariants.{Finish as Finishes}
use Rattle.fs_machine.specs.declared.moves.Moved.{Moved}
use Rattle.fs_machine.specs.Records.{Holdings, Walking, Placed, Record, Holds}
use Rattle.fs_timeline.specs.Timeline.{commit_count}
use Rattle.fs_laws.specs.Invariants.{InOrder, IsIn}
use Rattle.fs_laws.specs.Settled.{settled_graph, settled_replies}
use Rattle.fs_machine.specs.States.{State, Begun, Begins, Moves, IsBelow, IsWalkingBelow, IsWalkingBelowMoved, IsChosen, NoneBelow, Step}
use Rattle.fs_machine.specs.declared.answers.Stepped.{Stepped}
use Rattle.fs_machine.specs.declared.answers.Stepped.TheVariants.{Helped, Committed}

-- a call under way that stands somewhere
pub record IsHolding (s : State) (c : ℕ) (op : Record) (st : Holdings) : Type 0 where
  pub is : s.ops c ≡ Some op
  pub on : op.holdings ≡ Some st

-- no walking call is below the position of a placed one
abbrev pub NoWalkingBelow : State → Type 0
NoWalkingBelow s = (c d i : ℕ) (op : Record) (st : Holdings) → IsHolding s c op st → op.phase ≡ Placed i → IsWalkingBelow s st.node d → ⊥

-- no placed call is below the position of one placed earlier
abbrev pub NoLaterBelow : State → Type 0
NoLaterBelow s = (c d i j : ℕ) (op q : Record) (st : Holdings) → IsHolding s c op st → op.phase ≡ Placed i → s.ops d ≡ Some q → q.phase ≡ Placed j → i < j → IsBelow s.graph st.node q → ⊥

-- while a rename or an exchange holds its common directory and has walked from there to a head, no other call holds a node on that way, its ends included
abbrev pub NobodyBetween : State → Type 0
NobodyBetween s = (c d n : ℕ) (op q : Record) (st other : Holdings) (u v : Key) → (c ≡ d → ⊥) → IsHolding s c op st → IsHolding s d q other
    → (st.source.walked ≡ u ++ v) ⊎ (st.dest.walked ≡ u ++ v) → at s.graph.child st.node u ≡ Some n → Holds other n → ⊥

-- each of these calls is due this reply
abbrev pub AreDue : Start → List Entry → List ℕ → List Reply → Type 0
AreDue start es [] rs = Unit {0}
AreDue start es (c ∷ cs) [] = ⊥
AreDue start es (c ∷ cs) (r ∷ rs) = (journal.due start c es ≡ Some r) × AreDue start es cs rs

-- what the placed calls leave, once each has gone on alone by its own moves, in the order of their commits
pub record Settles (s : State) : Type 0 where
  -- the placed calls in the order of their commits
  pub order : List ℕ
  pub in_order : InOrder s.ops order
  pub all : (c : ℕ) (op : Record) (i : ℕ) → s.ops c ≡ Some op → op.phase ≡ Placed i → IsIn c order
  -- the nodes then spell the tree that the commits play
  pub spelled : graph_shapes (settled_graph s.graph s.ops order) ≡ tree_shapes (tree.play s.start (journal.commits s.timeline))
  -- and each replies what is due to its place among the commits
  pub replies : AreDue s.start s.timeline order (settled_replies s.graph s.ops order)

-- what a step answers whose call walks and is to finish: whom it helped, or that it committed
pub data HelpsOrCommits (s : State) : Moved → Stepped → Type 0 where
  Helps : (moved : Moved) (d : ℕ) → IsChosen s moved d → HelpsOrCommits s moved (Helped d)
  Commits : (moved : Moved) → NoneBelow s moved → HelpsOrCommits s moved Committed

-- it never answers Busy, nor anything else
abbrev pub NeverWaitsToFinish : State → Type 0
NeverWaitsToFinish s = (new : State) (seat c : ℕ) (op : Record) (moved : Moved) (answer : Stepped)
    → Moves s seat c op (Finishes moved) → op.phase ≡ Walking → Step s seat answer new → HelpsOrCommits s moved answer

-- a call walks, and its next move is to finish and to move these nodes
abbrev pub IsAboutToMove : State → ℕ → Moved → Type 0
IsAboutToMove s c moved = (op : Record) × (s.ops c ≡ Some op) × (op.phase ≡ Walking) × (next s.graph op ≡ Finishes moved)

-- a piece of a run, from a state on, all through which the call stays so; with the calls that it helped, the last first
pub data Meanwhile (c : ℕ) (moved : Moved) (s : State) : List ℕ → State → Type 0 where
  Now : IsAboutToMove s c moved → Meanwhile c moved s [] s
  Begins_another : {helped : List ℕ} {old : State} (seat : ℕ) (call : Call) (answer : Begun) (new : State) → Meanwhile c moved s helped old → Begins old seat call answer new → IsAboutToMove new c moved → Meanwhile c moved s helped new
  Steps_another : {helped : List ℕ} {old : State} (seat : ℕ) (answer : Stepped) (new : State) → Meanwhile c moved s helped old → (old.on_seat seat ≡ Some c → ⊥) → Step old seat answer new → IsAboutToMove new c moved → Meanwhile c moved s helped new
  Helps_one : {helped : List ℕ} {old : State} (seat d : ℕ) (new : State) → Meanwhile c moved s helped old → old.on_seat seat ≡ Some c → Step old seat (Helped d) new → IsAboutToMove new c moved → Meanwhile c moved s (d ∷ helped) new

-- each of these calls walks below a node that moves, and is there once
abbrev pub EachBelow : State → Moved → List ℕ → Type 0
EachBelow s moved [] = Unit {0}
EachBelow s moved (d ∷ ds) = IsWalkingBelowMoved s moved d × (IsIn d ds → ⊥) × EachBelow s moved ds

-- each call that it helped meanwhile walked below a moved node from the first, and none twice; whoever walks below one at the end did so from the first, and was not helped
pub record HelpsEachOnce (c : ℕ) (moved : Moved) (s : State) (helped : List ℕ) (new : State) : Type 0 where
  pub helps : EachBelow s moved helped
  pub still : (d : ℕ) → IsWalkingBelowMoved new moved d → IsWalkingBelowMoved s moved d × (IsIn d helped → ⊥)
  -- so there are at most as many helps as calls walked below the moved nodes at first
  pub most : (below : List ℕ) → ((d : ℕ) → IsWalkingBelowMoved s moved d → IsIn d below) → length helped ≤ length below

-- from this state on, whichever call is about to move which nodes, for as long as it stays so
abbrev pub HelpsAreFew : State → Type 0
HelpsAreFew s = (c : ℕ) (moved : Moved) (new : State) (helped : List ℕ) → Meanwhile c moved s helped new → HelpsEachOnce c moved s helped new

-- a call's place is the number of commits before its own
pub record HasPlace (es : List Entry) (c i : ℕ) : Type 0 where
  pub committed : journal.has_committed c es ≡ true
  pub place : commit_count (journal.before_commit c es) ≡ i

-- each placed call has the place that its phase tells
abbrev pub PlacesAreCounted : State → Type 0
PlacesAreCounted s = (c i : ℕ) (op : Record) → s.ops c ≡ Some op → op.phase ≡ Placed i → HasPlace s.timeline c i
