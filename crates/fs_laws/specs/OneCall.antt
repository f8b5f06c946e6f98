-- A call that is begun with no other under way, and stepped to its end.
use Rattle.std.specs.Prelude.{ℕ, ◌≡◌, Ok}
use Rattle.fs_calls.specs.Outcomes as outcomes
use Rattle.fs_calls.specs.Sights.{tree_shapes}
use Rattle.fs_calls.specs.Tree.{Tree, IsTree}
use Rattle.fs_calls.specs.declared.call.Call.{Call}
use Rattle.fs_calls.specs.declared.reply.Reply.{Reply}
use Rattle.fs_calls.specs.Graphs.{graph_shapes}
use Rattle.fs_machine.specs.Headline.{IsIdle}
use Rattle.fs_machine.specs.States.{State, Begins, Step}
use Rattle.fs_machine.specs.declared.answers.Stepped.{Stepped}
use Rattle.fs_machine.specs.declared.answers.Stepped.TheVariants.{Idle, Took, Busy, LetGo, Helped, Committed, CarriedOut, Returned}

-- an answer that is no return
abbrev pub IsNoReturn : Stepped → Type 0
IsNoReturn (Returned r) = ⊥
IsNoReturn Idle = Unit {0}
IsNoReturn (Took n) = Unit {0}
IsNoReturn (Busy n d) = Unit {0}
IsNoReturn (LetGo n) = Unit {0}
IsNoReturn (Helped d) = Unit {0}
IsNoReturn Committed = Unit {0}
IsNoReturn CarriedOut = Unit {0}

-- steps of one seat up to the one that returns
pub data StepsTo (seat : ℕ) (r : Reply) (new : State) : State → Type 0 where
  Returns : {s : State} → Step s seat (Returned r) new → StepsTo seat r new s
  Goes_on : {s : State} (answer : Stepped) (next : State) → IsNoReturn answer → Step s seat answer next → StepsTo seat r new next → StepsTo seat r new s

-- the reply, and what the nodes spell before and after, are those of the sequential tree; and no call is left under way
pub record MeetsTree (s : State) (call : Call) (r : Reply) (new : State) : Type 0 where
  pub tree : Tree
  pub is_tree : IsTree tree
  pub before : graph_shapes s.graph ≡ tree_shapes tree
  pub replied : r ≡ outcomes.reply s.start.limits tree call
  pub after : graph_shapes new.graph ≡ tree_shapes (outcomes.after s.start.limits tree call)
  pub idle : IsIdle new

-- so it is of each call that begins in this state, where no call is under way
abbrev pub MeetsTreeAlone : State → Type 0
MeetsTreeAlone s = (first new : State) (seat c : ℕ) (call : Call) (r : Reply) → IsIdle s → Begins s seat call (Ok c) first → StepsTo seat r new first → MeetsTree s call r new
