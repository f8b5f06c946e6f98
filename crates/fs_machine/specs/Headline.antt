-- The linearization theorem.
use Rattle.std.specs.Prelude.{ℕ, ◌≡◌, None}
use Rattle.fs_calls.specs.Graphs.{graph_shapes}
use Rattle.fs_calls.specs.Sights.{tree_shapes}
use Rattle.fs_calls.specs.Outcomes as tree
use Rattle.fs_timeline.specs.Timeline as journal
use Rattle.fs_machine.specs.States.{State}

-- no call is under way
abbrev pub IsIdle : State → Type 0
IsIdle state = (c : ℕ) → state.ops c ≡ None

-- the timeline is lawful: well formed, and each returned reply is the sequential tree's; and where no call is under way the nodes spell the tree that its commits play, from its start tree
pub record Linearizes (state : State) : Type 0 where
  pub lawful : journal.IsLawful state.start state.timeline
  pub spelled : IsIdle state → graph_shapes state.graph ≡ tree_shapes (tree.play state.start (journal.commits state.timeline))
