-- A finish as the code answers it.
use Rattle.std.specs.Prelude.{◌≡◌}
use Rattle.fs_nodes.specs.Graphs.{Graph}
use Rattle.fs_ops_effects.specs.declared.finish.Finish.{Finish}
use Rattle.fs_machine.specs.Finishes.{Effect}

-- the replies, what is left of the reserved number and the removed node are those of a finish, and so is the graph
pub record IsEffect (made : Effect) (finish : Finish) (graph : Graph) : Type 0 where
  pub reply : finish.replies ≡ made.reply
  pub reserved : finish.reserved ≡ made.reserved
  pub removed : finish.removed ≡ made.removed
  pub graph_is : graph ≡ made.graph
