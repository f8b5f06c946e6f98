use Rattle.fs_calls.proofs.TreeLaws.{same_trees}
use Rattle.fs_calls.proofs.laws.same_trees.Goals as goal

pub returns : goal.returns
returns c = same_trees
