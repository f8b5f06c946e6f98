use Rattle.fs_calls.proofs.TreeLaws.{played_trees_are_trees}
use Rattle.fs_calls.proofs.laws.played_trees_are_trees.Goals as goal

pub returns : goal.returns
returns c = played_trees_are_trees
