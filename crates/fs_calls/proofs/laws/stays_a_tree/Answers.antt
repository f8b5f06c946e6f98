use Rattle.fs_calls.proofs.TreeLaws.{stays_a_tree}
use Rattle.fs_calls.proofs.laws.stays_a_tree.Goals as goal

pub returns : goal.returns
returns c = stays_a_tree
