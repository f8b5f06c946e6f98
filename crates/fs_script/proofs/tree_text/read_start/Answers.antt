use Rattle.fs_script.proofs.StartNames.{nodes_limits}
use Rattle.fs_script.proofs.tree_text.read_start.Goals as goal

pub returns-in-Some-clause-limits : goal.returns-in-Some-clause-limits
returns-in-Some-clause-limits c = nodes_limits c.args.limits c.in-Some.nodes.now c.tree_of_nodes.result c.tree_of_nodes.ensures.read
