use Rattle.fs_seq_nodes.proofs.Copied.{same_copy}
use Rattle.fs_seq_nodes.proofs.copying.copied.Goals as goal

pub returns-clause-copy : goal.returns-clause-copy
returns-clause-copy c = same_copy c.args.nodes.now c.clone_of.result c.clone_of.ensures.copy
