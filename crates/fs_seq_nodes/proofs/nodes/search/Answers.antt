use Rattle.fs_seq_nodes.proofs.SearchLemmas.{searched}
use Rattle.fs_seq_nodes.proofs.nodes.search.Goals as goal

pub returns : goal.returns
returns c = searched c.args.name.now c.args.links.now c.bisect.result c.requires c.bisect.ensures
