use Rattle.fs_nodes_places.specs.code.Keys.{mixed}
use Rattle.fs_nodes_places.proofs.key.mixed.Goals as goal

pub returns : goal.returns
unfolding mixed
returns c = c.folded.ensures
