use Rattle.std.proofs.Common.{refl}
use Rattle.fs_nodes_places.specs.code.Keys.{folded}
use Rattle.fs_nodes_places.proofs.key.folded.Goals as goal

pub returns : goal.returns
unfolding folded
returns c = refl
