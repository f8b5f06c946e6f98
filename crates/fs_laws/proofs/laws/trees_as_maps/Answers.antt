use Rattle.fs_laws.proofs.trees.TreesAsMaps.{trees_as_maps}
use Rattle.fs_laws.proofs.laws.trees_as_maps.Goals as goal

pub returns : goal.returns
returns c = trees_as_maps
