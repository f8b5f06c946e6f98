use Rattle.fs_nodes_places.proofs.PickLemmas.{least_step}
use Rattle.fs_nodes_places.proofs.scan.least_in.Goals as goal

pub loop-i-preserved : goal.loop-i-preserved
loop-i-preserved c = least_step _ _ _ _ _ _ _ _ c.loop-i-test.true c.index-places-i.is c.name_in.ensures c.lesser_of-best.ensures c.loop-i.invariant
