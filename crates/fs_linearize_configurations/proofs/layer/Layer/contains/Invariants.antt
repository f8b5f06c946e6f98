use Rattle.fs_linearize_configurations.proofs.LayerLemmas.{IsLeft, places_left}
use Rattle.fs_linearize_configurations.proofs.layer.Layer.contains.Given as goal

abbrev pub invariant-loop-next : goal.invariant-loop-next
invariant-loop-next l = IsLeft l.self-inside.reached.items l.x l.next

abbrev pub decreases-loop-next : goal.decreases-loop-next
decreases-loop-next l = places_left l.next
