use Rattle.std.proofs.Common.{◌-◌}
use Rattle.fs_linearize.proofs.PlaceLemmas.{Narrows}
use Rattle.fs_linearize.proofs.first_return.first_place.Given as goal

abbrev pub invariant-loop-middle : goal.invariant-loop-middle
invariant-loop-middle g l = Narrows l.start l.history l.low l.high

abbrev pub decreases-loop-middle : goal.decreases-loop-middle
decreases-loop-middle g l = l.high - l.low
