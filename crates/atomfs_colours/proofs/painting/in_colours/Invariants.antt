use Rattle.std.proofs.Common.{length}
use Rattle.atomfs_colours.specs.code.Shows.{IsPaintedUpTo}
use Rattle.atomfs_colours.proofs.painting.in_colours.Given as goal

abbrev pub invariant-pieces : goal.invariant-pieces
invariant-pieces l = IsPaintedUpTo l.fn.text l.left l.painted.items

abbrev pub decreases-pieces : goal.decreases-pieces
decreases-pieces l = length l.left
