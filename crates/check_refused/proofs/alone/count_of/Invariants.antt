use Rattle.std.proofs.Common.{length}
use Rattle.check_refused.proofs.alone.count_of.Given as goal

abbrev pub decreases-loop-names : goal.decreases-loop-names
decreases-loop-names l = length l.names
