use Rattle.std.proofs.Common.{length}
use Rattle.workloads.proofs.digest.Digest.add_names.Given as goal

abbrev pub decreases-names : goal.decreases-names
decreases-names l = length l.left
