use Rattle.std.proofs.Common.{length}
use Rattle.atomfs_answers.proofs.seen.Seen.line.Given as goal

abbrev pub decreases-lines : goal.decreases-lines
decreases-lines l = length l.left
