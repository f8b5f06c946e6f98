use Rattle.std.proofs.Common.{length}
use Rattle.fs_sched_start.proofs.NodeLines.{HasPassed}
use Rattle.fs_sched_start.proofs.given.line_behind.Given as goal

abbrev pub invariant-lines : goal.invariant-lines
invariant-lines l = HasPassed l.text l.left l.number l.told l.lines

abbrev pub decreases-lines : goal.decreases-lines
decreases-lines l = length l.left
