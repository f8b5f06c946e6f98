use Rattle.std.proofs.Common.{◌≡◌, drop}
use Rattle.fs_sched_find.specs.Lives.{nth_from}
use Rattle.fs_sched_find.proofs.having.nth_of.Given as goal

abbrev pub invariant-loop-at : goal.invariant-loop-at
invariant-loop-at l = nth_from 0 l.seat l.place l.seats ≡ nth_from l.at l.seat l.left (drop l.at l.seats)
