use Rattle.std.proofs.Common.{◌-◌, ◌<◌}
use Rattle.fs_sched_reach.proofs.counting.count_of.Given as goal

-- some event is tried
abbrev pub invariant-tries : goal.invariant-tries
invariant-tries l = 0 < l.times

abbrev pub decreases-tries : goal.decreases-tries
decreases-tries l = l.sought.room - l.times
