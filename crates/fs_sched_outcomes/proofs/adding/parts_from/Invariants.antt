use Rattle.std.proofs.Common.{◌-◌, length}
use Rattle.fs_sched_outcomes.proofs.adding.parts_from.Given as goal

abbrev pub decreases-parts : goal.decreases-parts
decreases-parts l = length l.text - l.at
