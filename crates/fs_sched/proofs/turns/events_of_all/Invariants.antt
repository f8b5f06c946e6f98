use Rattle.std.proofs.Common.{◌≡◌, take}
use Rattle.fs_sched.specs.Schedules.{events_of_all}
use Rattle.fs_sched.proofs.turns.events_of_all.Given as goal

abbrev pub invariant-loop-call : goal.invariant-loop-call
invariant-loop-call l = l.events ≡ events_of_all (take l.call-index l.calls)
