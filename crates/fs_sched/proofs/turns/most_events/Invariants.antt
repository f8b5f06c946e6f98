use Rattle.std.proofs.Common.{◌≡◌, ◌<◌, ◌≤◌, map, take}
use Rattle.fs_sched.specs.Schedules.{most_events}
use Rattle.fs_sched.specs.declared.schedule.TheConstants.{DRAW_LIMIT}
use Rattle.fs_sched.proofs.turns.most_events.Given as goal

abbrev pub invariant-loop-calls : goal.invariant-loop-calls
invariant-loop-calls l = record {
  most : l.most ≡ most_events (map (λ v. v.items) (take l.calls-index l.lists));
  some : 0 < l.most;
  few : l.most ≤ DRAW_LIMIT;
}
