use Rattle.std.proofs.Common.{◌≡◌, ◌<◌, ◌||◌, take}
use Rattle.fs_sched_seen.specs.Meetings.{meet}
use Rattle.fs_sched_seen.specs.code.Heards.{IsHeard}
use Rattle.fs_sched_seen.specs.code.Meetings.{has_met}
use Rattle.fs_sched_seen.specs.declared.places.Place.{Place}
use Rattle.fs_sched_seen.proofs.replies.heard_of.Given as goal

abbrev pub invariant-loop-at : goal.invariant-loop-at
invariant-loop-at l = record {
  heard : IsHeard l.heard (take l.at l.entries);
  met : (p q : Place) → p.seat < q.seat → q.seat < l.fn.meetings.threads → has_met l.meetings p q ≡ (has_met l.fn.meetings p q || meet (take l.at l.entries) p q);
  threads : l.meetings.threads ≡ l.fn.meetings.threads;
}
