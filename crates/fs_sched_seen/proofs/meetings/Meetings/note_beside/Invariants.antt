use Rattle.std.proofs.Common.{◌≡◌, ◌<◌, ◌&&◌, ◌||◌, List}
use Rattle.fs_timeline.specs.declared.entry.Entry.{Entry}
use Rattle.fs_sched_seen.specs.Meetings.{are_pending}
use Rattle.fs_sched_seen.specs.code.Heards.{IsHeard}
use Rattle.fs_sched_seen.specs.code.Meetings.{has_met, near}
use Rattle.fs_sched_seen.specs.declared.places.Place.{Place}
use Rattle.fs_sched_seen.proofs.meetings.Meetings.note_beside.Given as goal

abbrev pub invariant-loop-other : goal.invariant-loop-other
invariant-loop-other l = record {
  met : (es : List Entry) → IsHeard l.heard es → (p q : Place) → p.seat < q.seat → has_met l.self p q ≡ (has_met l.fn.self p q || (near l.seat l.other p q && are_pending es p q));
  threads : l.self.threads ≡ l.fn.self.threads;
}
