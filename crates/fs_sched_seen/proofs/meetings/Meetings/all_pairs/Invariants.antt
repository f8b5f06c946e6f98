use Rattle.std.proofs.Common.{◌≡◌, ◌≤◌, ◌*◌, true, take}
use Rattle.std.specs.List.{count_by, sum_by}
use Rattle.fs_sched_seen.specs.Meetings.{is_pair}
use Rattle.fs_sched_seen.specs.code.Meetings.{has_met}
use Rattle.fs_sched_seen.proofs.meetings.Meetings.all_pairs.Given as goal

abbrev pub invariant-loop-first : goal.invariant-loop-first
invariant-loop-first l = record {
  few_met : l.all.met ≤ 1000 * l.first-index;
  few : l.all.all ≤ 1000 * l.first-index;
  met : l.all.met ≡ sum_by (λ p. count_by (is_pair (has_met l.self) p) l.places) (take l.first-index l.places);
  all : l.all.all ≡ sum_by (λ p. count_by (is_pair (λ p q. true) p) l.places) (take l.first-index l.places);
}
