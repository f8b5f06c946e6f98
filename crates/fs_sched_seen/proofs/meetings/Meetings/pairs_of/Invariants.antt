use Rattle.std.proofs.Common.{◌≡◌, ◌≤◌, true, take}
use Rattle.std.specs.List.{count_by}
use Rattle.fs_sched_seen.specs.Meetings.{is_pair}
use Rattle.fs_sched_seen.specs.code.Meetings.{has_met}
use Rattle.fs_sched_seen.proofs.meetings.Meetings.pairs_of.Given as goal

abbrev pub invariant-loop-second : goal.invariant-loop-second
invariant-loop-second l = record {
  few_met : l.pairs.met ≤ l.second-index;
  few : l.pairs.all ≤ l.second-index;
  met : l.pairs.met ≡ count_by (is_pair (has_met l.self) l.first) (take l.second-index l.places);
  all : l.pairs.all ≡ count_by (is_pair (λ p q. true) l.first) (take l.second-index l.places);
}
