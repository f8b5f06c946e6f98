use Rattle.std.proofs.Common.{◌≡◌, ◌≤◌, take}
use Rattle.std.specs.List.{count_by}
use Rattle.fs_sched_outcomes.specs.Outcomes.{is_new}
use Rattle.fs_sched_outcomes.proofs.running.new_in.Given as goal

abbrev pub invariant-loop-row : goal.invariant-loop-row
invariant-loop-row l = record {
  few : l.count ≤ l.row-index;
  new : l.count ≡ count_by (is_new l.from) (take l.row-index l.rows);
}
