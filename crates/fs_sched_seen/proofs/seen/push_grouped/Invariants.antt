use Rattle.std.proofs.Common.{◌≡◌, ◌++◌, drop}
use Rattle.fs_sched_seen.specs.Seen.{with_commas}
use Rattle.fs_sched_seen.proofs.seen.push_grouped.Given as goal

abbrev pub invariant-loop-at : goal.invariant-loop-at
invariant-loop-at l = record {
  ok : l.text.added ++ with_commas (drop l.at l.digits) ≡ l.fn.text.added ++ with_commas l.digits;
  before : l.text.before ≡ l.fn.text.before;
}
