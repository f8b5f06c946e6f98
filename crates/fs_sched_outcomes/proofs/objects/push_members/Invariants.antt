use Rattle.std.proofs.Common.{◌≡◌, ◌++◌, true, drop}
use Rattle.fs_sched_outcomes.specs.Lines.{members_from}
use Rattle.fs_sched_outcomes.proofs.objects.push_members.Given as goal

abbrev pub invariant-loop-column : goal.invariant-loop-column
invariant-loop-column l = record {
  before : l.text.before ≡ l.fn.text.before;
  members : l.text.added ++ members_from l.first l.row (drop l.column-index l.columns) ≡ l.fn.text.added ++ members_from true l.row l.columns;
}
