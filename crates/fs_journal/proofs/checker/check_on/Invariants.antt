use Rattle.std.proofs.Common.{◌≡◌, ◌+◌, take, drop}
use Rattle.fs_timeline.specs.Verdicts.{verdict, verdict_from}
use Rattle.fs_timeline.specs.JournalStates.{IsTrueOf}
use Rattle.fs_journal.specs.code.Checkers.{known}
use Rattle.fs_journal.proofs.checker.check_on.Given as goal

abbrev pub invariant-loop-index : goal.invariant-loop-index
invariant-loop-index l = record {
  so_far : IsTrueOf l.fn.start (known l.checker) (take l.index l.entries);
  the_rest : verdict l.fn.start l.entries ≡ verdict_from l.fn.start (take l.index l.entries) (l.index + 1) (drop l.index l.entries);
}
