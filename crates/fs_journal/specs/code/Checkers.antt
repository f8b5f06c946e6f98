-- What a checker knows: its maps as what is known of the entries so far.
use Rattle.std.specs.Ordering.{nat_cmp}
use Rattle.std.specs.BTreeMap.{get}
use Rattle.fs_timeline.specs.JournalStates.{JournalState}
use Rattle.fs_journal.specs.code.Calls.{begun_at, call_in, due_in, is_back}
use Rattle.fs_journal.specs.declared.checker.Checker.{Checker}

-- what a checker's maps say
abbrev pub known : Checker → JournalState
known k = record {
  calls = λ c. call_in (begun_at k.calls c);
  replies = λ c. due_in (begun_at k.calls c);
  returned = λ c. is_back (begun_at k.calls c);
  last = λ s. get nat_cmp k.last s;
  now = k.tree;
}
