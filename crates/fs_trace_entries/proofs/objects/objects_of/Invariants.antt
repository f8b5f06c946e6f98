use Rattle.std.proofs.Common.{◌≡◌, [], take}
use Rattle.fs_trace_entries.specs.Objects.{AreObjects}
use Rattle.fs_trace_entries.proofs.objects.objects_of.Given as goal

abbrev pub invariant-loop-at : goal.invariant-loop-at
invariant-loop-at l = record {
  before : l.text.before ≡ [];
  lines : AreObjects 1 (take l.at l.entries) l.text.added;
}
