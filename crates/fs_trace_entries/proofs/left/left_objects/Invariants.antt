use Rattle.std.proofs.Common.{◌≡◌, []}
use Rattle.fs_trace_entries.specs.code.Mades.{AddsSome}
use Rattle.fs_trace_entries.proofs.left.left_objects.Given as goal

abbrev pub invariant-loop-entry : goal.invariant-loop-entry
invariant-loop-entry l = record {
  before : l.text.before ≡ [];
  some : AddsSome [] l.text.added;
}
