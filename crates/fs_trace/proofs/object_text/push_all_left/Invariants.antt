use Rattle.std.proofs.Common.{◌≡◌}
use Rattle.fs_trace.specs.code.ObjectTexts.{AddsSome}
use Rattle.fs_trace.proofs.object_text.push_all_left.Given as goal

abbrev pub invariant-loop-left : goal.invariant-loop-left
invariant-loop-left l = record {
  before : l.text.before ≡ l.fn.text.before;
  some : AddsSome l.fn.text.added l.text.added;
}
