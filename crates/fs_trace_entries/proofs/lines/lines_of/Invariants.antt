use Rattle.std.proofs.Common.{◌≡◌, [], take}
use Rattle.fs_trace_entries.specs.Entries.{AreLines}
use Rattle.fs_trace_entries.proofs.lines.lines_of.Given as goal

abbrev pub invariant-loop-at : goal.invariant-loop-at
invariant-loop-at l = record {
  before : l.text.before ≡ [];
  lines : AreLines 1 (take l.at l.entries) l.text.added;
}
