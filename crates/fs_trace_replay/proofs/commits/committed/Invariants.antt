use Rattle.std.proofs.Common.{◌≡◌, ◌++◌, drop}
use Rattle.std.specs.List.{flat_map}
use Rattle.fs_trace_replay.specs.Commits.{committed, committed_by}
use Rattle.fs_trace_replay.proofs.commits.committed.Given as goal

abbrev pub invariant-loop-entry : goal.invariant-loop-entry
invariant-loop-entry l = l.numbers.items ++ flat_map (committed_by l.entries) (drop l.entry-index l.entries) ≡ committed l.entries
