use Rattle.std.proofs.Common.{◌≡◌, ◌++◌, drop}
use Rattle.fs_trace_replay.specs.Commits.{calls_on}
use Rattle.fs_trace_replay.proofs.turns.calls_on.Given as goal

abbrev pub invariant-loop-entry : goal.invariant-loop-entry
invariant-loop-entry l = l.calls.items ++ calls_on l.seat (drop l.entry-index l.entries) ≡ calls_on l.seat l.entries
