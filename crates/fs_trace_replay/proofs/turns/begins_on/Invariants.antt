use Rattle.std.proofs.Common.{◌≡◌, ◌+◌, ◌≤◌, drop, length}
use Rattle.fs_trace_replay.specs.Commits.{calls_on}
use Rattle.fs_trace_replay.proofs.turns.begins_on.Given as goal

abbrev pub invariant-loop-entry : goal.invariant-loop-entry
invariant-loop-entry l = record { all : l.count + length (calls_on l.seat (drop l.entry-index l.entries)) ≡ length (calls_on l.seat l.entries); few : l.count ≤ l.entry-index }
