use Rattle.std.proofs.Common.{◌≡◌, ◌++◌, drop}
use Rattle.fs_timeline.specs.Timeline.{commits, commits_of}
use Rattle.fs_trace_replay.specs.code.Seen.{calls_in}
use Rattle.fs_trace_replay.proofs.commits.commits.Given as goal

abbrev pub invariant-loop-entry : goal.invariant-loop-entry
invariant-loop-entry l = calls_in l.calls.items ++ commits_of l.entries (drop l.entry-index l.entries) ≡ commits l.entries
