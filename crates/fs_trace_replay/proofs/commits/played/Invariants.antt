use Rattle.std.proofs.Common.{◌≡◌, take}
use Rattle.fs_calls.specs.Outcomes.{next_start}
use Rattle.fs_trace_replay.specs.code.Seen.{calls_in}
use Rattle.fs_trace_replay.proofs.commits.played.Given as goal

abbrev pub invariant-loop-call : goal.invariant-loop-call
invariant-loop-call l = l.tree ≡ next_start l.fn.start (calls_in (take l.call-index l.calls))
