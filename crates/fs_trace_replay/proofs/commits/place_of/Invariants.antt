use Rattle.fs_trace_replay.specs.code.Seen.{IsNotAmong}
use Rattle.fs_trace_replay.proofs.commits.place_of.Given as goal

abbrev pub invariant-loop-index : goal.invariant-loop-index
invariant-loop-index l = IsNotAmong l.numbers l.number l.index
