use Rattle.std.proofs.Common.{◌≡◌, take, false}
use Rattle.fs_timeline.specs.Timeline.{has_begun}
use Rattle.fs_trace_replay.proofs.turns.turn_of.Given as goal

abbrev pub invariant-loop-index : goal.invariant-loop-index
invariant-loop-index l = has_begun l.number (take l.index l.entries) ≡ false
