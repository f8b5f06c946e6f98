use Rattle.std.proofs.Common.{◌≡◌, drop}
use Rattle.fs_timeline.specs.Timeline.{call_of}
use Rattle.fs_linearize.proofs.telling.call_of.Given as goal

abbrev pub invariant-loop-entry : goal.invariant-loop-entry
invariant-loop-entry l = call_of l.number (drop l.entry-index l.journal) ≡ call_of l.number l.journal
