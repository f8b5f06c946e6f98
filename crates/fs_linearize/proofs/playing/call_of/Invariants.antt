use Rattle.std.proofs.Common.{◌≡◌, drop}
use Rattle.fs_timeline.specs.Timeline.{call_of}
use Rattle.fs_linearize_histories.specs.Heard.{entries}
use Rattle.fs_linearize.proofs.playing.call_of.Given as goal

abbrev pub invariant-loop-entry : goal.invariant-loop-entry
invariant-loop-entry l = call_of l.number (entries (drop l.entry-index l.history)) ≡ call_of l.number (entries l.history)
