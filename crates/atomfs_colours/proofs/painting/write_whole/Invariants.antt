use Rattle.std.proofs.Common.{◌≡◌, ◌≤◌, ◌-◌, length}
use Rattle.atomfs_colours.proofs.painting.write_whole.Given as goal

abbrev pub invariant-texts : goal.invariant-texts
invariant-texts g l = record {
  within : l.at ≤ length l.text;
  quiet : g.W.Sink.failures l.writer ≡ g.W.Sink.failures l.initial.writer;
}

abbrev pub decreases-texts : goal.decreases-texts
decreases-texts g l = length l.text - l.at
