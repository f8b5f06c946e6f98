use Rattle.std.proofs.Common.{length, ◌-◌, ◌≡◌, ◌≤◌, take}
use Rattle.std.specs.Io.KnownBytes.{Appends}
use Rattle.fs_verdict.proofs.sink.write_text.Given as goal

abbrev pub invariant-loop-at : goal.invariant-loop-at
invariant-loop-at g l = record {
  within : l.at ≤ length l.text;
  held : Appends (g.W.Sink.contents l.initial.writer) (g.W.Sink.contents l.writer) (take l.at l.text);
  quiet : g.W.Sink.failures l.writer ≡ g.W.Sink.failures l.initial.writer;
}

abbrev pub decreases-loop-at : goal.decreases-loop-at
decreases-loop-at g l = length l.text - l.at
