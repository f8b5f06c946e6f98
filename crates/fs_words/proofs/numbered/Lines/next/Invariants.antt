use Rattle.std.proofs.Common.{◌≡◌, ◌≤◌, ◌<◌, ◌+◌, ◌^◌, length}
use Rattle.fs_words.specs.Lines.{lines_of}
use Rattle.fs_words.specs.code.LinesLeft.{from_next}
use Rattle.fs_words.proofs.numbered.Lines.next.Given as goal

-- the lines so far were passed over
abbrev pub invariant-lines : goal.invariant-lines
invariant-lines l = record {
  passed : from_next l.fn.self.number l.fn.self.lines ≡ from_next l.self-inside.number (lines_of l.self-inside.rest.now);
  fewer : length (lines_of l.self-inside.rest.now) ≤ length l.fn.self.lines;
  room : l.self-inside.number + length l.self-inside.rest.now < 2 ^ 64;
}

abbrev pub decreases-lines : goal.decreases-lines
decreases-lines l = length (lines_of l.self-inside.rest.now)
