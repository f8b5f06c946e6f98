use Rattle.std.proofs.Common.{◌≡◌, ◌<◌, ◌+◌, ◌^◌, length}
use Rattle.fs_words.specs.Lines.{lines_of}
use Rattle.fs_script.specs.Journals.{entries_line}
use Rattle.fs_script.proofs.tree_text.entries_line.Given as goal

-- the lines so far are others
abbrev pub invariant-lines : goal.invariant-lines
invariant-lines l = record {
  others : entries_line 2 (lines_of l.fn.nodes) ≡ entries_line l.number (lines_of l.rest);
  room : l.number + length l.rest < 2 ^ 64;
}

abbrev pub decreases-lines : goal.decreases-lines
decreases-lines l = length l.rest
