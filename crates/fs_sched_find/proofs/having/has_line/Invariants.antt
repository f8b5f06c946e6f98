use Rattle.std.proofs.Common.{◌≡◌, length}
use Rattle.std.specs.List.{list_any}
use Rattle.std.specs.Str.{bytes_eq}
use Rattle.fs_words.specs.Lines.{lines_of}
use Rattle.fs_sched_find.proofs.having.has_line.Given as goal

abbrev pub invariant-lines : goal.invariant-lines
invariant-lines l = list_any (bytes_eq l.line) (lines_of l.text) ≡ list_any (bytes_eq l.line) (lines_of l.left)

abbrev pub decreases-lines : goal.decreases-lines
decreases-lines l = length l.left
