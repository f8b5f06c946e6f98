use Rattle.std.proofs.Common.{◌≡◌, ◌++◌, length}
use Rattle.fs_words.specs.Lines.{lines_of}
use Rattle.fs_words.proofs.ReadLemmas.{words_in}
use Rattle.fs_sched_outcomes.proofs.adding.lines_in.Given as goal

abbrev pub invariant-lines : goal.invariant-lines
invariant-lines l = words_in l.lines.items ++ lines_of l.left ≡ lines_of l.text

abbrev pub decreases-lines : goal.decreases-lines
decreases-lines l = length l.left
