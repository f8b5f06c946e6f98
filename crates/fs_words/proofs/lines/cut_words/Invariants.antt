use Rattle.std.proofs.Common.{◌≡◌, ◌≤◌, ◌-◌, length, drop}
use Rattle.fs_words.specs.Reading.{words_of}
use Rattle.fs_words.proofs.ReadLemmas.{with_front, words_in}
use Rattle.fs_words.proofs.lines.cut_words.Given as goal

abbrev pub invariant-words : goal.invariant-words
invariant-words l = record {
  within : l.start ≤ length l.line;
  so_far : words_of l.line ≡ with_front (words_in l.words.items) (words_of (drop l.start l.line));
}

abbrev pub decreases-words : goal.decreases-words
decreases-words l = length l.line - l.start
