use Rattle.std.proofs.Common.{◌≡◌, ◌++◌, drop}
use Rattle.fs_words.proofs.ReadLemmas.{words_in}
use Rattle.fs_linearize_text.specs.Texts.{marks_in}
use Rattle.fs_linearize_text.proofs.marks.marks_in.Given as goal

abbrev pub invariant-loop-line : goal.invariant-loop-line
invariant-loop-line l = l.marks.items ++ marks_in (words_in (drop l.line-index l.lines)) ≡ marks_in (words_in l.lines)
