use Rattle.std.proofs.Common.{◌≡◌, ◌+◌, ◌≤◌, drop}
use Rattle.fs_words.proofs.ReadLemmas.{words_in}
use Rattle.fs_linearize_text.specs.code.Each.{lines_before}
use Rattle.fs_linearize_text.proofs.many.lines_before.Given as goal

abbrev pub invariant-loop-line : goal.invariant-loop-line
invariant-loop-line l = record { all : l.count + lines_before (words_in (drop l.line-index l.lines)) ≡ lines_before (words_in l.lines); few : l.count ≤ l.line-index }
