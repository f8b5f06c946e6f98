use Rattle.std.proofs.Common.{◌≡◌, ◌++◌, drop}
use Rattle.std.specs.List.{flat_map}
use Rattle.fs_words.proofs.ReadLemmas.{words_in}
use Rattle.fs_linearize_text.specs.Texts.{plain_line}
use Rattle.fs_linearize_text.proofs.plain.plain_text.Given as goal

abbrev pub invariant-loop-line : goal.invariant-loop-line
invariant-loop-line l = l.plain.items ++ flat_map plain_line (words_in (drop l.line-index l.lines)) ≡ flat_map plain_line (words_in l.lines)
