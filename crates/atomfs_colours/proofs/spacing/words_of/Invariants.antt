use Rattle.std.proofs.Common.{◌≡◌, ◌++◌, drop}
use Rattle.atomfs_colours.specs.Layouts.{words_of, words_on}
use Rattle.atomfs_colours.proofs.spacing.words_of.Given as goal

abbrev pub invariant-loop-byte : goal.invariant-loop-byte
invariant-loop-byte l = l.words.items ++ words_on l.shares l.place (drop l.byte-index l.text) ≡ words_of l.shares l.text
