use Rattle.std.proofs.Common.{◌-◌, ◌≤◌, length, drop}
use Rattle.fs_words.proofs.ReadLemmas.{words_in}
use Rattle.fs_linearize_text.specs.Many.{pieces_of, histories_by}
use Rattle.fs_linearize_text.proofs.ManyLemmas.{AreToldFrom}
use Rattle.fs_linearize_text.proofs.many.find_each.Given as goal

abbrev pub invariant-pieces : goal.invariant-pieces
invariant-pieces g l = record {
  within : l.at ≤ length l.lines;
  told : AreToldFrom (histories_by l.dialect 0 (pieces_of (words_in l.lines))) (histories_by l.dialect l.at (pieces_of (words_in (drop l.at l.lines)))) l.limit l.told.outcomes.items l.told.text.items;
}

abbrev pub decreases-pieces : goal.decreases-pieces
decreases-pieces g l = length l.lines - l.at
