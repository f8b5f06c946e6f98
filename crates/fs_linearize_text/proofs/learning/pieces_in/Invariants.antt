use Rattle.std.proofs.Common.{◌≡◌, ◌-◌, ◌≤◌, length, drop, map}
use Rattle.fs_words.proofs.ReadLemmas.{words_in, with_front}
use Rattle.fs_linearize_text.specs.Many.{pieces_of, histories_by}
use Rattle.fs_linearize_text.specs.code.Learns.{of_piece}
use Rattle.fs_linearize_text.proofs.learning.pieces_in.Given as goal

abbrev pub invariant-pieces : goal.invariant-pieces
invariant-pieces l = record {
  within : l.at ≤ length l.lines;
  read : histories_by l.dialect 0 (pieces_of (words_in l.lines)) ≡ with_front (map of_piece l.pieces.items) (histories_by l.dialect l.at (pieces_of (words_in (drop l.at l.lines))));
}

abbrev pub decreases-pieces : goal.decreases-pieces
decreases-pieces l = length l.lines - l.at
