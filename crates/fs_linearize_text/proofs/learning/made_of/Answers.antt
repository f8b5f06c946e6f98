use Rattle.std.proofs.Common.{map}
use Rattle.fs_linearize_text.specs.code.Learns.{of_piece}
use Rattle.fs_linearize_text.proofs.LearningLemmas.{learning_made}
use Rattle.fs_linearize_text.proofs.learning.made_of.Goals as goal

pub returns : goal.returns
returns c = learning_made (map of_piece c.args.pieces.items) c.in_ok-lessons.lessons _ c.in_ok-text.text.items c.in_ok-lessons.ensures c.learning_by-outcome.ensures c.in_ok-text.ensures
