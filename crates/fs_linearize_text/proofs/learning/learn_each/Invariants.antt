use Rattle.std.proofs.Common.{map}
use Rattle.fs_linearize_text.specs.code.Learns.{of_piece, AreLearned}
use Rattle.fs_linearize_text.proofs.learning.learn_each.Given as goal

abbrev pub invariant-loop-piece : goal.invariant-loop-piece
invariant-loop-piece l = AreLearned (map of_piece l.yielded) l.lessons
