use Rattle.fs_calls.proofs.TreeLaws.{renames_move}
use Rattle.fs_calls.proofs.laws.renames_move.Goals as goal

pub returns : goal.returns
returns c = renames_move
