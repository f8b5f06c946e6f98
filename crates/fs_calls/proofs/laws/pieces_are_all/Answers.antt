use Rattle.fs_calls.proofs.ListPieces.{pieces_are_all}
use Rattle.fs_calls.proofs.laws.pieces_are_all.Goals as goal

pub returns : goal.returns
returns c = pieces_are_all
