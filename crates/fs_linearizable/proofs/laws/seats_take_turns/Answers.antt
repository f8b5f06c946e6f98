use Rattle.fs_linearizable.proofs.SeatLemmas.{seats_take_turns}
use Rattle.fs_linearizable.proofs.laws.seats_take_turns.Goals as goal

pub returns : goal.returns
returns c = seats_take_turns
