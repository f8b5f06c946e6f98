use Rattle.std.proofs.Common.{refl}
use Rattle.fs_linearize_histories.proofs.examples.faults.Goals as goal

pub returns : goal.returns
returns c = record { empty = refl; overlapping = refl; begin_twice = refl; seat_busy = refl; return_unbegun = refl; return_twice = refl }
