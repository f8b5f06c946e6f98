use Rattle.std.proofs.Common.{refl}
use Rattle.fs_calls.specs.Tree.{look, inserted, removed, renamed, exchanged}
use Rattle.fs_calls.specs.Outcomes.{fault, reply, after}
use Rattle.fs_calls.proofs.examples.exchanges_in_sequence.Goals as goal

pub returns : goal.returns
unfolding look inserted removed renamed exchanged fault reply after
returns c = record { answers = refl; tree = refl }
