use Rattle.fs_laws.proofs.Holdings.{four_held}
use Rattle.fs_laws.proofs.numbers.four_are_held.Goals as goal

pub returns : goal.returns
returns c = four_held
