use Rattle.fs_laws.proofs.Twins.{twins_are_one}
use Rattle.fs_laws.proofs.numbers.twins_are_one.Goals as goal

pub returns : goal.returns
returns c = twins_are_one
