use Rattle.fs_laws.proofs.helping.WhoStandsBelow.{nobody_between}
use Rattle.fs_laws.proofs.laws.heads_stand_clear.Goals as goal

pub returns : goal.returns
returns c = nobody_between
