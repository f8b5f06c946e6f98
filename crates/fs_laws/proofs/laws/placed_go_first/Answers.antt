use Rattle.fs_laws.proofs.helping.WhoStandsBelow.{no_walking_below}
use Rattle.fs_laws.proofs.laws.placed_go_first.Goals as goal

pub returns : goal.returns
returns c = no_walking_below
