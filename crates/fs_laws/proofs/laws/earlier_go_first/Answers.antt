use Rattle.fs_laws.proofs.helping.WhoStandsBelow.{no_later_below}
use Rattle.fs_laws.proofs.laws.earlier_go_first.Goals as goal

pub returns : goal.returns
returns c = no_later_below
