use Rattle.fs_laws.proofs.helping.WhoStandsBelow.{settles}
use Rattle.fs_laws.proofs.laws.placed_settle.Goals as goal

pub returns : goal.returns
returns c = settles
