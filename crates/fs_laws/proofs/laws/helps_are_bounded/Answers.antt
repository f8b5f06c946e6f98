use Rattle.fs_laws.proofs.helping.HelpedLeave.{helps_are_few}
use Rattle.fs_laws.proofs.laws.helps_are_bounded.Goals as goal

pub returns : goal.returns
returns c = helps_are_few
