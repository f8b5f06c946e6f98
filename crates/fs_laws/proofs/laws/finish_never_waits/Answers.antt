use Rattle.fs_laws.proofs.helping.WhoStandsBelow.{never_waits_to_finish}
use Rattle.fs_laws.proofs.laws.finish_never_waits.Goals as goal

pub returns : goal.returns
returns c = never_waits_to_finish
