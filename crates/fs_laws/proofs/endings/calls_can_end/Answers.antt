use Rattle.fs_laws.proofs.Ending.{can_end}
use Rattle.fs_laws.proofs.endings.calls_can_end.Goals as goal

pub returns : goal.returns
returns c = can_end
