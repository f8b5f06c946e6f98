use Rattle.fs_laws.proofs.journal.ViewOfTimeline.{linearizes}
use Rattle.fs_laws.proofs.laws.linearization.Goals as goal

pub returns : goal.returns
returns c = linearizes
