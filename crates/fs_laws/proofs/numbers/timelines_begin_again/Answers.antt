use Rattle.fs_laws.proofs.Again.{timelines_begin_again}
use Rattle.fs_laws.proofs.numbers.timelines_begin_again.Goals as goal

pub returns : goal.returns
returns c = timelines_begin_again
