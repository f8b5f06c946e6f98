use Rattle.fs_machine.proofs.LowestIsHelped.{helps_lowest}
use Rattle.fs_machine.proofs.laws.the_lowest_is_helped.Goals as goal

pub returns : goal.returns
returns c = helps_lowest
