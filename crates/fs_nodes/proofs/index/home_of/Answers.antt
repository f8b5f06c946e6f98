use Rattle.std.proofs.Common.{refl}
use Rattle.fs_nodes.specs.code.Indexes.{home_of}
use Rattle.fs_nodes.proofs.index.home_of.Goals as goal

pub returns-clause-home : goal.returns-clause-home
unfolding home_of
returns-clause-home c = refl
