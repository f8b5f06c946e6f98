use Rattle.fs_share_pool.proofs.Keeps.{pops_of_all, learns}
use Rattle.fs_share_pool.proofs.queue.take_back.Goals as goal

pub pop_as-requires-clause-rule : goal.pop_as-requires-clause-rule
pop_as-requires-clause-rule g c = (pops_of_all _ _ c.requires.all, learns _ _ c.requires.all)
