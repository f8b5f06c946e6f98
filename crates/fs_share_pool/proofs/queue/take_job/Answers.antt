use Rattle.fs_share_pool.proofs.Keeps.{pops}
use Rattle.fs_share_pool.proofs.queue.take_job.Goals as goal

pub pop_as-requires-clause-rule : goal.pop_as-requires-clause-rule
pop_as-requires-clause-rule g c = (pops _ _ c.requires.part, λ items views h at. tt)
