use Rattle.fs_share_pool.proofs.Keeps.{puts}
use Rattle.fs_share_pool.proofs.queue.put_job.Goals as goal

pub push_as-requires-clause-rule : goal.push_as-requires-clause-rule
push_as-requires-clause-rule g c = (puts _ _ _ _ c.requires.part, λ items views h at. tt)
