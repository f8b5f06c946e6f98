use Rattle.fs_share_pool.proofs.Keeps.{forks}
use Rattle.fs_share_pool.proofs.queue.worker_pass.Goals as goal

pub another-requires-clause-rule : goal.another-requires-clause-rule
another-requires-clause-rule c = forks _ _ c.requires.part
