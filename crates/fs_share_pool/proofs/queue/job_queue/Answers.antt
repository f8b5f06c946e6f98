use Rattle.fs_share_pool.proofs.Keeps.{begins}
use Rattle.fs_share_pool.proofs.queue.job_queue.Goals as goal

pub ruled-requires-clause-rule : goal.ruled-requires-clause-rule
ruled-requires-clause-rule c = begins
