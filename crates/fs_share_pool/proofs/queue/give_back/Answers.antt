use Rattle.fs_share_pool.proofs.Keeps.{merges}
use Rattle.fs_share_pool.proofs.queue.give_back.Goals as goal

pub absorb-requires-clause-rule : goal.absorb-requires-clause-rule
absorb-requires-clause-rule c = merges _ _ _ _ c.requires.part
