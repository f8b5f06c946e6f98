use Rattle.std.proofs.Common.{◌≡◌}
use Rattle.crossbeam_queue.specs.Passes.{view, IsPassOf}
use Rattle.fs_share_pool.specs.Dones.{HasDone, ok_count}
use Rattle.fs_share_pool.proofs.worker.work_on.Given as goal

abbrev pub invariant-loop : goal.invariant-loop
invariant-loop g l = IsPassOf l.queue l.pass × HasDone (view l.pass) l.answers.items × (l.session.count ≡ ok_count l.answers.items)
