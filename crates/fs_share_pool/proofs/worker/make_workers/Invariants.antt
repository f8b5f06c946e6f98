use Rattle.std.proofs.Common.{◌≡◌, ◌+◌, All, vec_len, vec_capacity}
use Rattle.crossbeam_queue.specs.Passes.{view, IsPassOf, IsSamePass}
use Rattle.fs_share_pool.proofs.worker.make_workers.Given as goal

abbrev pub invariant-loop : goal.invariant-loop
invariant-loop g l =
    IsPassOf l.queue l.pass
    × IsSamePass l.initial.pass l.pass
    × All (λ worker. IsPassOf l.queue worker.pass) l.workers.items
    × ((view l.pass).parts + vec_len l.workers ≡ (view l.initial.pass).parts)
    × ((view l.pass).put ≡ (view l.initial.pass).put)
    × ((view l.pass).popped ≡ (view l.initial.pass).popped)
    × (vec_len l.workers ≡ l.counter)
    × (vec_capacity l.workers ≡ l.count)
