use Rattle.std.proofs.Common.{◌≡◌, ℕ, ◌+◌, vec_capacity, vec_len}
use Rattle.crossbeam_queue.specs.Passes.{view, IsPassOf, IsSamePass}
use Rattle.fs_share_pool.specs.declared.job.Job.{Job}
use Rattle.fs_share_pool.specs.Jobs.{total}
use Rattle.fs_share_pool.proofs.moving.put_all.Given as goal

abbrev pub invariant-loop : goal.invariant-loop
invariant-loop g l =
    IsPassOf l.queue l.pass
    × IsSamePass l.initial.pass l.pass
    × ((view l.pass).parts ≡ (view l.initial.pass).parts)
    × ((view l.pass).popped ≡ (view l.initial.pass).popped)
    × ((h : Job → ℕ) → total h l.waiting.items + total h (view l.pass).put ≡ total h l.initial.waiting.items + total h (view l.initial.pass).put)
    × (vec_capacity l.waiting ≡ vec_capacity l.initial.waiting)

abbrev pub decreases-loop : goal.decreases-loop
decreases-loop g l = vec_len l.waiting
