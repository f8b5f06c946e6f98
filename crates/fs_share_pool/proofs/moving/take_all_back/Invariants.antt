use Rattle.std.proofs.Common.{◌≡◌, ℕ, ◌+◌, ◌≤◌, vec_capacity}
use Rattle.crossbeam_queue.specs.Passes.{view, IsPassOf, IsSamePass}
use Rattle.fs_share_pool.specs.declared.job.Job.{Job}
use Rattle.fs_share_pool.specs.Jobs.{each, total}
use Rattle.fs_share_pool.proofs.moving.take_all_back.Given as goal

abbrev pub invariant-loop : goal.invariant-loop
invariant-loop g l =
    IsPassOf l.queue l.pass
    × IsSamePass l.initial.pass l.pass
    × ((view l.pass).parts ≡ (view l.initial.pass).parts)
    × ((view l.pass).put ≡ (view l.initial.pass).put)
    × (total each l.waiting.items + total each (view l.pass).put ≤ vec_capacity l.waiting + total each (view l.pass).popped)
    × ((h : Job → ℕ) → total h l.waiting.items + total h (view l.initial.pass).popped ≡ total h l.initial.waiting.items + total h (view l.pass).popped)
    × (vec_capacity l.waiting ≡ vec_capacity l.initial.waiting)
