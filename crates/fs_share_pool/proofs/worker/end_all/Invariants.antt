use Rattle.std.proofs.Common.{◌≡◌, ℕ, ◌+◌, ◌≤◌, ◌<◌, All, sum_by, vec_len, vec_capacity}
use Rattle.crossbeam_queue.specs.Passes.{view, IsPassOf, IsSamePass}
use Rattle.fs_share_pool.specs.Dones.{number_total, ok_total}
use Rattle.fs_share_pool.specs.declared.job.Job.{Job}
use Rattle.fs_share_pool.specs.Jobs.{total, numbers as job_numbers}
use Rattle.fs_share_pool.proofs.worker.end_all.Given as goal

abbrev pub invariant-loop-worker : goal.invariant-loop-worker
invariant-loop-worker g l =
    IsPassOf l.queue l.pass
    × IsSamePass l.initial.pass l.pass
    × All (λ worker. IsPassOf l.queue worker.pass) l.workers.items
    × ((view l.pass).parts + vec_len l.workers ≡ (view l.initial.pass).parts + vec_len l.initial.workers)
    × (0 < (view l.pass).parts)
    × ((h : Job → ℕ) → total h (view l.pass).put ≡ total h (view l.initial.pass).put)
    × ((h : ℕ → ℕ) → total h (job_numbers (view l.pass).popped) + number_total h l.initial.lists.items ≡ total h (job_numbers (view l.initial.pass).popped) + number_total h l.lists.items)
    × (sum_by (λ tally. tally.count) l.tallies.items + ok_total l.initial.lists.items ≡ sum_by (λ tally. tally.count) l.initial.tallies.items + ok_total l.lists.items)
    × (vec_len l.tallies + vec_len l.workers ≤ vec_capacity l.tallies)
    × (vec_len l.lists + vec_len l.workers ≤ vec_capacity l.lists)
    × (vec_len l.tallies + vec_len l.workers ≡ vec_len l.initial.tallies + vec_len l.initial.workers)
    × ((h : Job → ℕ) → total h (view l.initial.pass).popped ≤ total h (view l.pass).popped)

abbrev pub decreases-loop-worker : goal.decreases-loop-worker
decreases-loop-worker g l = vec_len l.workers
