use Rattle.std.proofs.Common.{◌≡◌, ℕ, ◌+◌, ◌≤◌, vec_len, vec_capacity}
use Rattle.fs_share_pool.specs.Dones.{numbers, ok_count, number_total, ok_total}
use Rattle.fs_share_pool.specs.Jobs.{one, total}
use Rattle.fs_share_pool.proofs.done.add_all.Given as goal

abbrev pub invariant-loop-list : goal.invariant-loop-list
invariant-loop-list l =
    (total one (numbers l.done.items) + number_total one l.lists.items ≤ vec_capacity l.done)
    × ((h : ℕ → ℕ) → total h (numbers l.done.items) + number_total h l.lists.items ≡ total h (numbers l.initial.done.items) + number_total h l.initial.lists.items)
    × (ok_count l.done.items + ok_total l.lists.items ≡ ok_count l.initial.done.items + ok_total l.initial.lists.items)
    × (vec_capacity l.initial.done ≤ vec_capacity l.done)

abbrev pub decreases-loop-list : goal.decreases-loop-list
decreases-loop-list l = vec_len l.lists
