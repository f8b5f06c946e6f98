use Rattle.std.proofs.Common.{ℕ, ◌≡◌, ◌+◌, ◌-◌, [], map, get_or, length}
use Rattle.fs_sched_seen.proofs.heard.reach_thread.Given as goal

abbrev pub invariant-lists : goal.invariant-lists
invariant-lists l = (other : ℕ) → get_or (map (λ calls. calls.items) l.begun.items) other [] ≡ get_or (map (λ calls. calls.items) l.fn.begun.items) other []

abbrev pub decreases-lists : goal.decreases-lists
decreases-lists l = (l.seat + 1) - length l.begun.items
