use Rattle.std.proofs.Common.{◌≡◌, ℕ, ◌+◌, ◌-◌, ◌<◌, ◌≤◌, Some, length}
use Rattle.fs_nodes.specs.declared.index.TheConstants.{WINDOW}
use Rattle.fs_nodes.specs.code.Indexes.{slot_at, home_of}
use Rattle.fs_nodes.proofs.index.reach_within.Given as goal

abbrev pub invariant-loop-reach : goal.invariant-loop-reach
invariant-loop-reach l = (l.reach ≤ l.most) × ((k n : ℕ) → l.home + l.reach ≤ k → k < l.home + l.most → (slot_at l.slots k).node ≡ Some n → home_of (length l.slots - WINDOW) (slot_at l.slots k).hash ≡ l.home → ⊥)

abbrev pub decreases-loop-reach : goal.decreases-loop-reach
decreases-loop-reach l = l.reach
