use Rattle.std.proofs.Common.{◌≡◌, ℕ, ◌<◌, ◌≤◌, Some}
use Rattle.fs_nodes.specs.code.Indexes.{slot_at}
use Rattle.fs_nodes.proofs.index.slot_of.Given as goal

abbrev pub invariant-loop-at : goal.invariant-loop-at
invariant-loop-at l = (k : ℕ) → l.home ≤ k → k < l.at → (slot_at l.slots k).node ≡ Some l.node → ⊥
