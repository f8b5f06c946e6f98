use Rattle.std.proofs.Common.{◌≡◌, ℕ, ◌<◌, ◌≤◌, Some}
use Rattle.fs_nodes.specs.code.Indexes.{slot_at, key_in}
use Rattle.fs_nodes.proofs.index.seek.Given as goal

abbrev pub invariant-loop-at : goal.invariant-loop-at
invariant-loop-at l = (k n : ℕ) → l.home ≤ k → k < l.at → (slot_at l.slots k).node ≡ Some n → key_in (slot_at l.slots k) ≡ l.key → ⊥
