use Rattle.std.proofs.Common.{◌≡◌, ◌≤◌, ◌-◌, ℕ, List, take, Some}
use Rattle.fs_calls.specs.Tree.{File, look}
use Rattle.fs_trace_replay.proofs.changes.bytes_at.Given as goal

-- the first bytes were read
abbrev pub invariant-loop-off : goal.invariant-loop-off
invariant-loop-off l = record {
  within : l.off ≤ l.size;
  read : (bytes : List ℕ) → look l.tree.tree l.path ≡ Some (File bytes) → l.bytes.items ≡ take l.off bytes;
}

-- what is left
abbrev pub decreases-loop-off : goal.decreases-loop-off
decreases-loop-off l = l.size - l.off
