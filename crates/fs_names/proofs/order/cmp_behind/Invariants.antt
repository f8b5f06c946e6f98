use Rattle.std.proofs.Common.{◌≡◌, ◌≤◌, ◌-◌, take}
use Rattle.fs_names.proofs.order.cmp_behind.Given as goal

-- so many bytes at the front are the same
abbrev pub invariant-loop-same : goal.invariant-loop-same
invariant-loop-same l = record {
  same : take l.same l.name ≡ take l.same l.other;
  least : 8 ≤ l.same;
}

abbrev pub decreases-loop-same : goal.decreases-loop-same
decreases-loop-same l = l.len - l.same
