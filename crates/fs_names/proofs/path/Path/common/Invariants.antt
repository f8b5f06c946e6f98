use Rattle.std.proofs.Common.{◌≡◌, ◌≤◌, ◌+◌, ◌-◌, length, drop}
use Rattle.fs_names.specs.Keys.{common_len}
use Rattle.fs_names.proofs.path.Path.common.Given as goal

-- the names that are left agree in as many more places
abbrev pub invariant-loop-i : goal.invariant-loop-i
invariant-loop-i l = record {
  within : l.i ≤ length l.self;
  inside : l.i ≤ length l.other;
  rest : common_len (drop l.i l.self) (drop l.i l.other) + l.i ≡ common_len l.self l.other;
}

abbrev pub decreases-loop-i : goal.decreases-loop-i
decreases-loop-i l = length l.self - l.i
