use Rattle.std.proofs.Common.{◌≡◌, drop}
use Rattle.fs_names.specs.Keys.{key_cmp}
use Rattle.fs_names.proofs.order.compare_keys.Given as goal

-- what is left of both keys stands as they do
abbrev pub invariant-loop-i : goal.invariant-loop-i
invariant-loop-i l = key_cmp (drop l.i l.key) (drop l.i l.other) ≡ key_cmp l.key l.other
