use Rattle.std.proofs.Common.{◌≡◌, drop}
use Rattle.fs_names.specs.Keys.{after_prefix}
use Rattle.fs_linearize_flat.proofs.keys.is_prefix.Given as goal

abbrev pub invariant-loop-i : goal.invariant-loop-i
invariant-loop-i l = after_prefix (drop l.i l.prefix) (drop l.i l.key) ≡ after_prefix l.prefix l.key
