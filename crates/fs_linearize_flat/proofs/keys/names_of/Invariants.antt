use Rattle.std.proofs.Common.{◌≡◌, take}
use Rattle.fs_linearize_flat.proofs.keys.names_of.Given as goal

abbrev pub invariant-loop-i : goal.invariant-loop-i
invariant-loop-i l = l.names.items ≡ take l.i l.path
