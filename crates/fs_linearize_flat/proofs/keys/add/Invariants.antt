use Rattle.std.proofs.Common.{◌≡◌, ◌++◌, drop}
use Rattle.fs_linearize_flat.proofs.keys.add.Given as goal

abbrev pub invariant-loop-name : goal.invariant-loop-name
invariant-loop-name l = l.names.items ++ drop l.name-index l.others ≡ l.fn.names.items ++ l.others
