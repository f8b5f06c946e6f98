use Rattle.std.proofs.Common.{◌≡◌, ◌++◌, drop}
use Rattle.fs_linearize_flat.proofs.changes.push_copies.Given as goal

abbrev pub invariant-loop-cell : goal.invariant-loop-cell
invariant-loop-cell l = l.new.items ++ drop l.cell-index l.cells ≡ l.fn.new.items ++ l.cells
