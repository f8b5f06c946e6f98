use Rattle.std.proofs.Common.{◌≡◌, map}
use Rattle.fs_seq.specs.Rows.{row_of}
use Rattle.fs_linearize_flat.proofs.flat_tree.cells_of.Given as goal

abbrev pub invariant-loop-row : goal.invariant-loop-row
invariant-loop-row l = l.cells.items ≡ map row_of l.yielded
