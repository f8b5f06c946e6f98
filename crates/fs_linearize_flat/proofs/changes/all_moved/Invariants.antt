use Rattle.std.proofs.Common.{◌≡◌, ◌++◌, map, drop}
use Rattle.fs_linearize_flat.specs.code.Cells.{moved_cell}
use Rattle.fs_linearize_flat.proofs.changes.all_moved.Given as goal

abbrev pub invariant-loop-cell : goal.invariant-loop-cell
invariant-loop-cell l = l.new.items ++ map (moved_cell l.from l.to) (drop l.cell-index l.cells) ≡ map (moved_cell l.from l.to) l.cells
