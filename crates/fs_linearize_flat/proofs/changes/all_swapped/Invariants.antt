use Rattle.std.proofs.Common.{◌≡◌, ◌++◌, map, drop}
use Rattle.fs_linearize_flat.specs.code.Cells.{swapped_cell}
use Rattle.fs_linearize_flat.proofs.changes.all_swapped.Given as goal

abbrev pub invariant-loop-cell : goal.invariant-loop-cell
invariant-loop-cell l = l.new.items ++ map (swapped_cell l.one l.other) (drop l.cell-index l.cells) ≡ map (swapped_cell l.one l.other) l.cells
