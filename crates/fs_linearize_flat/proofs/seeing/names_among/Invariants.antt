use Rattle.std.proofs.Common.{◌≡◌, ◌++◌, drop}
use Rattle.fs_calls.specs.Tree.{names_in}
use Rattle.fs_linearize_flat.specs.code.Cells.{lent_names}
use Rattle.fs_linearize_flat.proofs.seeing.names_among.Given as goal

abbrev pub invariant-loop-cell : goal.invariant-loop-cell
invariant-loop-cell l = lent_names l.names.items ++ names_in (drop l.cell-index l.cells) l.dir ≡ names_in l.cells l.dir
