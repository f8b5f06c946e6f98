use Rattle.std.proofs.Common.{◌≡◌, ◌+◌, ◌≤◌, length, drop}
use Rattle.fs_calls.specs.Tree.{names_in}
use Rattle.fs_linearize_flat.proofs.seeing.count_in.Given as goal

abbrev pub invariant-loop-cell : goal.invariant-loop-cell
invariant-loop-cell l = record { most : l.count ≤ l.cell-index; sum : l.count + length (names_in (drop l.cell-index l.cells) l.dir) ≡ length (names_in l.cells l.dir) }
