use Rattle.std.proofs.Common.{◌≡◌, drop}
use Rattle.fs_calls.specs.Tree.{names_in}
use Rattle.fs_calls.specs.Sights.{has_any}
use Rattle.fs_linearize_flat.proofs.seeing.has_any.Given as goal

abbrev pub invariant-loop-cell : goal.invariant-loop-cell
invariant-loop-cell l = has_any (names_in (drop l.cell-index l.cells) l.dir) ≡ has_any (names_in l.cells l.dir)
