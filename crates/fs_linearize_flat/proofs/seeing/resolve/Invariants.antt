use Rattle.fs_linearize_flat.specs.code.Cells.{IsReached}
use Rattle.fs_linearize_flat.proofs.seeing.resolve.Given as goal

abbrev pub invariant-loop-count : goal.invariant-loop-count
invariant-loop-count l = IsReached l.cells l.key l.count
