use Rattle.std.proofs.Common.{◌≡◌, ◌++◌, drop}
use Rattle.fs_linearize_dialects.specs.Dialects.{ours_for}
use Rattle.fs_linearize_dialects.proofs.widening.push_ours.Given as goal

abbrev pub invariant-loop-row : goal.invariant-loop-row
invariant-loop-row l = l.errors ++ ours_for (drop l.row-index l.rows) l.name l.theirs ≡ l.initial.errors ++ ours_for l.rows l.name l.theirs
