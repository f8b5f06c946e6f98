use Rattle.std.proofs.Common.{◌≡◌, ◌+◌, [], map, drop}
use Rattle.fs_linearize_dialects.specs.Tables.{with_lines}
use Rattle.fs_linearize_dialects.proofs.reading.rows_behind.Given as goal

abbrev pub invariant-loop-at : goal.invariant-loop-at
invariant-loop-at l = with_lines (l.at + 2) l.dialect (map (λ w. w.now) (drop l.at l.lines)) ≡ with_lines 2 [] (map (λ w. w.now) l.lines)
