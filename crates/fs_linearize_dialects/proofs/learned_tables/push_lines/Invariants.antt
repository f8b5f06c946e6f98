use Rattle.std.proofs.Common.{◌≡◌, ◌++◌, take}
use Rattle.std.specs.List.{flat_map}
use Rattle.fs_linearize_dialects.specs.LearnedTables.{line_for}
use Rattle.fs_linearize_dialects.proofs.learned_tables.push_lines.Given as goal

abbrev pub invariant-loop-ours : goal.invariant-loop-ours
invariant-loop-ours l = l.text.items ≡ l.initial.text.items ++ flat_map (line_for l.rows l.name) (take l.ours-index l.errnos)
