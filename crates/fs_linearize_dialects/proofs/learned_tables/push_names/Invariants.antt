use Rattle.std.proofs.Common.{◌≡◌, ◌++◌, take}
use Rattle.std.specs.List.{flat_map}
use Rattle.fs_linearize_dialects.specs.LearnedTables.{lines_of}
use Rattle.fs_linearize_dialects.proofs.learned_tables.push_names.Given as goal

abbrev pub invariant-loop-name : goal.invariant-loop-name
invariant-loop-name l = l.text.items ≡ l.initial.text.items ++ flat_map (lines_of l.rows) (take l.name-index l.names)
