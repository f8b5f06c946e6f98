use Rattle.std.proofs.Common.{◌≡◌, ◌++◌, take}
use Rattle.std.specs.List.{flat_map}
use Rattle.fs_linearize_dialects.specs.LearnedTables.{times_words}
use Rattle.fs_linearize_dialects.proofs.learned_tables.push_times.Given as goal

abbrev pub invariant-loop-theirs : goal.invariant-loop-theirs
invariant-loop-theirs l = record { added : l.text.added ≡ l.initial.text.added ++ flat_map (times_words l.name l.ours l.rows) (take l.theirs-index l.errors); before : l.text.before ≡ l.initial.text.before }
