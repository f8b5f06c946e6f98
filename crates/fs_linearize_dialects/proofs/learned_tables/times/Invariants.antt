use Rattle.std.proofs.Common.{◌≡◌, ◌+◌, ◌≤◌, drop}
use Rattle.fs_linearize_dialects.specs.LearnedTables.{times}
use Rattle.fs_linearize_dialects.proofs.learned_tables.times.Given as goal

abbrev pub invariant-loop-row : goal.invariant-loop-row
invariant-loop-row l = record { all : l.count + times l.name l.ours (drop l.row-index l.rows) l.theirs ≡ times l.name l.ours l.rows l.theirs; few : l.count ≤ l.row-index }
