use Rattle.std.proofs.Common.{◌≡◌, ◌++◌, drop}
use Rattle.std.specs.List.{filter}
use Rattle.fs_linearize_dialects.specs.LearnedTables.{is_seen}
use Rattle.fs_linearize_dialects.proofs.learned_tables.seen_among.Given as goal

abbrev pub invariant-loop-theirs : goal.invariant-loop-theirs
invariant-loop-theirs l = l.errors.items ++ filter (is_seen l.name l.ours l.rows) (drop l.theirs-index l.errnos) ≡ filter (is_seen l.name l.ours l.rows) l.errnos
