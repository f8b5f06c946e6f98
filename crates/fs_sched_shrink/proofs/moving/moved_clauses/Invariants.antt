use Rattle.std.proofs.Common.{◌≡◌, map, take}
use Rattle.fs_sched_shrink.specs.Moves.{moved_clause}
use Rattle.fs_sched_shrink.proofs.moving.moved_clauses.Given as goal

abbrev pub invariant-loop-clause : goal.invariant-loop-clause
invariant-loop-clause l = l.moved.items ≡ map (moved_clause l.kept l.script) (take l.clause-index l.clauses)
