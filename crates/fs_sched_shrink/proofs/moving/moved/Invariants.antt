use Rattle.std.proofs.Common.{◌≡◌, map, take}
use Rattle.fs_sched_shrink.specs.Moves.{moved_clauses}
use Rattle.fs_sched_shrink.proofs.moving.moved.Given as goal

abbrev pub invariant-loop-clauses : goal.invariant-loop-clauses
invariant-loop-clauses l = l.moved.items ≡ map (moved_clauses l.kept l.script) (take l.clauses-index l.what)
