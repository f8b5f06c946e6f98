use Rattle.std.proofs.Common.{◌≡◌, false, take}
use Rattle.std.specs.List.{list_any}
use Rattle.fs_sched_shrink.specs.Moves.{is_named_in}
use Rattle.fs_sched_shrink.proofs.moving.is_named.Given as goal

abbrev pub invariant-loop-clauses : goal.invariant-loop-clauses
invariant-loop-clauses l = list_any (is_named_in l.script l.at) (take l.clauses-index l.what) ≡ false
