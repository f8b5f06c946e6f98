use Rattle.std.proofs.Common.{◌≡◌, false, take}
use Rattle.std.specs.List.{list_any}
use Rattle.fs_sched_find.specs.declared.what.Clause.{Clause}
use Rattle.fs_sched_shrink.specs.Moves.{is_named_by}
use Rattle.fs_sched_shrink.proofs.moving.is_named_in.Given as goal

abbrev pub invariant-loop-clause : goal.invariant-loop-clause
invariant-loop-clause l = list_any (λ (clause : Clause). is_named_by l.script l.at clause.condition) (take l.clause-index l.clauses) ≡ false
