use Rattle.std.proofs.Common.{◌≡◌, ◌++◌, take}
use Rattle.fs_sched_shrink.specs.Telling.{more_text}
use Rattle.fs_sched_shrink.proofs.telling.push_more.Given as goal

abbrev pub invariant-loop-clause : goal.invariant-loop-clause
invariant-loop-clause l = (l.text.added ≡ l.fn.text.added ++ more_text (take l.clause-index l.clauses)) × (l.text.before ≡ l.fn.text.before)
