use Rattle.std.proofs.Common.{◌≡◌, ◌++◌, take}
use Rattle.fs_sched_shrink.specs.Telling.{others_text}
use Rattle.fs_sched_shrink.proofs.telling.push_others.Given as goal

abbrev pub invariant-loop-clauses : goal.invariant-loop-clauses
invariant-loop-clauses l = (l.text.added ≡ l.fn.text.added ++ others_text (take l.clauses-index l.what)) × (l.text.before ≡ l.fn.text.before)
