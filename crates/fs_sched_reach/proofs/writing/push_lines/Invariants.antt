use Rattle.std.proofs.Common.{drop, map}
use Rattle.fs_sched_reach.proofs.Adding.{LinesSoFar}
use Rattle.fs_sched_reach.proofs.writing.push_lines.Given as goal

-- what is written so far, and the lines that are left
abbrev pub invariant-loop-at : goal.invariant-loop-at
invariant-loop-at l = LinesSoFar l.from l.limits (map (λ x. x.now) l.lines) (map (λ x. x.now) (drop l.at l.lines)) l.fn.text.items l.text.items
