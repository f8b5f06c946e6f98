use Rattle.std.proofs.Common.{◌≡◌, ◌++◌, drop, map}
use Rattle.fs_sched_reach.specs.code.Joined.{closed}
use Rattle.fs_sched_reach.proofs.writing.push_as_are.Given as goal

-- the lines so far and those that are left
abbrev pub invariant-loop-line : goal.invariant-loop-line
invariant-loop-line l = l.fn.text.items ++ closed 10 (map (λ x. x.now) l.lines) ≡ l.text.items ++ closed 10 (map (λ x. x.now) (drop l.line-index l.lines))
