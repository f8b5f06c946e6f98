use Rattle.std.proofs.Common.{◌≡◌, ◌++◌, drop, map}
use Rattle.fs_sched_reach.specs.Plain.{plain_line}
use Rattle.fs_sched_reach.specs.code.Joined.{closed}
use Rattle.fs_sched_reach.proofs.plain.push_plain_lines.Given as goal

-- the lines so far and those that are left
abbrev pub invariant-loop-line : goal.invariant-loop-line
invariant-loop-line l = l.fn.text.items ++ closed 10 (map plain_line (map (λ w. w.now) l.lines)) ≡ l.text.items ++ closed 10 (map plain_line (map (λ w. w.now) (drop l.line-index l.lines)))
