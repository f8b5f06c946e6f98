use Rattle.fs_sched.specs.code.Stages.{stage_of, AreOver}
use Rattle.fs_sched.proofs.play.Play.first_left.Given as goal

-- no thread so far has more
abbrev pub invariant-loop-seat : goal.invariant-loop-seat
invariant-loop-seat l = AreOver l.lists (stage_of l.self) l.seat
