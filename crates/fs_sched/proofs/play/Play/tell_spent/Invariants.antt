use Rattle.std.proofs.Common.{replicate}
use Rattle.fs_sched_witness.specs.Moments.{Hears, spent_of}
use Rattle.fs_sched.proofs.play.Play.tell_spent.Given as goal

abbrev pub invariant-loop : goal.invariant-loop
invariant-loop g l = Hears g.W.Witness.Told l.fn.witness (replicate l.counter (spent_of l.seat)) l.witness
