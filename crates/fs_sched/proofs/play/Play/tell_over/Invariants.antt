use Rattle.std.proofs.Common.{map}
use Rattle.std.specs.List.{range_with_len}
use Rattle.fs_sched_witness.specs.Moments.{Hears, spent_of}
use Rattle.fs_sched.proofs.play.Play.tell_over.Given as goal

abbrev pub invariant-loop-seat : goal.invariant-loop-seat
invariant-loop-seat g l = Hears g.W.Witness.Told l.fn.witness (map spent_of (range_with_len 0 l.seat)) l.witness
