use Rattle.std.proofs.Common.{arith}
use Rattle.fs_sched.proofs.Noting.{hears_none, over_on, over_all}
use Rattle.fs_sched.proofs.play.Play.tell_over.Goals as goal

pub loop-seat-init : goal.loop-seat-init
loop-seat-init g c = hears_none g.W.Witness.Told c.args.witness.now

pub loop-seat-preserved : goal.loop-seat-preserved
loop-seat-preserved g c = over_on g.W.Witness.Told c.args.witness.now c.loop-seat.witness c.tell.new.witness c.loop-seat.seat c.loop-seat.invariant c.in_ok-tell.ensures.told

pub returns-clause-told : goal.returns-clause-told
returns-clause-told g c = over_all g.W.Witness.Told c.args.witness.now c.loop-seat.witness c.loop-seat.seat c.args.first (omega arith) c.loop-seat.invariant
