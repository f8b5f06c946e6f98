use Rattle.std.proofs.Common.{arith}
use Rattle.fs_sched_witness.specs.Moments.{spent_of}
use Rattle.fs_sched.proofs.Noting.{hears_none, times_on, times_all}
use Rattle.fs_sched.proofs.play.Play.tell_spent.Goals as goal

pub loop-init : goal.loop-init
loop-init g c = hears_none g.W.Witness.Told c.args.witness.now

pub loop-preserved : goal.loop-preserved
loop-preserved g c = times_on g.W.Witness.Told c.args.witness.now c.loop.witness c.tell.new.witness c.loop.counter (spent_of c.args.seat) c.loop.invariant c.in_ok-tell.ensures.told

pub returns-clause-told : goal.returns-clause-told
returns-clause-told g c = times_all g.W.Witness.Told c.args.witness.now c.loop.witness c.loop.counter c.args.times (spent_of c.args.seat) (omega arith) c.loop.invariant
