use Rattle.fs_sched_reach.proofs.Looking.{heard_more}
use Rattle.fs_sched_reach.proofs.lookout.LookoutWitness.saw.Goals as goal

pub returns : goal.returns
returns c = record {
  told = λ first before told. (told.0, heard_more c.args.self.now c.stand_after-self.result c.in-Some.seen before c.args.moment told.1 c.in-Some.ensures.1 c.stand_after-self.ensures);
}
