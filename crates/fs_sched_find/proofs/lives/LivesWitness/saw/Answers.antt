use Rattle.fs_sched_find.proofs.Living.{moment_more}
use Rattle.fs_sched_find.proofs.lives.LivesWitness.saw.Goals as goal

pub returns : goal.returns
returns c = record { told = λ first before told. moment_more c.moment.result c.args.self.now c.moment.new.self before c.args.moment told c.moment.ensures }
