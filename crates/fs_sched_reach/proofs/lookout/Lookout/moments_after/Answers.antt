use Rattle.fs_sched_reach.proofs.Looking.{heard_come, heard_other}
use Rattle.fs_sched_reach.proofs.lookout.Lookout.moments_after.Goals as goal

pub returns-in-Come : goal.returns-in-Come
returns-in-Come c ms heard = heard_come c.args.self.now ms c.in-Come.moments c.args.before c.saturating_sub.result c.in-Come.is c.saturating_sub.ensures heard

pub returns-in_default : goal.returns-in_default
returns-in_default c ms heard = heard_other c.args.self.now ms c.in_default.not-Come heard
