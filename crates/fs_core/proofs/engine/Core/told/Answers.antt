use Rattle.fs_laws.proofs.journal.ViewOfTimeline.{linearizes}
use Rattle.fs_linearizable.proofs.LawfulLemmas.{lawful_is_linearizable}
use Rattle.fs_core.proofs.Resting.{spelled_at_rest}
use Rattle.fs_core.proofs.engine.Core.told.Goals as goal

pub returns-clause-lawful : goal.returns-clause-lawful
returns-clause-lawful c = rw (← c.self.view_is) (linearizes _ c.self.invariant.0.run).lawful

pub returns-clause-linearizable : goal.returns-clause-linearizable
returns-clause-linearizable c = rw (← c.self.view_is) (lawful_is_linearizable _ _ (linearizes _ c.self.invariant.0.run).lawful)

pub returns-clause-spelled : goal.returns-clause-spelled
returns-clause-spelled c = spelled_at_rest c.args.self.now (rw (← c.self.view_is) c.self.invariant.0.run)
