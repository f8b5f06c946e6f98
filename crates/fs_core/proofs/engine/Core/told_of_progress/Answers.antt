use Rattle.fs_machine.proofs.StepsAreDetermined.{one_step}
use Rattle.fs_laws.proofs.states.OneCall.{meets_tree}
use Rattle.fs_laws.proofs.states.StepsTakeWork.{takes_work, adds_work}
use Rattle.fs_laws.proofs.states.Waiters.{has_step, never_stuck, waits_above}
use Rattle.fs_core.proofs.Told.{deepest_waits, names_another}
use Rattle.fs_core.proofs.engine.Core.told_of_progress.Goals as goal

pub returns-clause-steps : goal.returns-clause-steps
returns-clause-steps c = has_step _ c.told.ensures.run

pub returns-clause-determined : goal.returns-clause-determined
returns-clause-determined c = one_step _

pub returns-clause-waiters_above : goal.returns-clause-waiters_above
returns-clause-waiters_above c = waits_above _ c.told.ensures.run

pub returns-clause-never_stuck : goal.returns-clause-never_stuck
returns-clause-never_stuck c = never_stuck _ c.told.ensures.run

pub returns-clause-takes_work : goal.returns-clause-takes_work
returns-clause-takes_work c = takes_work _ c.told.ensures.run

pub returns-clause-adds_work : goal.returns-clause-adds_work
returns-clause-adds_work c = adds_work _ c.told.ensures.run

pub returns-clause-alone : goal.returns-clause-alone
returns-clause-alone c = λ first new seat call_no call reply. meets_tree _ first new seat call_no call reply c.told.ensures.run

pub returns-clause-deepest_goes_on : goal.returns-clause-deepest_goes_on
returns-clause-deepest_goes_on c = deepest_waits _ c.told.ensures.run

pub returns-clause-names_another : goal.returns-clause-names_another
returns-clause-names_another c = names_another _ c.told.ensures.run
