use Rattle.fs_laws.proofs.Agreement.{parts_agree}
use Rattle.fs_laws.proofs.Counting.{numbers_counted}
use Rattle.fs_laws.proofs.Holdings.{four_held}
use Rattle.fs_laws.proofs.Leaks.{numbers_kept}
use Rattle.fs_core.proofs.engine.Core.told_of_numbers.Goals as goal

pub returns-clause-no_leak : goal.returns-clause-no_leak
returns-clause-no_leak c = numbers_kept _ c.told.ensures.run

pub returns-clause-counted : goal.returns-clause-counted
returns-clause-counted c = numbers_counted _ c.told.ensures.run

pub returns-clause-graph : goal.returns-clause-graph
returns-clause-graph c = (parts_agree _ c.told.ensures.run).is_graph

pub returns-clause-agree : goal.returns-clause-agree
returns-clause-agree c = parts_agree _ c.told.ensures.run

pub returns-clause-four : goal.returns-clause-four
returns-clause-four c = four_held _ c.told.ensures.run
