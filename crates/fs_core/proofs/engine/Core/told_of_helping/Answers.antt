use Rattle.fs_laws.proofs.helping.HelpedLeave.{helps_are_few}
use Rattle.fs_laws.proofs.helping.WhoStandsBelow.{no_walking_below, no_later_below, nobody_between, settles, never_waits_to_finish}
use Rattle.fs_laws.proofs.journal.PlacesOfPlaced.{places_are_told}
use Rattle.fs_core.proofs.Told.{replies_stay}
use Rattle.fs_core.proofs.engine.Core.told_of_helping.Goals as goal

pub returns-clause-placed_first : goal.returns-clause-placed_first
returns-clause-placed_first c = no_walking_below _ c.told.ensures.run

pub returns-clause-earlier_first : goal.returns-clause-earlier_first
returns-clause-earlier_first c = no_later_below _ c.told.ensures.run

pub returns-clause-heads_clear : goal.returns-clause-heads_clear
returns-clause-heads_clear c = nobody_between _ c.told.ensures.run

pub returns-clause-settles : goal.returns-clause-settles
returns-clause-settles c = settles _ c.told.ensures.run

pub returns-clause-places : goal.returns-clause-places
returns-clause-places c = places_are_told _ c.told.ensures.run

pub returns-clause-never_waits : goal.returns-clause-never_waits
returns-clause-never_waits c = never_waits_to_finish _

pub returns-clause-few_helps : goal.returns-clause-few_helps
returns-clause-few_helps c = helps_are_few _ c.told.ensures.run

pub returns-clause-replies_stay : goal.returns-clause-replies_stay
returns-clause-replies_stay c = replies_stay _ c.told.ensures.run
