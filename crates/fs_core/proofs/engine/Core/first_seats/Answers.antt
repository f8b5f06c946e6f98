use Rattle.fs_core_seats.proofs.Among.{listed_by}
use Rattle.fs_core.proofs.engine.Core.first_seats.Goals as goal

pub returns : goal.returns
returns c = rw (← c.self.view_is) (listed_by _ _ _ _ c.self.invariant.3 c.first.ensures.inside c.first.ensures.each)
