use Rattle.fs_core.proofs.Readiness.{counted, seat_kept}
use Rattle.fs_core_seats.proofs.SeatLemmas.{length_more}
use Rattle.fs_core_seats.proofs.Among.{among_more}
use Rattle.fs_core.proofs.Starting.{starting_more}
use Rattle.fs_core.proofs.engine.Core.seat.Goals as goal

pub invariant_of-self-2 : goal.invariant_of-self-2
invariant_of-self-2 c = (
  counted _ _ _ _ c.add.new.memory (seat_kept _ _ _ _ c.self.invariant.0 c.push_reserved.new.self.items (rw c.reserve-3.ensures.items at c.push_reserved.ensures.items)).1,
  length_more _ _ _ _ _ _ (rw c.reserve.ensures.items at c.push_reserved-2.ensures.items) (rw c.reserve-3.ensures.items at c.push_reserved.ensures.items) c.self.invariant.1,
  starting_more _ _ _ _ c.self.invariant.2 (rw c.reserve-2.ensures.items at c.push_reserved-3.ensures.items) (rw c.reserve-3.ensures.items at c.push_reserved.ensures.items),
  rw c.add.ensures.count (among_more _ _ _ _ _ _ c.self.invariant.3 c.in_ok-add.ensures.ok (rw c.reserve-3.ensures.items at c.push_reserved.ensures.items)),
)

pub returns-clause-state : goal.returns-clause-state
returns-clause-state c = rw (← c.self.view_is) (seat_kept _ _ _ _ c.self.invariant.0 c.push_reserved.new.self.items (rw c.reserve-3.ensures.items at c.push_reserved.ensures.items)).0
