use Rattle.std.proofs.Common.{None, refl}
use Rattle.fs_core.proofs.Doing.{take_within, take_another, take_few, took_kept, busy_step}
use Rattle.fs_core_seats.proofs.SeatLemmas.{length_after}
use Rattle.fs_core.proofs.Starting.{starting_left}
use Rattle.fs_core.proofs.Among.{among_moved}
use Rattle.fs_core.proofs.engine.Core.take.Goals as goal

pub take-requires-clause-within : goal.take-requires-clause-within
take-requires-clause-within c = take_within _ _ _ _ c.args.seat c.args.call c.args.node c.self.invariant.0 (rw (← c.self.view_is) at c.requires.moves)

pub take-requires-clause-other : goal.take-requires-clause-other
take-requires-clause-other c held = take_another _ _ _ _ c.args.seat c.args.call c.args.node c.self.invariant.0 (rw (← c.self.view_is) at c.requires.moves) held

pub take-requires-clause-call : goal.take-requires-clause-call
take-requires-clause-call c = take_few _ _ _ _ c.args.seat c.args.call _ c.self.invariant.0 (rw (← c.self.view_is) at c.requires.moves)

pub invariant_of-self-in-Ok : goal.invariant_of-self-in-Ok
invariant_of-self-in-Ok c = (
  (took_kept _ _ _ _ c.args.seat c.args.call c.args.node c.self.invariant.0 (rw (← c.self.view_is) at c.requires.moves) (c.in-Ok.ensures.free.0 refl)
      c.take.new.self c.index_mut-in-Ok.result.now c.take-in-Ok.new.slot c.in-Ok.ensures.ok c.in-Ok.ensures.room c.index_mut-in-Ok.ensures.value c.take-in-Ok.ensures).1,
  length_after _ _ _ _ c.self.invariant.1,
  starting_left _ _ c.args.seat None c.take-in-Ok.new.slot c.self.invariant.2 (rw (← c.self.view_is) at c.requires.seat) refl,
  among_moved _ _ _ c.args.seat c.args.call _ c.take-in-Ok.new.slot c.self.invariant.3 (rw (← c.self.view_is) at c.requires.moves),
)

pub returns-in-Err-clause-step : goal.returns-in-Err-clause-step
returns-in-Err-clause-step c = rw (c.in-Err.ensures.err, ← c.self.view_is) (_, busy_step _ _ _ _ c.args.seat c.args.call c.args.node _ c.self.invariant.0 (rw (← c.self.view_is) at c.requires.moves) c.in-Err.ensures.held)

pub returns-in-Ok-clause-step : goal.returns-in-Ok-clause-step
returns-in-Ok-clause-step c = rw (← c.self.view_is)
    (took_kept _ _ _ _ c.args.seat c.args.call c.args.node c.self.invariant.0 (rw (← c.self.view_is) at c.requires.moves) (c.in-Ok.ensures.free.0 refl)
    c.take.new.self c.index_mut-in-Ok.result.now c.take-in-Ok.new.slot c.in-Ok.ensures.ok c.in-Ok.ensures.room c.index_mut-in-Ok.ensures.value c.take-in-Ok.ensures).0
