use Rattle.std.proofs.Common.{ap}
use Rattle.fs_nodes.specs.Seen.{Seen}
use Rattle.fs_core.proofs.Doing.{finish_can, finish_form, finish_plan, carried_kept}
use Rattle.fs_core_seats.proofs.SeatLemmas.{length_after}
use Rattle.fs_core.proofs.Starting.{starting_moved, finishes_otherwise}
use Rattle.fs_ops_effects.specs.Plans.{moved_by}
use Rattle.fs_core.proofs.Among.{among_moved}
use Rattle.fs_core.proofs.engine.Core.carry_out.Goals as goal

pub carry_out-requires-clause-plan : goal.carry_out-requires-clause-plan
carry_out-requires-clause-plan c = finish_plan _ c.args.seat c.args.call (moved_by c.args.plan) c.args.plan (rw (← c.self.view_is) at c.requires.moves) (rw (← c.self.view_is) at c.requires.plan) c.index_mut.result.now c.index_mut.ensures.value

pub carry_out-requires-clause-form : goal.carry_out-requires-clause-form
carry_out-requires-clause-form c = finish_form _ _ _ _ c.args.seat c.args.call (moved_by c.args.plan) c.self.invariant.0 (rw (← c.self.view_is) at c.requires.moves) c.index_mut.result.now c.index_mut.ensures.value

pub carry_out-requires-clause-can : goal.carry_out-requires-clause-can
carry_out-requires-clause-can c = finish_can _ _ _ _ c.args.seat c.args.call (moved_by c.args.plan) c.self.invariant.0 (rw (← c.self.view_is) at c.requires.moves) c.index_mut.result.now c.index_mut.ensures.value

pub invariant_of-self : goal.invariant_of-self
invariant_of-self c = (
  (carried_kept _ _ _ _ c.args.seat c.args.call (moved_by c.args.plan) c.args.place c.self.invariant.0 (rw (← c.self.view_is) at c.requires.moves) (rw (← c.self.view_is) at c.requires.placed)
      c.carry_out.new.store c.index_mut.result.now c.carry_out.new.slot c.carry_out.ensures.graph (ap (λ (s : Seen). s.limit) c.carry_out.ensures.rest) (ap (λ (s : Seen). s.in_blocks) c.carry_out.ensures.rest) c.index_mut.ensures.value c.carry_out.ensures.slot).1,
  length_after _ _ _ _ c.self.invariant.1,
  starting_moved _ _ c.args.seat c.args.call _ c.carry_out.new.slot c.self.invariant.2 (rw (← c.self.view_is) at c.requires.moves) (finishes_otherwise (moved_by c.args.plan)),
  among_moved _ _ _ c.args.seat c.args.call _ c.carry_out.new.slot c.self.invariant.3 (rw (← c.self.view_is) at c.requires.moves),
)

pub returns-clause-step : goal.returns-clause-step
returns-clause-step c = rw (← c.self.view_is)
    (carried_kept _ _ _ _ c.args.seat c.args.call (moved_by c.args.plan) c.args.place c.self.invariant.0 (rw (← c.self.view_is) at c.requires.moves) (rw (← c.self.view_is) at c.requires.placed)
    c.carry_out.new.store c.index_mut.result.now c.carry_out.new.slot c.carry_out.ensures.graph (ap (λ (s : Seen). s.limit) c.carry_out.ensures.rest) (ap (λ (s : Seen). s.in_blocks) c.carry_out.ensures.rest) c.index_mut.ensures.value c.carry_out.ensures.slot).0
