use Rattle.std.proofs.Common.{ap}
use Rattle.fs_nodes.specs.Seen.{Seen}
use Rattle.fs_core.proofs.Doing.{end_some, end_fixed, end_spare, moving_place, returned_kept}
use Rattle.fs_core_seats.proofs.SeatLemmas.{length_after}
use Rattle.fs_core.proofs.Starting.{starting_moved, ends_otherwise}
use Rattle.fs_core_seats.proofs.Among.{among_ended}
use Rattle.fs_core.proofs.engine.Core.end.Goals as goal

pub take_out-running-requires : goal.take_out-running-requires
take_out-running-requires c = end_some _ c.args.seat c.args.call _ c.index_mut.result.now (rw (← c.self.view_is) at c.requires.moves) c.index_mut.ensures.value

pub end-reply-requires-clause-fixed : goal.end-reply-requires-clause-fixed
end-reply-requires-clause-fixed c = end_fixed _ c.args.seat c.args.call c.index_mut.result.now c.take_out-running.result (rw (← c.self.view_is) at c.requires.moves) c.index_mut.ensures.value c.take_out-running.ensures.running

pub end-reply-requires-clause-spare : goal.end-reply-requires-clause-spare
end-reply-requires-clause-spare c = end_spare _ _ _ _ c.args.seat c.args.call c.index_mut.result.now c.take_out-running.result c.self.invariant.0 (rw (← c.self.view_is) at c.requires.moves) c.index_mut.ensures.value c.take_out-running.ensures.running

pub push-requires-clause-place : goal.push-requires-clause-place
push-requires-clause-place c = moving_place _ _ _ _ c.args.seat c.args.call _ c.self.invariant.0 (rw (← c.self.view_is) at c.requires.moves)

pub invariant_of-self : goal.invariant_of-self
invariant_of-self c = rw c.push.ensures (
  (returned_kept _ _ _ _ c.args.seat c.args.call c.self.invariant.0 (rw (← c.self.view_is) at c.requires.moves) c.end-reply.new.store c.index_mut.result.now c.take_out-running.new.slot c.take_out-running.result c.end-reply.result.0 c.end-reply.result.1
      c.index_mut.ensures.value c.take_out-running.ensures.running c.take_out-running.ensures.slot (ap (λ (s : Seen). s.graph) c.end-reply.ensures.change) (ap (λ (s : Seen). s.limit) c.end-reply.ensures.change) (ap (λ (s : Seen). s.in_blocks) c.end-reply.ensures.change) c.end-reply.ensures.one c.end-reply.ensures.two).1,
  length_after _ _ _ _ c.self.invariant.1,
  starting_moved _ _ c.args.seat c.args.call _ c.take_out-running.new.slot c.self.invariant.2 (rw (← c.self.view_is) at c.requires.moves) (ends_otherwise),
  among_ended _ _ _ _ _ c.args.seat c.take_out-running.new.slot c.self.invariant.3 c.leave.ensures.places (rw (← c.self.view_is) at c.requires.seat) c.take_out-running.ensures.slot c.leave.ensures.others,
)

pub returns-clause-step : goal.returns-clause-step
returns-clause-step c = rw (c.push.ensures, ← c.self.view_is)
    (returned_kept _ _ _ _ c.args.seat c.args.call c.self.invariant.0 (rw (← c.self.view_is) at c.requires.moves) c.end-reply.new.store c.index_mut.result.now c.take_out-running.new.slot c.take_out-running.result c.end-reply.result.0 c.end-reply.result.1
    c.index_mut.ensures.value c.take_out-running.ensures.running c.take_out-running.ensures.slot (ap (λ (s : Seen). s.graph) c.end-reply.ensures.change) (ap (λ (s : Seen). s.limit) c.end-reply.ensures.change) (ap (λ (s : Seen). s.in_blocks) c.end-reply.ensures.change) c.end-reply.ensures.one c.end-reply.ensures.two).0
