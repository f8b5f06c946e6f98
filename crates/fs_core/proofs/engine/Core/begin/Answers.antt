use Rattle.std.proofs.Common.{◌<◌, length, arith, ap}
use Rattle.fs_laws.proofs.states.Headline.{run_keeps}
use Rattle.fs_nodes.specs.Seen.{Seen}
use Rattle.fs_core.proofs.Readiness.{busy_by, counted, refused_same, begun_by, none_by_test}
use Rattle.fs_core_seats.proofs.SeatLemmas.{length_after}
use Rattle.fs_core.proofs.Starting.{starting_begun}
use Rattle.fs_core_seats.proofs.Among.{among_begun}
use Rattle.fs_core.proofs.engine.Core.begin.Goals as goal

pub returns-then-is_some-clause-begins : goal.returns-then-is_some-clause-begins
returns-then-is_some-clause-begins c = rw (← c.self.view_is)
    (busy_by _ _ _ _ c.self.invariant.0 c.get-at.result c.args.seat c.args.call.now c.index.result.now c.is_some.result c.get-at.ensures (rw (← c.self.view_is) at c.requires.seat) c.index.ensures c.is_some.ensures c.if-is_some.true)

pub make_ready-requires : goal.make_ready-requires
make_ready-requires c = record { graph = (run_keeps _ c.self.invariant.0.run).is_graph; limit = c.self.invariant.0.limited; begun = c.self.invariant.0.begun_is }

pub invariant_of-self : goal.invariant_of-self
invariant_of-self c = rw c.in-Err.ensures.timeline
    (counted _ _ _ _ c.make_ready.new.memory (refused_same _ _ _ _ c.self.invariant.0 c.make_ready.new.store c.make_ready.new.holders c.in-Err.ensures.graph (ap (λ (s : Seen). s.limit) c.in-Err.ensures.rest) (ap (λ (s : Seen). s.in_blocks) c.in-Err.ensures.rest) c.in-Err.ensures.holders c.in-Err.ensures.more).1, c.self.invariant.1, c.self.invariant.2, c.self.invariant.3)

pub invariant_of-self-in-Ok : goal.invariant_of-self-in-Ok
invariant_of-self-in-Ok c = rw (c.push.ensures, c.in-Ok.ensures.places) (
  counted _ _ _ _ c.make_ready.new.memory (begun_by _ _ _ _ c.get-at.result c.args.seat c.args.call.now c.self.invariant.0 c.get-at.ensures c.index.result.now (rw (← c.self.view_is) at c.requires.seat) c.index.ensures (none_by_test c.index.result.now c.is_some.result c.is_some.ensures c.if-is_some.false)
      c.make_ready.new.store c.make_ready.new.holders c.in-Ok.ready.op c.new-call.result c.in-Ok.ready.number c.in-Ok.ready.copy c.put.new.slot (rw (c.limits.ensures, c.tree.ensures) at c.in-Ok.ensures.op) (ap (λ (s : Seen). s.limit) c.in-Ok.ensures.rest) (ap (λ (s : Seen). s.in_blocks) c.in-Ok.ensures.rest) c.in-Ok.ensures.holders c.in-Ok.ensures.more c.in-Ok.ensures.within
      c.new-call.ensures c.in-Ok.ensures.number c.in-Ok.ensures.few c.in-Ok.ensures.copy (rw c.open.ensures at c.put.ensures)).1,
  length_after _ _ _ _ c.self.invariant.1,
  starting_begun _ _ _ _ _ _ c.in-Ok.ready.op c.in-Ok.ensures.op _ _ c.get-at.result c.new-call.result c.start.new.starting c.put.new.slot c.self.invariant.2
      (let within : c.args.seat < length c.self.inside.seats.items = rw (← c.self.view_is) at c.requires.seat in omega (arith, within, c.get-at.ensures)) (rw c.open.ensures at c.start.ensures) (rw c.open.ensures at c.put.ensures),
  among_begun _ _ _ _ _ c.get-at.result c.put.new.slot c.self.invariant.3 c.enter.ensures.places c.enter.ensures.seat c.enter.ensures.others,
)

pub returns-in-Ok-clause-begins : goal.returns-in-Ok-clause-begins
returns-in-Ok-clause-begins c = rw (c.push.ensures, c.in-Ok.ensures.places, ← c.self.view_is)
    (begun_by _ _ _ _ c.get-at.result c.args.seat c.args.call.now c.self.invariant.0 c.get-at.ensures c.index.result.now (rw (← c.self.view_is) at c.requires.seat) c.index.ensures (none_by_test c.index.result.now c.is_some.result c.is_some.ensures c.if-is_some.false)
    c.make_ready.new.store c.make_ready.new.holders c.in-Ok.ready.op c.new-call.result c.in-Ok.ready.number c.in-Ok.ready.copy c.put.new.slot (rw (c.limits.ensures, c.tree.ensures) at c.in-Ok.ensures.op) (ap (λ (s : Seen). s.limit) c.in-Ok.ensures.rest) (ap (λ (s : Seen). s.in_blocks) c.in-Ok.ensures.rest) c.in-Ok.ensures.holders c.in-Ok.ensures.more c.in-Ok.ensures.within
    c.new-call.ensures c.in-Ok.ensures.number c.in-Ok.ensures.few c.in-Ok.ensures.copy (rw c.open.ensures at c.put.ensures)).0
