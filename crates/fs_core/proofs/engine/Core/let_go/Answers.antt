use Rattle.std.proofs.Common.{ap}
use Rattle.fs_nodes.specs.Seen.{Seen}
use Rattle.fs_core.proofs.Doing.{let_go_held, let_go_spare, left_kept}
use Rattle.fs_core_seats.proofs.SeatLemmas.{length_after}
use Rattle.fs_core.proofs.Starting.{starting_moved, leaves_otherwise}
use Rattle.fs_core.proofs.Among.{among_moved}
use Rattle.fs_core.proofs.engine.Core.let_go.Goals as goal

pub let_go-requires : goal.let_go-requires
let_go-requires c = let_go_held _ _ _ _ c.args.seat c.args.call c.args.node c.self.invariant.0 (rw (← c.self.view_is) at c.requires.moves)

pub let_go-requires-2 : goal.let_go-requires-2
let_go-requires-2 c =
    record { spare = let_go_spare _ _ _ _ c.args.seat c.args.call c.args.node c.self.invariant.0 (rw (← c.self.view_is) at c.requires.moves) c.index_mut.result.now c.index_mut.ensures.value }

pub invariant_of-self : goal.invariant_of-self
invariant_of-self c = (
  (left_kept _ _ _ _ c.args.seat c.args.call c.args.node c.self.invariant.0 (rw (← c.self.view_is) at c.requires.moves)
      c.let_go-2.new.store c.let_go.new.self c.index_mut.result.now c.let_go-2.new.slot c.let_go-2.ensures.graph (ap (λ (s : Seen). s.limit) c.let_go-2.ensures.rest) (ap (λ (s : Seen). s.in_blocks) c.let_go-2.ensures.rest) c.let_go.ensures.holders c.let_go.ensures.room c.index_mut.ensures.value c.let_go-2.ensures.slot).1,
  length_after _ _ _ _ c.self.invariant.1,
  starting_moved _ _ c.args.seat c.args.call _ c.let_go-2.new.slot c.self.invariant.2 (rw (← c.self.view_is) at c.requires.moves) (leaves_otherwise c.args.node),
  among_moved _ _ _ c.args.seat c.args.call _ c.let_go-2.new.slot c.self.invariant.3 (rw (← c.self.view_is) at c.requires.moves),
)

pub returns-clause-step : goal.returns-clause-step
returns-clause-step c = rw (← c.self.view_is)
    (left_kept _ _ _ _ c.args.seat c.args.call c.args.node c.self.invariant.0 (rw (← c.self.view_is) at c.requires.moves)
    c.let_go-2.new.store c.let_go.new.self c.index_mut.result.now c.let_go-2.new.slot c.let_go-2.ensures.graph (ap (λ (s : Seen). s.limit) c.let_go-2.ensures.rest) (ap (λ (s : Seen). s.in_blocks) c.let_go-2.ensures.rest) c.let_go.ensures.holders c.let_go.ensures.room c.index_mut.ensures.value c.let_go-2.ensures.slot).0
