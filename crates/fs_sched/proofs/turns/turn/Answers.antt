use Rattle.std.proofs.Common.{arith}
use Rattle.fs_sched.proofs.Turning.{one_turn}
use Rattle.fs_sched.proofs.turns.turn.Goals as goal

pub overflow_add-events : goal.overflow_add-events
overflow_add-events c = omega (arith, c.below.ensures.there, c.requires)

pub returns : goal.returns
returns c turns = one_turn c.args.threads.now c.args.most.now turns c.below-seat.result c.below.result c.args.draws.now c.below-seat.new.self c.below.new.self c.below-seat.ensures.drawn c.below-seat.ensures.next c.below.ensures.drawn c.below.ensures.next
