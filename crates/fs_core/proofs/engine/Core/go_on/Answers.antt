use Rattle.std.proofs.Common.{◌<◌, length}
use Rattle.fs_core.proofs.Doing.{plans_at}
use Rattle.fs_core.proofs.engine.Core.go_on.Goals as goal

pub make_move-requires-clause-plan : goal.make_move-requires-clause-plan
make_move-requires-clause-plan c = rw (← c.self.view_is)
    (let within : c.args.at < length c.self.inside.seats.items = rw (← c.self.view_is) at c.requires.seat in
    plans_at _ _ _ _ c.args.at c.index.result.now c.in-Some.running c.next-next.result c.self.invariant.0 within c.index.ensures c.in-Some.is c.next-next.ensures.plan c.next-next.ensures.found)
