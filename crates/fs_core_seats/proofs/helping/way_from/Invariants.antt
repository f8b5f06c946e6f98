use Rattle.fs_nodes.specs.Stores.{graph_of}
use Rattle.fs_locks.specs.Holding.{room}
use Rattle.fs_core_seats.proofs.Ways.{WayUp}
use Rattle.fs_core_seats.proofs.helping.way_from.Given as goal

-- how far the way has come
abbrev pub invariant-loop-step : goal.invariant-loop-step
invariant-loop-step l = WayUp (graph_of l.store) l.seats (room l.holders) l.moved l.seat l.fn.position l.above l._step l.met l.below
