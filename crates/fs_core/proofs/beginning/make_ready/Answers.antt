use Rattle.std.proofs.Common.{ap}
use Rattle.fs_nodes.specs.Seen.{Seen, seen}
use Rattle.fs_nodes.specs.Stores.{graph_of}
use Rattle.fs_core.proofs.Readiness.{cancel_spare, cancel_graph, reserved_below}
use Rattle.fs_core.proofs.beginning.make_ready.Goals as goal

pub cancel-requires : goal.cancel-requires
cancel-requires c =
    cancel_spare (graph_of c.args.store.now) (graph_of c.new.new.store) (seen c.args.store.now).limit c.args.limits c.args.call.now c.in-Ok.op c.requires.graph c.in-Ok.ensures.ok

pub returns-in-Err-clause-graph : goal.returns-in-Err-clause-graph
returns-in-Err-clause-graph c =
    cancel_graph (graph_of c.args.store.now) (graph_of c.new.new.store) (graph_of c.cancel.new.store) (seen c.args.store.now).limit c.args.limits c.args.call.now c.in-Ok.op c.in-Ok.ensures.ok (ap (λ (s : Seen). s.graph) c.cancel.ensures)

pub make_places-requires-clause-reserved : goal.make_places-requires-clause-reserved
make_places-requires-clause-reserved c =
    rw c.reserved.ensures (reserved_below (graph_of c.args.store.now) (graph_of c.new.new.store) (seen c.args.store.now).limit c.args.limits c.args.call.now c.in-Ok.op c.requires.limit c.in-Ok.ensures.ok)
