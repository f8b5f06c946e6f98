use Rattle.fs_nodes_places.specs.Stores.{graph_of, limit_of, room}
use Rattle.fs_nodes_places.proofs.RealLemmas.{real_of}
use Rattle.fs_nodes_places.proofs.plain.Store.find.Goals as goal

pub returns-clause-real : goal.returns-clause-real
unfolding graph_of limit_of room
returns-clause-real c = rw (← c.self.view_is) (real_of c.self.inside.limit c.self.inside.limit c.self.inside.places.items c.self.invariant.0 c.self.invariant.0.within)
