use Rattle.fs_nodes_places.specs.Stores.{graph_of, limit_of, room}
use Rattle.fs_nodes.proofs.SeenLemmas.{linked_real}
use Rattle.fs_nodes.proofs.store.Store.find.Goals as goal

pub returns-clause-real : goal.returns-clause-real
unfolding graph_of limit_of room
returns-clause-real c = rw (← c.self.view_is) (linked_real c.self.inside.limit c.self.inside.places.items c.self.inside.free c.self.invariant.0)
