use Rattle.std.proofs.Common.{ap}
use Rattle.fs_nodes_places.specs.Stores.{lent, graph_of, limit_of, room}
use Rattle.fs_nodes.proofs.EntryLemmas.{none_some}
use Rattle.fs_nodes.proofs.SeenLemmas.{linked_real}
use Rattle.fs_nodes.proofs.store.Store.next_entry_after.Goals as goal

pub returns-in-Some-clause-unlinked : goal.returns-in-Some-clause-unlinked
unfolding graph_of limit_of room
returns-in-Some-clause-unlinked c = λ h. absurd (none_some _ _ ((rw (c.deref.ensures.value, c.get.ensures) at c.entry_after.ensures.unlinked) (rw (← c.self.view_is) at h)) (ap lent c.in-Some.is))

pub returns-in-Some-clause-real : goal.returns-in-Some-clause-real
unfolding graph_of limit_of room
returns-in-Some-clause-real c = rw (← c.self.view_is) (linked_real c.self.inside.limit c.self.inside.places.items c.self.inside.free c.self.invariant.0)

pub returns-in-None-clause-real : goal.returns-in-None-clause-real
unfolding graph_of limit_of room
returns-in-None-clause-real c = rw (← c.self.view_is) (linked_real c.self.inside.limit c.self.inside.places.items c.self.inside.free c.self.invariant.0)
