use Rattle.std.proofs.Common.{sym}
use Rattle.fs_nodes_places.specs.Stores.{graph_of, limit_of, room}
use Rattle.fs_nodes_places.proofs.PlainEditLemmas.{parent_is, no_parent}
use Rattle.fs_nodes_places.proofs.plain.Store.parent.Goals as goal

pub returns-in-Some : goal.returns-in-Some
unfolding graph_of limit_of room
returns-in-Some c = rw (← c.self.view_is) (parent_is c.self.inside.limit c.self.inside.places.items c.args.node c.in-Some.link.now c.self.invariant.0 (rw c.deref.ensures.value at (sym c.in-Some.ensures)))

pub returns-in-None : goal.returns-in-None
unfolding graph_of limit_of room
returns-in-None c = rw (← c.self.view_is) (no_parent c.self.inside.places.items c.args.node (rw c.deref.ensures.value at (sym c.in-None.ensures)))
