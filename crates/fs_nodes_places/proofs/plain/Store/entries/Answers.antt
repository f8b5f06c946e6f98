use Rattle.std.proofs.Common.{◌∙◌}
use Rattle.fs_nodes_places.specs.Stores.{graph_of, limit_of, room}
use Rattle.fs_nodes_places.proofs.PlainEditLemmas.{entries_are}
use Rattle.fs_nodes_places.proofs.plain.Store.entries.Goals as goal

pub returns : goal.returns
unfolding graph_of limit_of room
returns c = rw (← c.self.view_is) (c.entries_in.ensures ∙ rw c.deref.ensures.value (entries_are c.self.inside.limit c.self.inside.places.items c.args.dir c.self.invariant.0))
