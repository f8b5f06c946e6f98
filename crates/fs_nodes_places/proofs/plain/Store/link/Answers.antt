use Rattle.std.proofs.Common.{set, length}
use Rattle.fs_calls.specs.Graphs.{linked_in}
use Rattle.fs_nodes_places.specs.Stores.{graph_in, graph_of, limit_of, room}
use Rattle.fs_nodes_places.proofs.PlainEditLemmas.{Makes, link_edit}
use Rattle.std.proofs.lemmas.List.{length-set}
use Rattle.fs_nodes_places.proofs.RealLemmas.{seen_by}
use Rattle.fs_nodes_places.proofs.FormLemmas.{form_relink}
use Rattle.fs_nodes_places.proofs.plain.Store.link.Goals as goal

made : (c : goal.Joined-relink) → Makes c.self.inside.limit (set c.self.inside.places.items c.get.result c.relink.new.place) (linked_in c.args.dir c.args.name c.args.node (graph_in c.self.inside.places.items))
unfolding graph_of limit_of room
made c = link_edit c.self.inside.limit c.self.inside.places.items c.args.node c.args.dir c.args.name c.get.result c.index_mut.result.now c.relink.new.place c.self.invariant.0
    (rw (← c.self.view_is) at c.requires.dir) (rw (← c.self.view_is) at c.requires.absent) (rw (← c.self.view_is) at c.requires.used) (rw (← c.self.view_is) at c.requires.unlinked) c.requires.not_root (rw (← c.self.view_is) at c.requires.apart)
    c.get.ensures c.index_mut.ensures.value c.relink.ensures.new

pub invariant_of-self : goal.invariant_of-self
unfolding graph_of limit_of room
invariant_of-self c = ((made c).1, form_relink c.self.inside.in_blocks c.self.inside.places.items c.get.result c.index_mut.result.now c.relink.new.place _ c.self.invariant.1 c.index_mut.ensures.value c.relink.ensures.new)

pub returns : goal.returns
unfolding graph_of limit_of room
returns c = rw (← c.self.view_is) (seen_by c.self.inside.limit (length c.self.inside.places.items) (set c.self.inside.places.items c.get.result c.relink.new.place) (linked_in c.args.dir c.args.name c.args.node (graph_in c.self.inside.places.items)) (made c).0 (length-set c.self.inside.places.items c.get.result c.relink.new.place))
