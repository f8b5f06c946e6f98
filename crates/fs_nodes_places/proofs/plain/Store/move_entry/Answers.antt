use Rattle.std.proofs.Common.{◌≡◌, ◌<◌, Some, set, length, sym, ◌∙◌, arith}
use Rattle.fs_calls.specs.Graphs.{moved_in}
use Rattle.fs_nodes_places.specs.Stores.{child_in, graph_in, graph_of, limit_of, room}
use Rattle.fs_nodes_places.proofs.PlainEditLemmas.{Makes, move_edit, child_within}
use Rattle.std.proofs.lemmas.List.{length-set}
use Rattle.fs_nodes_places.proofs.RealLemmas.{seen_by}
use Rattle.fs_nodes_places.proofs.FormLemmas.{form_relink}
use Rattle.fs_nodes_places.proofs.plain.Store.move_entry.Goals as goal

pub index_mut-requires : goal.index_mut-requires
unfolding graph_of limit_of room
index_mut-requires c =
    let h : c.unwrap-node.result < length c.deref.result.now = child_within c.deref.result.now c.unwrap-node.result c.args.from c.args.name.now (sym c.find_in.ensures ∙ c.unwrap-node.ensures) in
    omega (arith, c.deref.ensures.len)

found : (c : goal.Joined-relink) → child_in c.self.inside.places.items c.args.from c.args.name.now ≡ Some c.unwrap-node.result
unfolding graph_of limit_of room
found c = rw c.deref.ensures.value at (sym c.find_in.ensures) ∙ c.unwrap-node.ensures

made : (c : goal.Joined-relink) → Makes c.self.inside.limit (set c.self.inside.places.items c.unwrap-node.result c.relink.new.place) (moved_in c.args.from c.args.name.now c.args.to c.args.new_name c.unwrap-node.result (graph_in c.self.inside.places.items))
unfolding graph_of limit_of room
made c = move_edit c.self.inside.limit c.self.inside.places.items c.unwrap-node.result c.args.from c.args.name.now c.args.to c.args.new_name c.index_mut.result.now c.relink.new.place c.self.invariant.0
    (found c) (rw (← c.self.view_is) at c.requires.dir) (rw (← c.self.view_is) at c.requires.absent) (rw (← c.self.view_is, found c) at c.requires.apart) c.index_mut.ensures.value c.relink.ensures.new

pub invariant_of-self : goal.invariant_of-self
unfolding graph_of limit_of room
invariant_of-self c = ((made c).1, form_relink c.self.inside.in_blocks c.self.inside.places.items c.unwrap-node.result c.index_mut.result.now c.relink.new.place _ c.self.invariant.1 c.index_mut.ensures.value c.relink.ensures.new)

pub returns : goal.returns
unfolding graph_of limit_of room
returns c = rw (← c.self.view_is) (rw (found c) (seen_by c.self.inside.limit (length c.self.inside.places.items) (set c.self.inside.places.items c.unwrap-node.result c.relink.new.place) (moved_in c.args.from c.args.name.now c.args.to c.args.new_name c.unwrap-node.result (graph_in c.self.inside.places.items)) (made c).0 (length-set c.self.inside.places.items c.unwrap-node.result c.relink.new.place)))
