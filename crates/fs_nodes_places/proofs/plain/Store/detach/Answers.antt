use Rattle.std.proofs.Common.{◌≡◌, ◌<◌, Option, Some, None, set, length, refl, sym, ap, ◌∙◌, arith}
use Rattle.fs_calls.specs.Graphs.{unlinked_in}
use Rattle.fs_nodes_places.specs.declared.node.Link.{Link}
use Rattle.fs_nodes_places.specs.Stores.{graph_in, graph_of, limit_of, room}
use Rattle.fs_nodes_places.proofs.PlainEditLemmas.{Makes, unlink_edit, child_within, old_link}
use Rattle.std.proofs.lemmas.List.{length-set}
use Rattle.fs_nodes_places.proofs.RealLemmas.{seen_by}
use Rattle.fs_nodes_places.proofs.FormLemmas.{form_relink}
use Rattle.fs_nodes_places.proofs.plain.Store.detach.Goals as goal

pub index_mut-requires : goal.index_mut-requires
unfolding graph_of limit_of room
index_mut-requires c =
    let h : c.unwrap-node.result < length c.deref.result.now = child_within c.deref.result.now c.unwrap-node.result c.args.dir c.args.name.now (sym c.find_in.ensures ∙ c.unwrap-node.ensures) in
    omega (arith, c.deref.ensures.len)

made : (c : goal.After-new) → Makes c.self.inside.limit (set c.self.inside.places.items c.unwrap-node.result c.relink.new.place) (unlinked_in c.args.dir c.args.name.now (graph_in c.self.inside.places.items))
unfolding graph_of limit_of room
made c = unlink_edit c.self.inside.limit c.self.inside.places.items c.unwrap-node.result c.args.dir c.args.name.now c.index_mut.result.now c.relink.new.place c.self.invariant.0
    (rw c.deref.ensures.value at (sym c.find_in.ensures) ∙ c.unwrap-node.ensures) c.index_mut.ensures.value c.relink.ensures.new

pub invariant_of-self : goal.invariant_of-self
unfolding graph_of limit_of room
invariant_of-self c = ((made c).1, form_relink c.self.inside.in_blocks c.self.inside.places.items c.unwrap-node.result c.index_mut.result.now c.relink.new.place None c.self.invariant.1 c.index_mut.ensures.value c.relink.ensures.new)

pub returns-clause-change : goal.returns-clause-change
unfolding graph_of limit_of room
returns-clause-change c = rw (← c.self.view_is) (seen_by c.self.inside.limit (length c.self.inside.places.items) (set c.self.inside.places.items c.unwrap-node.result c.relink.new.place) (unlinked_in c.args.dir c.args.name.now (graph_in c.self.inside.places.items)) (made c).0 (length-set c.self.inside.places.items c.unwrap-node.result c.relink.new.place))

pub unwrap-link-requires : goal.unwrap-link-requires
unfolding graph_of limit_of room
unwrap-link-requires c = rw (c.relink.ensures.old ∙ old_link c.self.inside.places.items c.unwrap-node.result c.args.dir c.args.name.now c.index_mut.result.now (rw c.deref.ensures.value at (sym c.find_in.ensures) ∙ c.unwrap-node.ensures) c.index_mut.ensures.value) refl

pub returns-clause-name : goal.returns-clause-name
unfolding graph_of limit_of room
returns-clause-name c =
    let h : ◌≡◌ {A = Option Link} (Some c.unwrap-link.result) (Some (record { dir = c.args.dir; name = c.args.name.now })) = sym c.unwrap-link.ensures ∙ c.relink.ensures.old ∙ old_link c.self.inside.places.items c.unwrap-node.result c.args.dir c.args.name.now c.index_mut.result.now (rw c.deref.ensures.value at (sym c.find_in.ensures) ∙ c.unwrap-node.ensures) c.index_mut.ensures.value in
    let k : c.unwrap-link.result ≡ record { dir = c.args.dir; name = c.args.name.now } = cc in
    ap (λ (l : Link). l.name) k
