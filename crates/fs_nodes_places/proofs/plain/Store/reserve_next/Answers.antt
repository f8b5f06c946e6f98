use Rattle.std.proofs.Common.{◌≡◌, ◌<◌, List, Option, Some, length, subst, sym, arith, refl}
use Rattle.fs_nodes_places.specs.declared.node.Node.{Node}
use Rattle.fs_calls.specs.Graphs.{reserved_in}
use Rattle.fs_nodes_places.specs.Stores.{graph_in, new_shape, graph_of, limit_of, room}
use Rattle.fs_nodes_places.specs.code.PlainEdits.{new_node}
use Rattle.fs_nodes_places.proofs.PlainEditLemmas.{Makes, push_makes, past_shape}
use Rattle.fs_nodes_places.proofs.StoreLemmas.{root_within}
use Rattle.fs_nodes_places.proofs.RealLemmas.{seen_by, free_unlinked}
use Rattle.fs_nodes_places.proofs.FormLemmas.{form_reserve_next}
use Rattle.fs_nodes_places.proofs.plain.Store.reserve_next.Goals as goal

made : (c : goal.After-new) → Makes c.self.inside.limit c.add_place.new.places.items (reserved_in (length c.self.inside.places.items) (new_shape c.args.kind) (graph_in c.self.inside.places.items))
unfolding graph_of limit_of room
made c =
    let room : length c.self.inside.places.items < c.self.inside.limit = omega (arith, c.self.invariant.0.within, c.len-next.ensures) in
    subst (λ (l : List (Option Node)). Makes c.self.inside.limit l (reserved_in (length c.self.inside.places.items) (new_shape c.args.kind) (graph_in c.self.inside.places.items))) (sym c.in-Ok.ensures.ok)
    (push_makes c.self.inside.in_blocks c.self.inside.limit c.self.inside.places.items (Some (new_node c.self.inside.in_blocks c.args.kind)) c.args.kind c.self.invariant.0 room refl)

next_is : (c : goal.After-new) → c.new.result ≡ length c.self.inside.places.items
unfolding graph_of limit_of room
next_is c = omega (arith, c.new.ensures, c.len-next.ensures)

pub invariant_of-self-2 : goal.invariant_of-self-2
unfolding graph_of limit_of room
invariant_of-self-2 c = ((made c).1, form_reserve_next c.self.inside.in_blocks c.self.inside.places.items c.add_place.new.places.items c.args.kind c.self.invariant.1 c.in-Ok.ensures.ok)

pub returns-clause-change : goal.returns-clause-change
unfolding graph_of limit_of room
returns-clause-change c = rw (← c.self.view_is, next_is c) (seen_by c.self.inside.limit (length c.add_place.new.places.items) c.add_place.new.places.items (reserved_in (length c.self.inside.places.items) (new_shape c.args.kind) (graph_in c.self.inside.places.items)) (made c).0 refl)

pub returns-clause-unlinked : goal.returns-clause-unlinked
unfolding graph_of limit_of room
returns-clause-unlinked c = rw (← c.self.view_is, next_is c) (free_unlinked c.self.inside.places.items (length c.self.inside.places.items) (past_shape c.self.inside.places.items (length c.self.inside.places.items) (omega arith)))

pub returns-clause-not_root : goal.returns-clause-not_root
unfolding graph_of limit_of room
returns-clause-not_root c = rw (next_is c) (root_within c.self.inside.limit c.self.inside.places.items c.self.invariant.0)
