use Rattle.std.proofs.Common.{◌≡◌, ℕ, ◌<◌, Some, None, set, length, arith, refl}
use Rattle.std.specs.Prelude.{slice_get}
use Rattle.std.proofs.lemmas.Option.{slice_get_within}
use Rattle.fs_calls.specs.Graphs.{reserved_in}
use Rattle.fs_nodes_places.specs.Stores.{graph_in, new_shape, graph_of, limit_of, room}
use Rattle.fs_nodes_places.specs.code.PlainEdits.{IsTaken}
use Rattle.fs_nodes_places.proofs.StoreLemmas.{used_places, free_place, root_taken}
use Rattle.fs_nodes_places.proofs.PlainEditLemmas.{Makes, reserve_makes}
use Rattle.fs_nodes_places.proofs.RealLemmas.{seen_by, free_unlinked, free_shape}
use Rattle.fs_nodes_places.proofs.FormLemmas.{form_reserve}
use Rattle.fs_nodes_places.proofs.plain.Store.reserve.Goals as goal

pub reserve_next-requires : goal.reserve_next-requires
unfolding graph_of limit_of room
reserve_next-requires c =
    let taken : (k : ℕ) → k < length c.self.inside.places.items → IsTaken (slice_get c.self.inside.places.items k) = rw c.deref.ensures.value at c.in_default.ensures in
    rw (← c.self.view_is) (used_places c.self.inside.limit c.self.inside.places.items c.self.invariant.0.within taken)

pub index_mut-requires : goal.index_mut-requires
unfolding graph_of limit_of room
index_mut-requires c =
    let h : c.in-Some.free < length c.deref.result.now = slice_get_within c.deref.result.now c.in-Some.free None c.in-Some.ensures in
    omega (arith, c.deref.ensures.len)

there : (c : goal.After-new) → slice_get c.self.inside.places.items c.in-Some.free ≡ Some None
unfolding graph_of limit_of room
there c = rw c.deref.ensures.value at c.in-Some.ensures

made : (c : goal.After-new) → Makes c.self.inside.limit (set c.self.inside.places.items c.in-Some.free c.put.new.place) (reserved_in c.in-Some.free (new_shape c.args.kind) (graph_in c.self.inside.places.items))
unfolding graph_of limit_of room
made c = reserve_makes c.self.inside.in_blocks c.self.inside.limit c.self.inside.places.items c.in-Some.free c.put.new.place c.args.kind c.self.invariant.0 (there c) (rw c.new-node.ensures at c.put.ensures)

pub invariant_of-self : goal.invariant_of-self
unfolding graph_of limit_of room
invariant_of-self c = ((made c).1, form_reserve c.self.inside.in_blocks c.self.inside.places.items c.in-Some.free c.index_mut.result.now c.put.new.place c.args.kind c.self.invariant.1 c.index_mut.ensures.value (rw c.new-node.ensures at c.put.ensures))

pub returns-clause-change : goal.returns-clause-change
unfolding graph_of limit_of room
returns-clause-change c = rw (← c.self.view_is, c.new.ensures) (seen_by c.self.inside.limit (length (set c.self.inside.places.items c.in-Some.free c.put.new.place)) (set c.self.inside.places.items c.in-Some.free c.put.new.place) (reserved_in c.in-Some.free (new_shape c.args.kind) (graph_in c.self.inside.places.items)) (made c).0 refl)

pub returns-clause-unlinked : goal.returns-clause-unlinked
unfolding graph_of limit_of room
returns-clause-unlinked c = rw (← c.self.view_is, c.new.ensures) (free_unlinked c.self.inside.places.items c.in-Some.free (free_shape c.self.inside.places.items c.in-Some.free (there c)))

pub returns-clause-within : goal.returns-clause-within
unfolding graph_of limit_of room
returns-clause-within c =
    let h : c.in-Some.free < length c.self.inside.places.items = slice_get_within c.self.inside.places.items c.in-Some.free None (there c) in
    let k : c.new.result < c.self.inside.limit = omega (arith, c.self.invariant.0.within, c.new.ensures) in
    rw (← c.self.view_is) k

pub returns-clause-full : goal.returns-clause-full
unfolding graph_of limit_of room
returns-clause-full c = rw (← c.self.view_is) ((λ e. absurd (cc)), (λ e. absurd (free_place c.self.inside.limit c.self.inside.places.items c.in-Some.free c.self.invariant.0.within (there c) e)))

pub returns-clause-not_root : goal.returns-clause-not_root
unfolding graph_of limit_of room
returns-clause-not_root c = rw c.new.ensures (root_taken c.self.inside.limit c.self.inside.places.items c.in-Some.free c.self.invariant.0 (there c))
