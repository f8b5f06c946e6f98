use Rattle.std.proofs.Common.{◌≡◌, ℕ, subst}
use Rattle.fs_calls.specs.Graphs.{swapped_in}
use Rattle.fs_nodes_places.specs.Seen.{seen, IsReal}
use Rattle.fs_nodes_places.specs.Stores.{graph_of, limit_of, room}
use Rattle.fs_nodes_places.proofs.ExchangeLemmas.{IsBetween, before_first, before_second, second_still, second_was, swapped_seen, same_number}
use Rattle.fs_nodes.proofs.SeenLemmas.{linked_real}
use Rattle.fs_nodes.proofs.store.Store.swap_entries.Goals as goal

pub detach-other_node-requires : goal.detach-other_node-requires
unfolding graph_of limit_of room
detach-other_node-requires c =
    let real : IsReal (seen c.args.self.now) = rw (← c.self.view_is) (linked_real c.self.inside.limit c.self.inside.places.items c.self.inside.free c.self.invariant.0) in
    record { there = second_still (seen c.args.self.now) real c.args.dir c.args.other c.detach-node.result.0 c.args.name.now c.args.other_name.now c.detach-node.ensures.node c.requires.there_too c.requires.apart (seen c.detach-node.new.self) c.detach-node.ensures.change }

first : (c : goal.After-attach-arg-1) → IsBetween (graph_of c.detach-other_node.new.self) c.args.dir c.detach-other_node.result.0 c.detach-node.result.1
unfolding graph_of limit_of room
first c =
    let real : IsReal (seen c.args.self.now) = rw (← c.self.view_is) (linked_real c.self.inside.limit c.self.inside.places.items c.self.inside.free c.self.invariant.0) in
    let two = second_was (seen c.args.self.now) c.args.dir c.args.other c.detach-other_node.result.0 c.args.name.now c.args.other_name.now (seen c.detach-node.new.self) c.detach-node.ensures.change c.detach-other_node.ensures.node in
    let apart = c.requires.apart c.detach-node.result.0 c.detach-other_node.result.0 c.detach-node.ensures.node two in
    rw c.detach-node.ensures.label (before_first (seen c.args.self.now) real c.args.dir c.args.other c.detach-node.result.0 c.detach-other_node.result.0 c.args.name.now c.args.other_name.now c.detach-node.ensures.node two apart.0 apart.1 (seen c.detach-node.new.self) (seen c.detach-other_node.new.self) c.detach-node.ensures.change c.detach-other_node.ensures.change)

pub attach-requires-clause-dir : goal.attach-requires-clause-dir
unfolding graph_of limit_of room
attach-requires-clause-dir c = (first c).dir

pub attach-requires-clause-absent : goal.attach-requires-clause-absent
unfolding graph_of limit_of room
attach-requires-clause-absent c = (first c).absent

pub attach-requires-clause-used : goal.attach-requires-clause-used
unfolding graph_of limit_of room
attach-requires-clause-used c = (first c).used

pub attach-requires-clause-unlinked : goal.attach-requires-clause-unlinked
unfolding graph_of limit_of room
attach-requires-clause-unlinked c = (first c).unlinked

pub attach-requires-clause-not_root : goal.attach-requires-clause-not_root
unfolding graph_of limit_of room
attach-requires-clause-not_root c = (first c).not_root

pub attach-requires-clause-apart : goal.attach-requires-clause-apart
unfolding graph_of limit_of room
attach-requires-clause-apart c = (first c).apart

second : (c : goal.After-attach-arg-2-1) → IsBetween (graph_of c.attach.new.self) c.args.other c.detach-node.result.0 c.detach-other_node.result.1
unfolding graph_of limit_of room
second c =
    let real : IsReal (seen c.args.self.now) = rw (← c.self.view_is) (linked_real c.self.inside.limit c.self.inside.places.items c.self.inside.free c.self.invariant.0) in
    let two = second_was (seen c.args.self.now) c.args.dir c.args.other c.detach-other_node.result.0 c.args.name.now c.args.other_name.now (seen c.detach-node.new.self) c.detach-node.ensures.change c.detach-other_node.ensures.node in
    let apart = c.requires.apart c.detach-node.result.0 c.detach-other_node.result.0 c.detach-node.ensures.node two in
    rw c.detach-other_node.ensures.label (before_second (seen c.args.self.now) real c.args.dir c.args.other c.detach-node.result.0 c.detach-other_node.result.0 c.args.name.now c.args.other_name.now c.detach-node.ensures.node two apart.0 apart.1 (seen c.detach-node.new.self) (seen c.detach-other_node.new.self) (seen c.attach.new.self) c.detach-node.ensures.change c.detach-other_node.ensures.change (rw c.detach-node.ensures.label at c.attach.ensures))

pub attach-requires-2-clause-dir : goal.attach-requires-2-clause-dir
unfolding graph_of limit_of room
attach-requires-2-clause-dir c = (second c).dir

pub attach-requires-2-clause-absent : goal.attach-requires-2-clause-absent
unfolding graph_of limit_of room
attach-requires-2-clause-absent c = (second c).absent

pub attach-requires-2-clause-used : goal.attach-requires-2-clause-used
unfolding graph_of limit_of room
attach-requires-2-clause-used c = (second c).used

pub attach-requires-2-clause-unlinked : goal.attach-requires-2-clause-unlinked
unfolding graph_of limit_of room
attach-requires-2-clause-unlinked c = (second c).unlinked

pub attach-requires-2-clause-not_root : goal.attach-requires-2-clause-not_root
unfolding graph_of limit_of room
attach-requires-2-clause-not_root c = (second c).not_root

pub attach-requires-2-clause-apart : goal.attach-requires-2-clause-apart
unfolding graph_of limit_of room
attach-requires-2-clause-apart c = (second c).apart

pub returns : goal.returns
unfolding graph_of limit_of room
returns c n m is_n is_m =
    let real : IsReal (seen c.args.self.now) = rw (← c.self.view_is) (linked_real c.self.inside.limit c.self.inside.places.items c.self.inside.free c.self.invariant.0) in
    let two = second_was (seen c.args.self.now) c.args.dir c.args.other c.detach-other_node.result.0 c.args.name.now c.args.other_name.now (seen c.detach-node.new.self) c.detach-node.ensures.change c.detach-other_node.ensures.node in
    let apart = c.requires.apart c.detach-node.result.0 c.detach-other_node.result.0 c.detach-node.ensures.node two in
    let all = swapped_seen (seen c.args.self.now) real c.args.dir c.args.other c.detach-node.result.0 c.detach-other_node.result.0 c.args.name.now c.args.other_name.now c.detach-node.ensures.node two apart.0 apart.1 (seen c.detach-node.new.self) (seen c.detach-other_node.new.self) (seen c.attach.new.self) (seen c.attach-2.new.self) c.detach-node.ensures.change c.detach-other_node.ensures.change (rw c.detach-node.ensures.label at c.attach.ensures) (rw c.detach-other_node.ensures.label at c.attach-2.ensures) in
    subst (λ (k : ℕ). seen c.attach-2.new.self ≡ record (seen c.args.self.now) { graph = swapped_in c.args.dir c.args.name.now k c.args.other c.args.other_name.now m (graph_of c.args.self.now) }) (same_number _ _ _ c.detach-node.ensures.node is_n)
    (subst (λ (k : ℕ). seen c.attach-2.new.self ≡ record (seen c.args.self.now) { graph = swapped_in c.args.dir c.args.name.now c.detach-node.result.0 c.args.other c.args.other_name.now k (graph_of c.args.self.now) }) (same_number _ _ _ two is_m) all)
