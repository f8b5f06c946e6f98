use Rattle.std.proofs.Common.{◌≡◌, ℕ, subst}
use Rattle.fs_calls.specs.Graphs.{swapped_in}
use Rattle.fs_nodes_places.specs.Seen.{seen, IsReal}
use Rattle.fs_nodes_places.specs.Stores.{graph_of, limit_of, room}
use Rattle.fs_nodes_places.proofs.ExchangeLemmas.{IsBetween, before_first, before_second, second_still, second_was, swapped_seen, same_number}
use Rattle.fs_nodes_places.proofs.RealLemmas.{real_of}
use Rattle.fs_nodes_places.proofs.plain.Store.swap_entries.Goals as goal

pub detach-other_node-requires : goal.detach-other_node-requires
unfolding graph_of limit_of room
detach-other_node-requires c =
    let real : IsReal (seen c.args.self.now) = rw (← c.self.view_is) (real_of c.self.inside.limit c.self.inside.limit c.self.inside.places.items c.self.invariant.0 c.self.invariant.0.within) in
    record { there = second_still (seen c.args.self.now) real c.args.dir c.args.other c.detach-node.result.0 c.args.name.now c.args.other_name.now c.detach-node.ensures.node c.requires.there_too c.requires.apart (seen c.detach-node.new.self) c.detach-node.ensures.change }

first : (c : goal.After-link-arg-1) → IsBetween (graph_of c.detach-other_node.new.self) c.args.dir c.detach-other_node.result.0 c.detach-node.result.1
unfolding graph_of limit_of room
first c =
    let real : IsReal (seen c.args.self.now) = rw (← c.self.view_is) (real_of c.self.inside.limit c.self.inside.limit c.self.inside.places.items c.self.invariant.0 c.self.invariant.0.within) in
    let two = second_was (seen c.args.self.now) c.args.dir c.args.other c.detach-other_node.result.0 c.args.name.now c.args.other_name.now (seen c.detach-node.new.self) c.detach-node.ensures.change c.detach-other_node.ensures.node in
    let apart = c.requires.apart c.detach-node.result.0 c.detach-other_node.result.0 c.detach-node.ensures.node two in
    rw c.detach-node.ensures.name (before_first (seen c.args.self.now) real c.args.dir c.args.other c.detach-node.result.0 c.detach-other_node.result.0 c.args.name.now c.args.other_name.now c.detach-node.ensures.node two apart.0 apart.1 (seen c.detach-node.new.self) (seen c.detach-other_node.new.self) c.detach-node.ensures.change c.detach-other_node.ensures.change)

pub link-requires-clause-dir : goal.link-requires-clause-dir
unfolding graph_of limit_of room
link-requires-clause-dir c = (first c).dir

pub link-requires-clause-absent : goal.link-requires-clause-absent
unfolding graph_of limit_of room
link-requires-clause-absent c = (first c).absent

pub link-requires-clause-used : goal.link-requires-clause-used
unfolding graph_of limit_of room
link-requires-clause-used c = (first c).used

pub link-requires-clause-unlinked : goal.link-requires-clause-unlinked
unfolding graph_of limit_of room
link-requires-clause-unlinked c = (first c).unlinked

pub link-requires-clause-not_root : goal.link-requires-clause-not_root
unfolding graph_of limit_of room
link-requires-clause-not_root c = (first c).not_root

pub link-requires-clause-apart : goal.link-requires-clause-apart
unfolding graph_of limit_of room
link-requires-clause-apart c = (first c).apart

second : (c : goal.After-link-arg-2-1) → IsBetween (graph_of c.link.new.self) c.args.other c.detach-node.result.0 c.detach-other_node.result.1
unfolding graph_of limit_of room
second c =
    let real : IsReal (seen c.args.self.now) = rw (← c.self.view_is) (real_of c.self.inside.limit c.self.inside.limit c.self.inside.places.items c.self.invariant.0 c.self.invariant.0.within) in
    let two = second_was (seen c.args.self.now) c.args.dir c.args.other c.detach-other_node.result.0 c.args.name.now c.args.other_name.now (seen c.detach-node.new.self) c.detach-node.ensures.change c.detach-other_node.ensures.node in
    let apart = c.requires.apart c.detach-node.result.0 c.detach-other_node.result.0 c.detach-node.ensures.node two in
    rw c.detach-other_node.ensures.name (before_second (seen c.args.self.now) real c.args.dir c.args.other c.detach-node.result.0 c.detach-other_node.result.0 c.args.name.now c.args.other_name.now c.detach-node.ensures.node two apart.0 apart.1 (seen c.detach-node.new.self) (seen c.detach-other_node.new.self) (seen c.link.new.self) c.detach-node.ensures.change c.detach-other_node.ensures.change (rw c.detach-node.ensures.name at c.link.ensures))

pub link-requires-2-clause-dir : goal.link-requires-2-clause-dir
unfolding graph_of limit_of room
link-requires-2-clause-dir c = (second c).dir

pub link-requires-2-clause-absent : goal.link-requires-2-clause-absent
unfolding graph_of limit_of room
link-requires-2-clause-absent c = (second c).absent

pub link-requires-2-clause-used : goal.link-requires-2-clause-used
unfolding graph_of limit_of room
link-requires-2-clause-used c = (second c).used

pub link-requires-2-clause-unlinked : goal.link-requires-2-clause-unlinked
unfolding graph_of limit_of room
link-requires-2-clause-unlinked c = (second c).unlinked

pub link-requires-2-clause-not_root : goal.link-requires-2-clause-not_root
unfolding graph_of limit_of room
link-requires-2-clause-not_root c = (second c).not_root

pub link-requires-2-clause-apart : goal.link-requires-2-clause-apart
unfolding graph_of limit_of room
link-requires-2-clause-apart c = (second c).apart

pub returns : goal.returns
unfolding graph_of limit_of room
returns c n m is_n is_m =
    let real : IsReal (seen c.args.self.now) = rw (← c.self.view_is) (real_of c.self.inside.limit c.self.inside.limit c.self.inside.places.items c.self.invariant.0 c.self.invariant.0.within) in
    let two = second_was (seen c.args.self.now) c.args.dir c.args.other c.detach-other_node.result.0 c.args.name.now c.args.other_name.now (seen c.detach-node.new.self) c.detach-node.ensures.change c.detach-other_node.ensures.node in
    let apart = c.requires.apart c.detach-node.result.0 c.detach-other_node.result.0 c.detach-node.ensures.node two in
    let all = swapped_seen (seen c.args.self.now) real c.args.dir c.args.other c.detach-node.result.0 c.detach-other_node.result.0 c.args.name.now c.args.other_name.now c.detach-node.ensures.node two apart.0 apart.1 (seen c.detach-node.new.self) (seen c.detach-other_node.new.self) (seen c.link.new.self) (seen c.link-2.new.self) c.detach-node.ensures.change c.detach-other_node.ensures.change (rw c.detach-node.ensures.name at c.link.ensures) (rw c.detach-other_node.ensures.name at c.link-2.ensures) in
    subst (λ (k : ℕ). seen c.link-2.new.self ≡ record (seen c.args.self.now) { graph = swapped_in c.args.dir c.args.name.now k c.args.other c.args.other_name.now m (graph_of c.args.self.now) }) (same_number _ _ _ c.detach-node.ensures.node is_n)
    (subst (λ (k : ℕ). seen c.link-2.new.self ≡ record (seen c.args.self.now) { graph = swapped_in c.args.dir c.args.name.now c.detach-node.result.0 c.args.other c.args.other_name.now k (graph_of c.args.self.now) }) (same_number _ _ _ two is_m) all)
