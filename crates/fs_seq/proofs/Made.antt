-- What the calls that make a node answer and leave.
use Rattle.std.proofs.Common.{◌≡◌, ℕ, ◌+◌, [], length, slice_get, Some, refl, sym, ap, subst, ◌∙◌}
use Rattle.std.specs.Prelude.{insert}
use Rattle.std.specs.FinMap.{put}
use Rattle.fs_names.specs.Names.{Name, name_cmp}
use Rattle.fs_names.specs.Keys.{Key, parent_of, last_of}
use Rattle.fs_names.specs.declared.limits.Limits.{Limits}
use Rattle.fs_calls.specs.Tree.{inserted, Tree}
use Rattle.fs_calls.specs.Outcomes.{fault}
use Rattle.fs_calls.specs.declared.call.Call.TheVariants.{Mkdir, Mknod}
use Rattle.fs_calls.specs.declared.reply.Reply.TheVariants.{Done}
use Rattle.fs_seq_nodes.specs.declared.nodes.Node.TheVariants as nodes
use Rattle.fs_seq_nodes.specs.code.Slots.{Dir, Slots, links_of, links_at, tree_of, IsForest, Sets, Attaches}
use Rattle.fs_seq_nodes.specs.code.Nodes.{place, tree_node}
use Rattle.fs_seq.specs.code.Effects.{making_fault, IsGap, Gives}
use Rattle.fs_seq_nodes.proofs.NodeLemmas.{parent_and_last, last_got, node_place}
use Rattle.fs_seq_nodes.proofs.GraphMade.{forest_made, tree_made}
use Rattle.fs_seq.proofs.Replies.{works}

-- the errors of both calls are those of making a node
pub mkdir_fault : (limits : Limits) (t : Tree) (p : Key) → fault limits t (Mkdir p) ≡ making_fault limits t p
unfolding fault making_fault
mkdir_fault limits t p = refl

-- the errors of mknod are those of making a node
pub mknod_fault : (limits : Limits) (t : Tree) (p : Key) → fault limits t (Mknod p) ≡ making_fault limits t p
unfolding fault making_fault
mknod_fault limits t p = refl

-- a new node in its place
pub is_made : (limits : Limits) (g g' : Slots) (p : Key) (n dir i : ℕ) (x : Name) (node : nodes.the_data) → IsForest g → links_of (Some (place node)) ≡ [] → IsGap limits g p dir i → n + 1 ≡ length p → slice_get p n ≡ Some x → Attaches g g' dir i x (place node)
    → Gives g g' (making_fault limits (tree_of g) p) Done (inserted (tree_of g) p (tree_node node)) Done
is_made limits g g' p n dir i x node forest bare gap len named attached =
    let last : x ≡ last_of p = sym (last_got p n x len named) in
    let entry : insert (links_at g dir) i (x, attached.number) ≡ put name_cmp (last_of p) attached.number (links_at g dir) = ap (λ z. insert (links_at g dir) i (z, attached.number)) last ∙ sym (gap.belongs.placed attached.number) in
    let linking : Sets g attached.between dir (Some (Dir (put name_cmp (last_of p) attached.number (links_at g dir)))) = subst (λ ls. Sets g attached.between dir (Some (Dir ls))) entry attached.linking in
    works g g' (making_fault limits (tree_of g) p) Done (inserted (tree_of g) p (tree_node node)) gap.sound
    (tree_made g attached.between g' forest (place node) bare (parent_of p) dir gap.parent (links_at g dir) gap.directory (last_of p) gap.belongs.absent attached.number attached.free linking attached.adding (tree_node node) (node_place node)
    ∙ ap (λ k. inserted (tree_of g) k (tree_node node)) (sym (parent_and_last p gap.named)))
    (forest_made g attached.between g' forest (place node) bare (parent_of p) dir gap.parent (links_at g dir) gap.directory (last_of p) gap.belongs.absent attached.number attached.free linking attached.adding)
