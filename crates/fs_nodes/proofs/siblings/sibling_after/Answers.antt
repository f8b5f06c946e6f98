use Rattle.std.proofs.Common.{◌≡◌, ◌∙◌, Some, slice_get, sym}
use Rattle.fs_nodes.proofs.EntryLemmas.{parent_read, parent_none, linked_within, next_read, next_inside}
use Rattle.fs_nodes_places.proofs.EditLemmas.{read_place}
use Rattle.fs_nodes.proofs.siblings.sibling_after.Goals as goal

place : (c : goal.After-get) → slice_get c.args.places.now c.args.node ≡ Some c.index-places-node.result
place c = read_place c.args.places.now c.args.node c.index-places-node.result (linked_within c.args.places.now c.args.node c.in-Some.field-0 (sym c.dir_of.ensures ∙ c.in-Some.is)) c.index-places-node.is

pub returns-in-Some-clause-next : goal.returns-in-Some-clause-next
returns-in-Some-clause-next c = rw c.get.ensures (next_read c.args.places.now c.args.node c.index-places-node.result c.requires (place c))

pub returns-in-Some-clause-unlinked : goal.returns-in-Some-clause-unlinked
returns-in-Some-clause-unlinked c = λ h. absurd (let r = parent_read c.args.places.now c.args.node c.in-Some.field-0 c.requires (sym c.dir_of.ensures ∙ c.in-Some.is) in h c.in-Some.field-0 r.0 r.1)

pub returns-in-Some-clause-within : goal.returns-in-Some-clause-within
returns-in-Some-clause-within c = rw c.get.ensures (next_inside c.args.places.now c.args.node c.in-Some.field-0 c.index-places-node.result c.requires (place c) (sym c.dir_of.ensures ∙ c.in-Some.is))

pub returns-in-None-clause-next : goal.returns-in-None-clause-next
returns-in-None-clause-next c = λ dir name child. absurd (parent_none c.args.places.now c.args.node (sym c.dir_of.ensures ∙ c.in-None.is) dir name child)
