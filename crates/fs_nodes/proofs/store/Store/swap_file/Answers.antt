use Rattle.std.proofs.Common.{◌≡◌, ◌∙◌, List, length, sym, ap, subst}
use Rattle.std.specs.Vec.{with_items}
use Rattle.std.proofs.lemmas.List.{with_items_is}
use Rattle.fs_nodes_places.specs.Stores.{graph_of, limit_of, room}
use Rattle.fs_nodes_places.specs.declared.place.Place.{Place}
use Rattle.fs_calls.specs.Graphs.{content_in}
use Rattle.fs_nodes_places.specs.code.Edits.{edited, with_content}
use Rattle.fs_nodes.specs.code.Linked.{graph_of_places}
use Rattle.fs_nodes.specs.code.Frees.{IsLinked}
use Rattle.fs_nodes_places.specs.Plains.{plains}
use Rattle.fs_nodes_places.specs.code.Keys.{keys_of}
use Rattle.fs_nodes.specs.code.Indexes.{IsIndex}
use Rattle.fs_nodes.specs.code.Forms.{HaveForm}
use Rattle.fs_nodes.proofs.FormLemmas.{form_swapped}
use Rattle.fs_nodes.proofs.KeyLemmas.{index_swapped}
use Rattle.fs_nodes_places.proofs.EditLemmas.{length_edited}
use Rattle.fs_nodes.proofs.SwapLemmas.{linked_swap, swap_read, swap_form}
use Rattle.fs_nodes.proofs.SeenLemmas.{linked_seen}
use Rattle.fs_nodes.proofs.store.Store.swap_file.Goals as goal

swapped : (c : goal.After-self-1) → c.swap_file.new.places ≡ edited c.args.node (with_content c.args.file) c.self.inside.places.items
unfolding graph_of limit_of room
swapped c = rw (c.deref_mut.ensures.value, c.get.ensures) at c.swap_file.ensures.places

made : (c : goal.After-self-1) → (graph_of_places c.swap_file.new.places ≡ content_in c.args.node c.args.file.bytes (graph_of_places c.self.inside.places.items)) × IsLinked c.self.inside.limit c.swap_file.new.places c.self.inside.free
unfolding graph_of limit_of room
made c = linked_swap c.self.inside.limit c.self.inside.places.items c.swap_file.new.places c.self.inside.free c.args.node c.args.file c.self.invariant.0 (rw (← c.self.view_is) at c.requires.node) (swapped c)

same : (c : goal.After-self-1) → length c.swap_file.new.places ≡ length c.self.inside.places.items
unfolding graph_of limit_of room
same c = ap length (swapped c) ∙ length_edited c.args.node (with_content c.args.file) c.self.inside.places.items

items : (c : goal.After-self-1) → (with_items c.self.inside.places c.swap_file.new.places).items ≡ c.swap_file.new.places
unfolding graph_of limit_of room
items c = with_items_is c.self.inside.places c.swap_file.new.places (same c ∙ sym c.self.inside.places.ok.0)

pub invariant_of-self : goal.invariant_of-self
unfolding graph_of limit_of room
invariant_of-self c = (
  subst (λ (l : List Place). IsLinked c.self.inside.limit l c.self.inside.free) (sym (items c)) (made c).1,
  subst (λ (l : List Place). IsIndex c.self.inside.slots.items (keys_of (plains l))) (sym (items c)) (index_swapped c.self.inside.slots.items c.args.node c.args.file c.self.inside.places.items c.swap_file.new.places (rw (← c.self.view_is) at c.requires.node) (swapped c) c.self.invariant.1),
  subst (λ (l : List Place). HaveForm c.self.inside.in_blocks l) (sym (items c)) (form_swapped c.self.inside.in_blocks c.args.node c.args.file c.self.inside.places.items c.swap_file.new.places (rw (← c.self.view_is) at c.requires.form) (swapped c) c.self.invariant.2),
)

pub returns-clause-change : goal.returns-clause-change
unfolding graph_of limit_of room
returns-clause-change c = rw (← c.self.view_is) (linked_seen c.self.inside.limit c.self.inside.places.items (with_items c.self.inside.places c.swap_file.new.places).items (content_in c.args.node c.args.file.bytes (graph_of_places c.self.inside.places.items)) (ap graph_of_places (items c) ∙ (made c).0) (ap length (items c) ∙ same c))

pub returns-clause-bytes : goal.returns-clause-bytes
unfolding graph_of limit_of room
returns-clause-bytes c = rw (← c.self.view_is) (swap_read c.self.inside.limit c.self.inside.places.items c.self.inside.free c.args.node c.args.file c.swap_file.result c.self.invariant.0 (rw (← c.self.view_is) at c.requires.node) (rw (c.deref_mut.ensures.value, c.get.ensures) at c.swap_file.ensures.old))

pub returns-clause-form : goal.returns-clause-form
unfolding graph_of limit_of room
returns-clause-form c = rw (← c.self.view_is) (swap_form c.self.inside.limit c.self.inside.places.items c.self.inside.free c.args.node c.args.file c.swap_file.result c.self.invariant.0 (rw (← c.self.view_is) at c.requires.node) (rw (c.deref_mut.ensures.value, c.get.ensures) at c.swap_file.ensures.old) c.self.inside.in_blocks c.self.invariant.2 (rw (← c.self.view_is) at c.requires.form))
