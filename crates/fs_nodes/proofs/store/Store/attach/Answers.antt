use Rattle.std.proofs.Common.{◌≡◌, ◌∙◌, ◌<◌, ◌≤◌, ℕ, List, Option, None, IfSome, IsTrue, slice_get, length, refl, sym, ap, ap₂, subst}
use Rattle.std.specs.Vec.{with_items}
use Rattle.std.proofs.lemmas.List.{with_items_is}
use Rattle.fs_names.specs.Shapes.{is_there, is_dir}
use Rattle.fs_names.specs.declared.limits.TheConstants.{NODE_LIMIT}
use Rattle.fs_nodes_places.specs.declared.node.Node.{Node}
use Rattle.fs_nodes_places.specs.Stores.{graph_of, limit_of, room, graph_in}
use Rattle.fs_nodes.specs.declared.index.Slot.{Slot}
use Rattle.fs_nodes_places.specs.declared.place.Place.{Place}
use Rattle.fs_calls.specs.Graphs.{linked_in, IsReached, IsUnlinked}
use Rattle.fs_nodes_places.specs.Plains.{plains}
use Rattle.fs_nodes_places.specs.code.Keys.{key_of, keys_of}
use Rattle.fs_nodes.specs.code.Indexes.{IsIndex}
use Rattle.fs_nodes.specs.code.Linked.{graph_of_places, IsPlaces, IsGap, IsLesser, put_between, bared}
use Rattle.fs_nodes.specs.code.Frees.{IsLinked}
use Rattle.fs_nodes.specs.code.Forms.{HaveForm}
use Rattle.fs_nodes.proofs.FormLemmas.{form_put, form_bared}
use Rattle.fs_nodes.proofs.FreeLemmas.{linked_link, length_put, gap_prev, gap_next, few_entries}
use Rattle.fs_nodes.proofs.HintLemmas.{length_bared, held_bared, plains_bared, linked_bared}
use Rattle.fs_nodes.proofs.KeyLemmas.{some_of, index_linked, used_below_limit, dir_below_limit}
use Rattle.fs_nodes.proofs.SeenLemmas.{linked_seen}
use Rattle.fs_nodes.proofs.store.Store.attach.Goals as goal

pub insert_hint-told-requires-clause-node : goal.insert_hint-told-requires-clause-node
unfolding graph_of limit_of room
insert_hint-told-requires-clause-node c = rw c.get-2.ensures (used_below_limit c.self.inside.places.items c.args.node c.self.invariant.0.places (rw (← c.self.view_is) at c.requires.used))

pub lesser-after-requires-clause-places : goal.lesser-after-requires-clause-places
unfolding graph_of limit_of room
lesser-after-requires-clause-places c = subst IsPlaces (sym (c.deref.ensures.value ∙ held_bared c.self.inside.places c.insert_hint-told.new.places (c.insert_hint-told.ensures ∙ ap bared c.deref_mut.ensures.value))) (linked_bared c.self.inside.limit c.self.inside.places.items c.insert_hint-told.new.places c.self.inside.free (c.insert_hint-told.ensures ∙ ap bared c.deref_mut.ensures.value) c.self.invariant.0).places

pub gap-prev-requires-clause-places : goal.gap-prev-requires-clause-places
unfolding graph_of limit_of room
gap-prev-requires-clause-places c = subst IsPlaces (sym (c.deref-2.ensures.value ∙ held_bared c.self.inside.places c.insert_hint-told.new.places (c.insert_hint-told.ensures ∙ ap bared c.deref_mut.ensures.value))) (linked_bared c.self.inside.limit c.self.inside.places.items c.insert_hint-told.new.places c.self.inside.free (c.insert_hint-told.ensures ∙ ap bared c.deref_mut.ensures.value) c.self.invariant.0).places

pub gap-prev-requires-clause-after : goal.gap-prev-requires-clause-after
unfolding graph_of limit_of room
gap-prev-requires-clause-after c = subst (λ (l : List Place). IfSome c.lesser-after.result (IsLesser (graph_of_places l) c.get-4.result c.name-name.result.now)) (c.deref.ensures.value ∙ sym c.deref-2.ensures.value) (subst (λ (d : ℕ). IfSome c.lesser-after.result (IsLesser (graph_of_places c.deref.result.now) d c.name-name.result.now)) (c.get-3.ensures ∙ sym c.get-4.ensures) c.lesser-after.ensures)

pub gap-prev-requires-clause-absent : goal.gap-prev-requires-clause-absent
unfolding graph_of limit_of room
gap-prev-requires-clause-absent c = rw c.name-name.ensures (subst (λ (d : ℕ). ◌≡◌ {A = Option ℕ} ((graph_of_places c.deref-2.result.now).child d c.args.label) None) (sym c.get-4.ensures) (ap (λ (l : List Place). (graph_of_places l).child c.args.dir c.args.label) (c.deref-2.ensures.value ∙ held_bared c.self.inside.places c.insert_hint-told.new.places (c.insert_hint-told.ensures ∙ ap bared c.deref_mut.ensures.value)) ∙ ap (λ (z : List (Option Node)). (graph_in z).child c.args.dir c.args.label) (plains_bared c.self.inside.places.items c.insert_hint-told.new.places (c.insert_hint-told.ensures ∙ ap bared c.deref_mut.ensures.value)) ∙ (rw (← c.self.view_is) at c.requires.absent)))

pub put-requires-clause-slots : goal.put-requires-clause-slots
unfolding graph_of limit_of room
put-requires-clause-slots c = rw c.deref_mut-2.ensures.value (some_of c.self.inside.slots.items c.self.inside.places.items c.self.invariant.0.places c.self.invariant.1)

pub put-requires-clause-dir : goal.put-requires-clause-dir
unfolding graph_of limit_of room
put-requires-clause-dir c = rw (c.key.ensures, c.get-5.ensures) (dir_below_limit c.self.inside.places.items c.args.dir c.self.invariant.0.places (rw (← c.self.view_is) at c.requires.dir))

pub put-requires-clause-node : goal.put-requires-clause-node
unfolding graph_of limit_of room
put-requires-clause-node c = rw c.get-6.ensures (used_below_limit c.self.inside.places.items c.args.node c.self.invariant.0.places (rw (← c.self.view_is) at c.requires.used))

pub put_between-requires-clause-prev : goal.put_between-requires-clause-prev
unfolding graph_of limit_of room
put_between-requires-clause-prev c = subst (λ (l : List Place). IfSome c.gap-prev.result.0 (λ k. k < length l)) (sym (c.deref_mut-3.ensures.value ∙ held_bared c.self.inside.places c.insert_hint-told.new.places (c.insert_hint-told.ensures ∙ ap bared c.deref_mut.ensures.value))) (gap_prev c.insert_hint-told.new.places c.args.dir c.args.label c.gap-prev.result.0 c.gap-prev.result.1 (subst (λ (l : List Place). IsGap (graph_of_places l) c.args.dir c.args.label c.gap-prev.result.0 c.gap-prev.result.1) (c.deref-2.ensures.value ∙ held_bared c.self.inside.places c.insert_hint-told.new.places (c.insert_hint-told.ensures ∙ ap bared c.deref_mut.ensures.value)) (subst (λ (d : ℕ). IsGap (graph_of_places c.deref-2.result.now) d c.args.label c.gap-prev.result.0 c.gap-prev.result.1) c.get-4.ensures (rw c.name-name.ensures at c.gap-prev.ensures))))

pub put_between-requires-clause-next : goal.put_between-requires-clause-next
unfolding graph_of limit_of room
put_between-requires-clause-next c = subst (λ (l : List Place). IfSome c.gap-prev.result.1 (λ k. k < length l)) (sym (c.deref_mut-3.ensures.value ∙ held_bared c.self.inside.places c.insert_hint-told.new.places (c.insert_hint-told.ensures ∙ ap bared c.deref_mut.ensures.value))) (gap_next c.insert_hint-told.new.places c.args.dir c.args.label c.gap-prev.result.0 c.gap-prev.result.1 (subst (λ (l : List Place). IsGap (graph_of_places l) c.args.dir c.args.label c.gap-prev.result.0 c.gap-prev.result.1) (c.deref-2.ensures.value ∙ held_bared c.self.inside.places c.insert_hint-told.new.places (c.insert_hint-told.ensures ∙ ap bared c.deref_mut.ensures.value)) (subst (λ (d : ℕ). IsGap (graph_of_places c.deref-2.result.now) d c.args.label c.gap-prev.result.0 c.gap-prev.result.1) c.get-4.ensures (rw c.name-name.ensures at c.gap-prev.ensures))))

pub put_between-requires-clause-entries : goal.put_between-requires-clause-entries
unfolding graph_of limit_of room
put_between-requires-clause-entries c = subst (λ (l : List Place). IfSome (slice_get l c.get-7.result) (λ p. p.entries ≤ NODE_LIMIT)) (sym (c.deref_mut-3.ensures.value ∙ held_bared c.self.inside.places c.insert_hint-told.new.places (c.insert_hint-told.ensures ∙ ap bared c.deref_mut.ensures.value))) (few_entries c.insert_hint-told.new.places c.get-7.result (linked_bared c.self.inside.limit c.self.inside.places.items c.insert_hint-told.new.places c.self.inside.free (c.insert_hint-told.ensures ∙ ap bared c.deref_mut.ensures.value) c.self.invariant.0).places)

hinted : (c : goal.After-self-3-1) → bared c.insert_hint-told.new.places ≡ bared c.self.inside.places.items
unfolding graph_of limit_of room
hinted c = c.insert_hint-told.ensures ∙ ap bared c.deref_mut.ensures.value

nodes : (c : goal.After-self-3-1) → plains c.insert_hint-told.new.places ≡ plains c.self.inside.places.items
unfolding graph_of limit_of room
nodes c = plains_bared c.self.inside.places.items c.insert_hint-told.new.places (hinted c)

before : (c : goal.After-self-3-1) → IsLinked c.self.inside.limit c.insert_hint-told.new.places c.self.inside.free
unfolding graph_of limit_of room
before c = linked_bared c.self.inside.limit c.self.inside.places.items c.insert_hint-told.new.places c.self.inside.free (hinted c) c.self.invariant.0

used : (c : goal.After-self-3-1) → IsTrue (is_there ((graph_of_places c.insert_hint-told.new.places).shape c.args.node))
unfolding graph_of limit_of room
used c = subst (λ (z : List (Option Node)). IsTrue (is_there ((graph_in z).shape c.args.node))) (sym (nodes c)) (rw (← c.self.view_is) at c.requires.used)

unlinked : (c : goal.After-self-3-1) → IsUnlinked (graph_of_places c.insert_hint-told.new.places).child c.args.node
unfolding graph_of limit_of room
unlinked c = subst (λ (z : List (Option Node)). IsUnlinked (graph_in z).child c.args.node) (sym (nodes c)) (rw (← c.self.view_is) at c.requires.unlinked)

put : (c : goal.After-self-3-1) → c.put_between.new.places ≡ put_between c.args.dir c.args.node c.args.label c.gap-prev.result.0 c.gap-prev.result.1 c.insert_hint-told.new.places
unfolding graph_of limit_of room
put c = (rw (c.get-7.ensures, c.get-8.ensures) at c.put_between.ensures) ∙ ap (put_between c.args.dir c.args.node c.args.label c.gap-prev.result.0 c.gap-prev.result.1) (c.deref_mut-3.ensures.value ∙ held_bared c.self.inside.places c.insert_hint-told.new.places (c.insert_hint-told.ensures ∙ ap bared c.deref_mut.ensures.value))

made : (c : goal.After-self-3-1) → (graph_of_places c.put_between.new.places ≡ linked_in c.args.dir c.args.label c.args.node (graph_of_places c.insert_hint-told.new.places)) × IsLinked c.self.inside.limit c.put_between.new.places c.self.inside.free
unfolding graph_of limit_of room
made c = linked_link c.self.inside.limit c.insert_hint-told.new.places c.put_between.new.places c.self.inside.free c.args.dir c.args.node c.args.label c.gap-prev.result.0 c.gap-prev.result.1 (before c)
    (subst (λ (z : List (Option Node)). IsTrue (is_dir ((graph_in z).shape c.args.dir))) (sym (nodes c)) (rw (← c.self.view_is) at c.requires.dir))
    (ap (λ (z : List (Option Node)). (graph_in z).child c.args.dir c.args.label) (nodes c) ∙ (rw (← c.self.view_is) at c.requires.absent))
    (used c) (unlinked c) c.requires.not_root
    (subst (λ (z : List (Option Node)). IsReached (graph_in z).child c.args.node c.args.dir → ⊥) (sym (nodes c)) (rw (← c.self.view_is) at c.requires.apart))
    (subst (λ (l : List Place). IsGap (graph_of_places l) c.args.dir c.args.label c.gap-prev.result.0 c.gap-prev.result.1) (c.deref-2.ensures.value ∙ held_bared c.self.inside.places c.insert_hint-told.new.places (c.insert_hint-told.ensures ∙ ap bared c.deref_mut.ensures.value)) (subst (λ (d : ℕ). IsGap (graph_of_places c.deref-2.result.now) d c.args.label c.gap-prev.result.0 c.gap-prev.result.1) c.get-4.ensures (rw c.name-name.ensures at c.gap-prev.ensures))) (put c)

many : (c : goal.After-self-3-1) → length c.put_between.new.places ≡ length c.self.inside.places.items
unfolding graph_of limit_of room
many c = ap length (put c) ∙ length_put c.args.dir c.args.node c.args.label c.gap-prev.result.0 c.gap-prev.result.1 c.insert_hint-told.new.places ∙ length_bared c.self.inside.places.items c.insert_hint-told.new.places (hinted c)

items : (c : goal.After-self-3-1) → (with_items (with_items c.self.inside.places c.insert_hint-told.new.places) c.put_between.new.places).items ≡ c.put_between.new.places
unfolding graph_of limit_of room
items c = with_items_is (with_items c.self.inside.places c.insert_hint-told.new.places) c.put_between.new.places (many c ∙ sym c.self.inside.places.ok.0)

slots : (c : goal.After-self-3-1) → (with_items c.self.inside.slots c.put.new.slots).items ≡ c.put.new.slots
unfolding graph_of limit_of room
slots c = with_items_is c.self.inside.slots c.put.new.slots (c.put.auto.slots ∙ ap length c.deref_mut-2.ensures.value ∙ sym c.self.inside.slots.ok.0)

index : (c : goal.After-self-3-1) → IsIndex c.put.new.slots (keys_of (plains c.put_between.new.places))
unfolding graph_of limit_of room
index c = index_linked c.deref_mut-2.result.now c.put.new.slots c.insert_hint-told.new.places c.put_between.new.places c.args.dir c.args.node c.args.label c.gap-prev.result.0 c.gap-prev.result.1 c.key.result (before c).places (used c) (unlinked c) (put c)
    (c.key.ensures ∙ ap₂ key_of c.get-5.ensures refl) (rw c.deref_mut-2.ensures.value (subst (λ (z : List (Option Node)). IsIndex c.self.inside.slots.items (keys_of z)) (sym (nodes c)) c.self.invariant.1)) (rw c.get-6.ensures at c.put.ensures)

pub invariant_of-self : goal.invariant_of-self
unfolding graph_of limit_of room
invariant_of-self c = (
  subst (λ (l : List Place). IsLinked c.self.inside.limit l c.self.inside.free) (sym (items c)) (made c).1,
  subst (λ (s : List Slot). IsIndex s (keys_of (plains (with_items (with_items c.self.inside.places c.insert_hint-told.new.places) c.put_between.new.places).items))) (sym (slots c)) (subst (λ (l : List Place). IsIndex c.put.new.slots (keys_of (plains l))) (sym (items c)) (index c)),
  subst (λ (l : List Place). HaveForm c.self.inside.in_blocks l) (sym (items c)) (form_put c.self.inside.in_blocks c.args.dir c.args.node c.args.label c.gap-prev.result.0 c.gap-prev.result.1 c.insert_hint-told.new.places c.put_between.new.places (put c) (form_bared c.self.inside.in_blocks c.self.inside.places.items c.insert_hint-told.new.places (hinted c) c.self.invariant.2)),
)

pub returns : goal.returns
unfolding graph_of limit_of room
returns c = rw (← c.self.view_is) (linked_seen c.self.inside.limit c.self.inside.places.items (with_items (with_items c.self.inside.places c.insert_hint-told.new.places) c.put_between.new.places).items (linked_in c.args.dir c.args.label c.args.node (graph_of_places c.self.inside.places.items)) (ap graph_of_places (items c) ∙ (made c).0 ∙ ap (λ (z : List (Option Node)). linked_in c.args.dir c.args.label c.args.node (graph_in z)) (nodes c)) (ap length (items c) ∙ many c))
