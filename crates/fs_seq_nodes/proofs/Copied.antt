-- Clones of nodes, each under its number, are the same graph.
use Rattle.std.proofs.Common.{◌≡◌, List, [], ◌∷◌, map, Some, None, Option, refl, ap, ap₂}
use Rattle.std.specs.Prelude.{Result, Ok, Err, IfOk}
use Rattle.std.specs.List.{AllZip}
use Rattle.slab.specs.Slab.{Slab, IsSlotClone, IsSlabClone}
use Rattle.fs_seq_nodes.specs.declared.nodes.Node.{Node}
use Rattle.fs_seq_nodes.specs.code.Slots.{Place}
use Rattle.fs_seq_nodes.specs.code.Nodes.{place, slot_place, graph}

-- a clone's place is that of the node
abbrev pub SamePlace : Node → Node → Type 0
SamePlace node copy = place copy ≡ place node

-- the same of a slot
same_slot : (slot copy : Option Node) → IsSlotClone SamePlace slot copy → slot_place copy ≡ slot_place slot
same_slot None copy e = ap slot_place e
same_slot (Some node) None h = absurd h
same_slot (Some node) (Some copy) h = ap (λ z. Some z) h

-- and of all of them
pub same_slots : (slots copies : List (Option Node)) → AllZip (IsSlotClone SamePlace) slots copies → map slot_place copies ≡ map slot_place slots
same_slots [] [] all = refl
same_slots [] (c ∷ copies) all = absurd all
same_slots (s ∷ slots) [] all = absurd all
same_slots (s ∷ slots) (c ∷ copies) all = ap₂ (λ (o : Option Place) (os : List (Option Place)). o ∷ os) (same_slot s c all.0) (same_slots slots copies all.1)

-- a slab that was cloned
pub same_copy : {E : Type 0} (s : Slab Node) (r : Result (Slab Node) E) → IfOk r (IsSlabClone SamePlace s) → IfOk r (λ copy. graph copy ≡ graph s)
same_copy s (Ok copy) h = same_slots s.slots copy.slots h.slots
same_copy s (Err e) h = tt
