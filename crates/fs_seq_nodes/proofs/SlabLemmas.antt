-- What becomes of the graph when a node of the slab is written, added or removed.
use Rattle.std.proofs.Common.{◌≡◌, ◌≢◌, ℕ, zero, suc, List, [], ◌∷◌, map, get_or, Some, None, Option, refl, sym, ap, subst, ◌∙◌}
use Rattle.std.specs.Prelude.{insert, slice_set}
use Rattle.slab.specs.Slab.{Slab, get, with_value, Updates}
use Rattle.fs_blocks.specs.Files.{FileValue}
use Rattle.fs_names.specs.Names.{Name}
use Rattle.fs_seq_nodes.specs.declared.nodes.Link.{Link}
use Rattle.fs_seq_nodes.specs.declared.nodes.Node.{Node}
use Rattle.fs_seq_nodes.specs.code.Slots.{Place, Dir, File, place_at, links_at, Sets, Attaches}
use Rattle.fs_seq_nodes.specs.code.Nodes.{pairs, place, slot_place, graph}
use Rattle.fs_seq_nodes.proofs.NodeLemmas.{place_of_slot, place_got, place_missing, links_got}
pub use Rattle.fs_seq_nodes.proofs.LinkLemmas.{pairs-insert, pairs-remove}

-- a slot that was written
slot_here : (slots : List (Option Node)) (n : ℕ) (old node : Node) → get_or slots n None ≡ Some old → get_or (slice_set slots n (Some node)) n None ≡ Some node
slot_here [] zero old node e = absurd (cc)
slot_here [] (suc n) old node e = absurd (cc)
slot_here (s ∷ slots) zero old node e = refl
slot_here (s ∷ slots) (suc n) old node e = slot_here slots n old node e

-- all other slots
slot_elsewhere : (slots : List (Option Node)) (n j : ℕ) (o : Option Node) → j ≢ n → get_or (slice_set slots n o) j None ≡ get_or slots j None
slot_elsewhere [] n j o ne = refl
slot_elsewhere (s ∷ slots) zero zero o ne = absurd (ne refl)
slot_elsewhere (s ∷ slots) zero (suc j) o ne = refl
slot_elsewhere (s ∷ slots) (suc n) zero o ne = refl
slot_elsewhere (s ∷ slots) (suc n) (suc j) o ne = slot_elsewhere slots n j o (λ e. ne (ap suc e))

-- a node that is written
pub sets_value : (s : Slab Node) (n : ℕ) (old node : Node) (new : Place) → get s n ≡ Some old → place node ≡ new → Sets (graph s) (graph (with_value s n node)) n (Some new)
sets_value s n old node new e f = record {
  here = place_of_slot (slice_set s.slots n (Some node)) n ∙ ap slot_place (slot_here s.slots n old node e) ∙ ap (λ z. Some z) f;
  elsewhere = λ j ne. place_of_slot (slice_set s.slots n (Some node)) j ∙ ap slot_place (slot_elsewhere s.slots n j (Some node) ne) ∙ sym (place_of_slot s.slots j);
}

-- slots written as they were
same_slots : (slots : List (Option Node)) (n : ℕ) (old node : Node) → get_or slots n None ≡ Some old → place node ≡ place old → map slot_place (slice_set slots n (Some node)) ≡ map slot_place slots
same_slots [] zero old node e f = refl
same_slots [] (suc n) old node e f = refl
same_slots (s ∷ slots) zero old node e f = ap (λ z. z ∷ map slot_place slots) (ap (λ z. Some z) f ∙ sym (ap slot_place e))
same_slots (s ∷ slots) (suc n) old node e f = ap (λ z. slot_place s ∷ z) (same_slots slots n old node e f)

-- a node that is written as it was
pub same_graph : (s : Slab Node) (n : ℕ) (old node : Node) → get s n ≡ Some old → place node ≡ place old → graph (with_value s n node) ≡ graph s
same_graph s n old node e f = same_slots s.slots n old node e f

-- a node that is added or removed
pub sets_slot : (s t : Slab Node) (n : ℕ) (o : Option Node) → Updates s t n o → Sets (graph s) (graph t) n (slot_place o)
sets_slot s t n o updates = record {
  here = place_of_slot t.slots n ∙ ap slot_place updates.changed;
  elsewhere = λ j ne. place_of_slot t.slots j ∙ ap slot_place (updates.others j ne) ∙ sym (place_of_slot s.slots j);
}

-- a place that is one is one
some_place : (P Q : Place) → Some P ≡ Some Q → P ≡ Q
some_place P Q e = cc

-- the links of a directory that was read are those of its place
pub links_read : (s : Slab Node) (n : ℕ) (node : Node) (links : List Link) → get s n ≡ Some node → place node ≡ Dir (pairs links) → links_at (graph s) n ≡ pairs links
links_read s n node links e f = links_got (graph s) n _ (place_got s n node e ∙ ap (λ z. Some z) f)

-- a directory is no file
pub dir_not_file : (s : Slab Node) (n : ℕ) (node : Node) (links : List (Name × ℕ)) (file : FileValue) → place_at (graph s) n ≡ Some (Dir links) → get s n ≡ Some node → place node ≡ File file → ⊥
dir_not_file s n node links file at e f =
    let other : Some (Dir links) ≡ Some (File file) = sym at ∙ place_got s n node e ∙ ap (λ z. Some z) f in cc

-- an entry and then a node are added, both under a number that was free
pub attaches : (s0 s1 s2 s3 : Slab Node) (dir i key : ℕ) (x y : Name) (node : Node) → graph s1 ≡ graph s0 → get s1 key ≡ None → y ≡ x → Sets (graph s1) (graph s2) dir (Some (Dir (insert (links_at (graph s1) dir) i (y, key)))) → Updates s2 s3 key (Some node)
    → Attaches (graph s0) (graph s3) dir i x (place node)
attaches s0 s1 s2 s3 dir i key x y node same free named linking adding = record {
  number = key;
  between = graph s2;
  free = ap (λ g. place_at g key) (sym same) ∙ place_missing s1 key free;
  linking = subst (λ g. Sets g (graph s2) dir (Some (Dir (insert (links_at g dir) i (x, key))))) same (subst (λ z. Sets (graph s1) (graph s2) dir (Some (Dir (insert (links_at (graph s1) dir) i (z, key))))) named linking);
  adding = sets_slot s2 s3 key (Some node) adding;
}
