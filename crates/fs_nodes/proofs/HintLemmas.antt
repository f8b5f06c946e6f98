-- What is told of the tree beside the siblings: a step along it says nothing to the rest.
use Rattle.std.proofs.Common.{◌≡◌, ◌≤◌, ℕ, List, Option, Some, None, map, length, option_map, Vec, refl, sym, ap, subst, ◌∙◌}
use Rattle.std.specs.Prelude.{slice_get}
use Rattle.std.proofs.lemmas.Option.{slice_get-map}
use Rattle.std.specs.Vec.{with_items}
use Rattle.std.proofs.lemmas.List.{length-map, with_items_is}
use Rattle.std.proofs.lemmas.Simd.{map-map}
use Rattle.fs_names.specs.declared.limits.TheConstants.{NODE_LIMIT}
use Rattle.fs_nodes_places.specs.declared.node.Node.{Node}
use Rattle.fs_nodes_places.specs.declared.place.Place.{Place}
use Rattle.fs_calls.specs.Graphs.{then_at}
use Rattle.fs_nodes_places.specs.Stores.{graph_in, IsStore}
use Rattle.fs_nodes_places.specs.Plains.{plain, plains}
use Rattle.fs_nodes.specs.code.Linked.{graph_of_places, IsIndexed, bare, bared}
use Rattle.fs_nodes.specs.code.Frees.{is_free, IsLinked}
use Rattle.fs_nodes.proofs.FreeLemmas.{list_kept}

-- there are as many places
pub length_bared : (ps qs : List Place) → bared qs ≡ bared ps → length qs ≡ length ps
length_bared ps qs e = sym (length-map qs bare) ∙ ap length e ∙ length-map ps bare

-- so they are what a vector holds then
pub held_bared : {Z : Type 0} (v : Vec Place Z) (qs : List Place) → bared qs ≡ bared v.items → (with_items v qs).items ≡ qs
held_bared v qs e = with_items_is v qs (length_bared v.items qs e ∙ sym v.ok.0)

-- the nodes are the same
pub plains_bared : (ps qs : List Place) → bared qs ≡ bared ps → plains qs ≡ plains ps
plains_bared ps qs e = sym (map-map plain bare qs) ∙ ap (map plain) e ∙ map-map plain bare ps

-- a place, and what it was
place_bared : (ps qs : List Place) (n : ℕ) (q : Place) → bared qs ≡ bared ps → slice_get qs n ≡ Some q → (p : Place) × (slice_get ps n ≡ Some p) × (bare q ≡ bare p)
place_bared ps qs n q e f = go (slice_get ps n) refl (sym (slice_get-map bare ps n) ∙ ap (λ (l : List Place). slice_get l n) (sym e) ∙ slice_get-map bare qs n ∙ ap (option_map bare) f)
  where
    go : (o : Option Place) → slice_get ps n ≡ o → option_map bare o ≡ Some (bare q) → (p : Place) × (slice_get ps n ≡ Some p) × (bare q ≡ bare p)
    go None g h = absurd (cc)
    go (Some p) g h = let k : bare p ≡ bare q = cc in (p, g, sym k)

-- where the places lead
next_bared : (ps qs : List Place) (n : ℕ) → bared qs ≡ bared ps → then_at (slice_get qs n) (λ p. p.next) ≡ then_at (slice_get ps n) (λ p. p.next)
next_bared ps qs n e = sym (same (slice_get qs n)) ∙ ap (λ (o : Option Place). then_at o (λ p. p.next)) (sym (slice_get-map bare qs n) ∙ ap (λ (l : List Place). slice_get l n) e ∙ slice_get-map bare ps n) ∙ same (slice_get ps n)
  where
    same : (o : Option Place) → then_at (option_map bare o) (λ p. p.next) ≡ then_at o (λ p. p.next)
    same None = refl
    same (Some p) = refl

-- and the store keeps what it kept
pub linked_bared : (limit : ℕ) (ps qs : List Place) (free : Option ℕ) → bared qs ≡ bared ps → IsLinked limit ps free → IsLinked limit qs free
linked_bared limit ps qs free e s = record {
  most = s.most;
  within = subst (λ (n : ℕ). n ≤ limit) (sym (length_bared ps qs e)) s.within;
  places = record {
    store = subst (IsStore NODE_LIMIT) (sym same) s.places.store;
    each = λ m q g. subst (λ (z : List (Option Node)). IsIndexed (graph_in z) m q) (sym same) (each m q (place_bared ps qs m q e g));
  };
  list = list_kept ps qs free (λ k h. next_bared ps qs k e) (λ k. ap (λ (z : List (Option Node)). is_free (slice_get z k)) same) s.list;
}
  where
    same : plains qs ≡ plains ps
    same = plains_bared ps qs e

    by : (m : ℕ) (p : Place) → IsIndexed (graph_of_places ps) m p → IsIndexed (graph_of_places ps) m (bare p)
    by m p i = record {
      entries = i.entries;
      first = i.first;
      beside = i.beside;
    }

    back : (m : ℕ) (q : Place) → IsIndexed (graph_of_places ps) m (bare q) → IsIndexed (graph_of_places ps) m q
    back m q i = record {
      entries = i.entries;
      first = i.first;
      beside = i.beside;
    }

    each : (m : ℕ) (q : Place) → (p : Place) × (slice_get ps m ≡ Some p) × (bare q ≡ bare p) → IsIndexed (graph_of_places ps) m q
    each m q r = back m q (subst (IsIndexed (graph_of_places ps) m) (sym r.2) (by m r.0 (s.places.each m r.0 r.1)))
