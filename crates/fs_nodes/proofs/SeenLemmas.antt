-- What is seen of places with sibling links.
use Rattle.std.proofs.Common.{◌≡◌, ℕ, ◌≤◌, Bool, List, length, Option, sym, ◌∙◌, subst}
use Rattle.fs_names.specs.declared.limits.TheConstants.{NODE_LIMIT}
use Rattle.fs_nodes_places.specs.declared.place.Place.{Place}
use Rattle.fs_calls.specs.Graphs.{Graph}
use Rattle.fs_nodes_places.specs.Plains.{plain, plains}
use Rattle.fs_nodes.specs.code.Linked.{graph_of_places}
use Rattle.fs_nodes.specs.code.Frees.{IsLinked}
use Rattle.std.proofs.lemmas.List.{length-map}
use Rattle.fs_nodes_places.specs.Seen.{seen, IsReal}
use Rattle.fs_nodes_places.proofs.RealLemmas.{seen_by, real_of}

-- what is seen of places that have changed
pub linked_seen : {b : Bool} (limit : ℕ) (ps qs : List Place) (graph : Graph) → graph_of_places qs ≡ graph → length qs ≡ length ps → seen (record { limit = limit; in_blocks = b; places = plains qs }) ≡ record { graph = graph; limit = limit; room = length (plains ps); in_blocks = b }
linked_seen limit ps qs graph e f = seen_by limit (length (plains ps)) (plains qs) graph e (length-map qs plain ∙ f ∙ sym (length-map ps plain))

pub linked_real : {b : Bool} (limit : ℕ) (ps : List Place) (free : Option ℕ) → IsLinked limit ps free → IsReal (seen (record { limit = limit; in_blocks = b; places = plains ps }))
linked_real limit ps free store = real_of NODE_LIMIT limit (plains ps) store.places.store (subst (λ (n : ℕ). n ≤ limit) (sym (length-map ps plain)) store.within)
