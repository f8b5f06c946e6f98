-- The free places of a store, as a list.
use Rattle.std.specs.Prelude.{ℕ, ◌≡◌, ◌≤◌, Bool, true, false, eqb, if◌then◌else◌, List, [], ◌∷◌, Option, Some, None, length, slice_get}
use Rattle.fs_names.specs.declared.limits.TheConstants.{NODE_LIMIT}
use Rattle.fs_nodes_places.specs.declared.node.Node.{Node}
use Rattle.fs_nodes_places.specs.declared.place.Place.{Place}
use Rattle.fs_calls.specs.Graphs.{then_at}
use Rattle.fs_nodes_places.specs.Plains.{plains}
use Rattle.fs_nodes.specs.code.Linked.{IsPlaces}

-- whether a number is in a list
abbrev pub is_in_list : ℕ → List ℕ → Bool
is_in_list n [] = false
is_in_list n (k ∷ ks) = if eqb n k then true else is_in_list n ks

-- each number of a list is there once
abbrev pub IsApart : List ℕ → Type 0
IsApart [] = Unit {0}
IsApart (k ∷ ks) = (is_in_list k ks ≡ false) × IsApart ks

-- a place without a node
abbrev pub is_free : Option (Option Node) → Bool
is_free None = false
is_free (Some None) = true
is_free (Some (Some node)) = false

-- where a place leads
abbrev pub next_at : List Place → ℕ → Option ℕ
next_at ps n = then_at (slice_get ps n) (λ p. p.next)

-- the numbers that are met from one on
abbrev pub IsChain : List Place → Option ℕ → List ℕ → Type 0
IsChain ps head [] = head ≡ None
IsChain ps head (n ∷ ns) = (head ≡ Some n) × IsChain ps (next_at ps n) ns

-- the free places are a list that begins here
pub record IsFreeList (ps : List Place) (head : Option ℕ) : Type 0 where
  pub frees : List ℕ
  pub chain : IsChain ps head frees
  pub apart : IsApart frees
  pub all : (n : ℕ) → is_in_list n frees ≡ is_free (slice_get (plains ps) n)

-- what a store keeps
pub record IsLinked (limit : ℕ) (ps : List Place) (free : Option ℕ) : Type 0 where
  pub most : limit ≤ NODE_LIMIT
  pub within : length ps ≤ limit
  pub places : IsPlaces ps
  pub list : IsFreeList ps free
