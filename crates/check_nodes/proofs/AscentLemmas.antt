-- The way up from a directory, by which it is seen that a node does not lead to it.
use Rattle.std.proofs.Common.{◌≡◌, ℕ, [], ◌∷◌, Option, Some, None, ◌⊎◌, inl, inr, refl, ap, subst, ◌∙◌, false, nat_eq, arith}
use Rattle.fs_names.specs.Names.{Name}
use Rattle.fs_names.specs.Keys.{Key}
use Rattle.fs_nodes.specs.Graphs.{Children, then_at, at, IsReached}
use Rattle.fs_nodes.specs.Seen.{Seen, IsReal}
use Rattle.fs_nodes.specs.Stores.{IsUnlinked, IsParent}

-- an entry that names a node, of a directory to which another node leads
record Last (child : Children) (n m : ℕ) : Type 0 where
  dir : ℕ
  name : Name
  reached : IsReached child n dir
  named : child dir name ≡ Some m

-- a way goes nowhere, or by such an entry
last_step : (child : Children) (n m : ℕ) (key : Key) → at child n key ≡ Some m → (n ≡ m) ⊎ Last child n m
last_step child n m [] e = inl (cc)
last_step child n m (y ∷ key) e = go (child n y) refl e (λ k h. last_step child k m key h)
  where
    by : (k : ℕ) → child n y ≡ Some k → (k ≡ m) ⊎ Last child k m → Last child n m
    by k f (inl same) = record { dir = n; name = y; reached = ([], refl); named = f ∙ ap (λ (z : ℕ). Some z) same }
    by k f (inr l) = record { dir = l.dir; name = l.name; reached = (y ∷ l.reached.0, ap (λ (o : Option ℕ). then_at o (λ z. at child z l.reached.0)) f ∙ l.reached.1); named = l.named }

    go : (o : Option ℕ) → child n y ≡ o → then_at o (λ k. at child k key) ≡ Some m → ((k : ℕ) → at child k key ≡ Some m → (k ≡ m) ⊎ Last child k m) → (n ≡ m) ⊎ Last child n m
    go None f g rest = absurd (cc)
    go (Some k) f g rest = inr (by k f (rest k g))

-- what leads to a node leads to its parent
pub reaches_up : (store : Seen) → IsReal store → (n m d : ℕ) → IsParent store.graph.child m d → (m ≡ n → ⊥) → IsReached store.graph.child n m → IsReached store.graph.child n d
reaches_up store real n m d (x, f) other (key, e) = go (last_step store.graph.child n m key e)
  where
    go : (n ≡ m) ⊎ Last store.graph.child n m → IsReached store.graph.child n d
    go (inl same) = absurd (other (cc))
    go (inr l) = subst (IsReached store.graph.child n) (real.one_name l.dir d m l.name x l.named f).0 l.reached

-- nothing else leads to a node that no entry names
pub never_reached : (child : Children) (n m : ℕ) → IsUnlinked child m → (m ≡ n → ⊥) → IsReached child n m → ⊥
never_reached child n m loose other (key, e) = go (last_step child n m key e)
  where
    go : (n ≡ m) ⊎ Last child n m → ⊥
    go (inl same) = other (cc)
    go (inr l) = loose l.dir l.name l.named

-- numbers of which the test says that they differ
pub differ_by : (n m : ℕ) → false ≡ nat_eq n m → n ≡ m → ⊥
differ_by n m e f = grind arith
