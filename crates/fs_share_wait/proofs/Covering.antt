-- What the queues note once one of them has changed.
use Rattle.std.proofs.Common.{◌≡◌, ℕ, zero, suc, ◌<◌, ◌%◌, Bool, true, false, eqb, List, [], ◌∷◌, Some, length, slice_get, set, refl, sym, ap, subst, ◌∙◌, arith}
use Rattle.std.proofs.lemmas.Bool.{eqb-true, eq-eqb}
use Rattle.std.proofs.lemmas.Option.{slice_get_within}
use Rattle.fs_share_wait.specs.declared.sleepers.Queue.{Queue}
use Rattle.fs_share_wait.specs.declared.sleepers.Wake.{Wake}
use Rattle.fs_share_wait.specs.Sleeping.{Notes, Covers, one_more, less, woken_for}

-- what is read where it was written
get_same : (xs : List Queue) (i : ℕ) (v : Queue) → i < length xs → slice_get (set xs i v) i ≡ Some v
get_same [] i v h = absurd (omega arith)
get_same (x ∷ xs) zero v h = refl
get_same (x ∷ xs) (suc i) v h = get_same xs i v (omega arith)

-- what is read elsewhere
get_other : (xs : List Queue) (i j : ℕ) (v : Queue) → (j ≡ i → ⊥) → slice_get (set xs i v) j ≡ slice_get xs j
get_other [] i j v h = refl
get_other (x ∷ xs) zero zero v h = absurd (h refl)
get_other (x ∷ xs) zero (suc j) v h = refl
get_other (x ∷ xs) (suc i) zero v h = refl
get_other (x ∷ xs) (suc i) (suc j) v h = get_other xs i j v (λ e. h (ap suc e))

-- one queue is another, in which each of its nodes has its sleepers; those of other queues have as many as before
pub covers_set : (queues : List Queue) (q : ℕ) (old new : Queue) (before after : ℕ → ℕ) → Covers queues before → slice_get queues q ≡ Some old
    → ((node : ℕ) → node % 64 ≡ q → Notes old node (before node) → Notes new node (after node))
    → ((node : ℕ) → (node % 64 ≡ q → ⊥) → after node ≡ before node)
    → Covers (set queues q new) after
covers_set queues q old new before after covers at here others node queue found = go (eqb (node % 64) q) refl
  where
    go : (b : Bool) → eqb (node % 64) q ≡ b → Notes queue node (after node)
    go true e =
        let is : node % 64 ≡ q = eqb-true (node % 64) q e in
        let same : Some new ≡ Some queue = sym (get_same queues q new (slice_get_within queues q old at)) ∙ ap (slice_get (set queues q new)) (sym is) ∙ found in
        let new_is : new ≡ queue = cc in
        subst (λ (w : Queue). Notes w node (after node)) new_is (here node is (covers node old (ap (slice_get queues) is ∙ at)))
    go false e =
        let apart : node % 64 ≡ q → ⊥ = λ is. (let z : true ≡ false = sym (eq-eqb (node % 64) q is) ∙ e in cc) in
        subst (Notes queue node) (sym (others node apart)) (covers node queue (sym (get_other queues q (node % 64) new apart) ∙ found))

-- one more for a node changes nothing of another
pub one_more_elsewhere : (node other slept : ℕ) → (other ≡ node → ⊥) → one_more node other slept ≡ slept
one_more_elsewhere node other slept apart = go (eqb other node) refl
  where
    go : (b : Bool) → eqb other node ≡ b → one_more node other slept ≡ slept
    go true e = absurd (apart (eqb-true other node e))
    go false e = rw e

-- of a node's own queue as many are left as the wake-up says
pub woken_here : (wake : Wake) (node other : ℕ) (sleeping : ℕ → ℕ) → other % 64 ≡ node % 64 → woken_for wake node sleeping other ≡ less wake node other (sleeping other)
woken_here wake node other sleeping is = rw (eq-eqb (other % 64) (node % 64) is)

-- and of other queues all
pub woken_elsewhere : (wake : Wake) (node other : ℕ) (sleeping : ℕ → ℕ) → (other % 64 ≡ node % 64 → ⊥) → woken_for wake node sleeping other ≡ sleeping other
woken_elsewhere wake node other sleeping apart = go (eqb (other % 64) (node % 64)) refl
  where
    go : (b : Bool) → eqb (other % 64) (node % 64) ≡ b → woken_for wake node sleeping other ≡ sleeping other
    go true e = absurd (apart (eqb-true (other % 64) (node % 64) e))
    go false e = rw e
