-- Lists of numbers in order.
use Rattle.std.proofs.Common.{◌≡◌, ℕ, ◌+◌, true, false, cond, nat_lt, List, [], ◌∷◌, refl, ap, add-one}
use Rattle.std.specs.List.{insert}
use Rattle.fs_linearize_histories.specs.Configurations.{place_of, placed}

pub insert_placed : (c : ℕ) (xs : List ℕ) → insert xs (place_of c xs) c ≡ placed c xs
insert_placed c [] = refl
insert_placed c (d ∷ xs) =
    elim (nat_lt c d) as (λ b. insert (d ∷ xs) (cond b 0 (place_of c xs + 1)) c ≡ cond b (c ∷ d ∷ xs) (d ∷ placed c xs)) [
      | true ↦ refl
      | false ↦ rw add-one (ap (λ ys. d ∷ ys) (insert_placed c xs))
    ]
