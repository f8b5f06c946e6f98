-- What is told of the tree beside the entries of a directory.
use Rattle.std.proofs.Common.{◌≡◌, ℕ, zero, suc, List, [], ◌∷◌, set, get_or, refl, ap}
use Rattle.fs_nodes_places.specs.declared.place.Place.{Place}
use Rattle.fs_nodes_places.specs.code.Hints.{bare, bared}

-- a place whose ways along the tree lead elsewhere
pub bared_set : (ps : List Place) (n : ℕ) (p q : Place) → bare q ≡ bare (get_or ps n p) → bared (set ps n q) ≡ bared ps
bared_set [] n p q g = refl
bared_set (r ∷ ps) zero p q g = ap (λ (z : Place). z ∷ bared ps) g
bared_set (r ∷ ps) (suc n) p q g = ap (λ (l : List Place). bare r ∷ l) (bared_set ps n p q g)
