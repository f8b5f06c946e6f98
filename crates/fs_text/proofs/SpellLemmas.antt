-- A word whose bytes were looked at one by one.
use Rattle.std.proofs.Common.{◌≡◌, ℕ, suc, List, [], ◌∷◌, length, get_or, refl, ap, arith, ◌∙◌}

-- these bytes stand from this place on
abbrev pub StandsFrom : ℕ → List ℕ → List ℕ → Type 0
StandsFrom k word [] = Unit {0}
StandsFrom k word (b ∷ bs) = (get_or word k 0 ≡ b) × StandsFrom (suc k) word bs

behind_first : (k first : ℕ) (rest text : List ℕ) → StandsFrom (suc k) (first ∷ rest) text → StandsFrom k rest text
behind_first k first rest [] stands = tt
behind_first k first rest (b ∷ bs) stands = (stands.0, behind_first (suc k) first rest bs stands.1)

-- a word as long as a text, at whose places the bytes of the text stand, is that text
pub spelled : (word text : List ℕ) → length word ≡ length text → StandsFrom 0 word text → word ≡ text
spelled [] [] long stands = refl
spelled [] (b ∷ bs) long stands = absurd (omega arith)
spelled (a ∷ rest) [] long stands = absurd (omega arith)
spelled (a ∷ rest) (b ∷ bs) long stands = ap (λ x. x ∷ rest) stands.0 ∙ ap (λ xs. b ∷ xs) (spelled rest bs (omega arith) (behind_first 0 a rest bs stands.1))
