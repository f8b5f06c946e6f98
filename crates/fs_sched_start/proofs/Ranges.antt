-- One more number of a range, and its line.
use Rattle.std.proofs.Common.{◌≡◌, ℕ, zero, suc, ◌+◌, List, [], ◌∷◌, ◌++◌, sym, ap, ◌∙◌, append-nil, arith}
use Rattle.std.specs.List.{flat_map, range_with_len}
use Rattle.std.proofs.lemmas.Grind.{flat_map-append}

range_last : (a n : ℕ) → range_with_len a (suc n) ≡ range_with_len a n ++ (a + n) ∷ []
range_last a zero = let same : a ≡ a + 0 = omega arith in ap (λ k. k ∷ []) same
range_last a (suc n) = let same : (a + 1) + n ≡ a + suc n = omega arith in ap (λ l. a ∷ l) (range_last (a + 1) n ∙ ap (λ k. range_with_len (a + 1) n ++ k ∷ []) same)

-- the lines with the next one
pub lines_more : (line : ℕ → List ℕ) (seed run : ℕ) (lines more : List ℕ) → lines ≡ flat_map line (range_with_len seed run) → more ≡ lines ++ line (seed + run) → more ≡ flat_map line (range_with_len seed (run + 1))
lines_more line seed run lines more e m =
    let on : run + 1 ≡ suc run = omega arith in
    let one : flat_map line ((seed + run) ∷ []) ≡ line (seed + run) = append-nil (line (seed + run)) in
    m ∙ ap (λ l. l ++ line (seed + run)) e ∙ sym (ap (flat_map line) (ap (range_with_len seed) on ∙ range_last seed run) ∙ flat_map-append line (range_with_len seed run) ((seed + run) ∷ []) ∙ ap (λ l. flat_map line (range_with_len seed run) ++ l) one)
