-- Bytes put over others that were made long enough.
use Rattle.std.proofs.Common.{◌≡◌, ℕ, zero, suc, ◌+◌, ◌-◌, ◌≤◌, List, [], ◌∷◌, ◌++◌, length, take, drop, refl, sym, ap, ◌∙◌, arith, append-nil}
use Rattle.std.specs.Prelude.{replicate}
use Rattle.std.proofs.Math.Seq.{take-append_seam}
use Rattle.std.proofs.lemmas.List.{take-replicate, drop-replicate}
use Rattle.fs_calls.specs.Rows.{written}

-- a slice that was lent whole is what was written to it
pub written_whole : {A : Type 0} (n : ℕ) (xs ys : List A) → n ≡ length xs → take n (xs ++ drop (length xs) ys) ≡ xs
written_whole n xs ys e = ap (λ m. take m (xs ++ drop (length xs) ys)) e ∙ take-append_seam xs (drop (length xs) ys)

-- a front of nothing
take-nil : {A : Type 0} (n : ℕ) → take {A = A} n [] ≡ []
take-nil zero = refl
take-nil (suc n) = refl

-- the rest of nothing
drop-nil : {A : Type 0} (n : ℕ) → drop {A = A} n [] ≡ []
drop-nil zero = refl
drop-nil (suc n) = refl

-- the front of bytes that were made longer
pub front_grown : (old : List ℕ) (off m : ℕ) → off ≤ m → take off (old ++ replicate (m - length old) 0) ≡ take off old ++ replicate (off - length old) 0
front_grown [] off m h =
    take-replicate off (m - 0) 0 (omega arith) ∙ ap (λ n. replicate n 0) (let same : off ≡ off - 0 = omega arith in same) ∙ ap (λ z. z ++ replicate (off - 0) 0) (sym (take-nil off))
front_grown (b ∷ old) zero m h = ap (λ n. replicate n 0) (let none : 0 ≡ 0 - suc (length old) = omega arith in none)
front_grown (b ∷ old) (suc off) zero h = absurd (omega arith)
front_grown (b ∷ old) (suc off) (suc m) h =
    ap (λ n. b ∷ take off (old ++ replicate n 0)) (let less : suc m - suc (length old) ≡ m - length old = omega arith in less)
    ∙ ap (λ z. b ∷ z) (front_grown old off m (omega arith))
    ∙ ap (λ n. b ∷ (take off old ++ replicate n 0)) (let less : off - length old ≡ suc off - suc (length old) = omega arith in less)

-- what lies past the end of bytes that were made longer
back_grown : (old : List ℕ) (m : ℕ) → drop m (old ++ replicate (m - length old) 0) ≡ drop m old
back_grown [] m = drop-replicate m (m - 0) 0 ∙ ap (λ n. replicate n 0) (let none : (m - 0) - m ≡ 0 = omega arith in none) ∙ sym (drop-nil m)
back_grown (b ∷ old) zero = ap (λ n. (b ∷ old) ++ replicate n 0) (let none : 0 - suc (length old) ≡ 0 = omega arith in none) ∙ append-nil (b ∷ old)
back_grown (b ∷ old) (suc m) = ap (λ n. drop m (old ++ replicate n 0)) (let less : suc m - suc (length old) ≡ m - length old = omega arith in less) ∙ back_grown old m

-- bytes put over what was made long enough are what is written
pub overwritten : (old grown : List ℕ) (off : ℕ) (bytes : List ℕ) → grown ≡ old ++ replicate ((off + length bytes) - length old) 0
    → take off grown ++ bytes ++ drop (off + length bytes) grown ≡ written old off bytes
overwritten old grown off bytes e =
    ap (λ z. take off z ++ bytes ++ drop (off + length bytes) z) e
    ∙ (λ i. front_grown old off (off + length bytes) (omega arith) i ++ bytes ++ back_grown old (off + length bytes) i)
