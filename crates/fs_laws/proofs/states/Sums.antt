-- Sums of a function over the calls' numbers.
use Rattle.std.proofs.Common.{◌≡◌, ℕ, zero, suc, ◌+◌, ◌≤◌, ap, ap₂, ◌∙◌, ◌⊎◌, inl, inr, arith}
use Rattle.fs_laws.specs.StepsLeft.{total}
use Rattle.fs_laws.proofs.helping.WhomToHelp.{up_to}

-- sums of two functions that differ at one number, or nowhere
pub total_same : (f g : ℕ → ℕ) (n : ℕ) → ((c : ℕ) → c ≤ n → f c ≡ g c) → total f n ≡ total g n
total_same f g zero h = h 0 (omega arith)
total_same f g (suc n) h = ap₂ (λ (a b : ℕ). a + b) (total_same f g n (λ c i. h c (omega (arith, i)))) (h (suc n) (omega arith))

pub total_one : (f g : ℕ → ℕ) (c n : ℕ) → c ≤ n → ((d : ℕ) → (d ≡ c → ⊥) → f d ≡ g d) → total f n + g c ≡ total g n + f c
total_one f g c zero i h = let z : c ≡ 0 = omega (arith, i) in let a : g c ≡ g 0 = ap g z in let b : f c ≡ f 0 = ap f z in omega (arith, a, b)
total_one f g c (suc n) i h = go (up_to c n i) (total_one f g c n)
  where
    here : c ≡ suc n → total f n ≡ total g n
    here e = total_same f g n (λ d j. h d (λ k. (let z : d ≡ suc n = k ∙ e in omega (arith, z, j))))

    go : (c ≡ suc n) ⊎ (c ≤ n) → (c ≤ n → ((d : ℕ) → (d ≡ c → ⊥) → f d ≡ g d) → total f n + g c ≡ total g n + f c) → (total f n + f (suc n)) + g c ≡ (total g n + g (suc n)) + f c
    go (inl e) rest = let a : total f n ≡ total g n = here e in let b : f c ≡ f (suc n) = ap f e in let d : g c ≡ g (suc n) = ap g e in omega (arith, a, b, d)
    go (inr k) rest =
        let a : total f n + g c ≡ total g n + f c = rest k h in
        let b : f (suc n) ≡ g (suc n) = h (suc n) (λ e. (let z : suc n ≡ c = e in omega (arith, z, k))) in
        omega (arith, a, b)
