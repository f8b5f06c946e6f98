-- Quotients by a product with a reciprocal that is rounded down.
use Rattle.std.proofs.Common.{◌≡◌, ℕ, zero, suc, ◌+◌, ◌-◌, ◌*◌, ◌/◌, ◌%◌, ◌^◌, ◌<◌, ◌≤◌, ap, ap₂, sym, ◌∙◌, arith}
use Rattle.std.proofs.Math.Nat.{mul-le-mul, mul-le-mul_left, mul-le-mul_right, mod-lt, div-add-mod}
use Rattle.std.proofs.lemmas.Nat.{div-mul-add, div-add-mod', le-div}

-- what the rounding takes off is not more than what is there
taken_off : (q d r m s : ℕ) → s < d → (0 < q → q * d ≤ m) → q * (s + 1) ≤ (r + 1) * m
taken_off zero d r m s below within = omega arith
taken_off (suc q) d r m s below within =
    let a : suc q * (s + 1) ≤ suc q * d = mul-le-mul_left (suc q) (omega arith) in
    let b : suc q * d ≤ m = within (omega arith) in
    let c : m ≤ (r + 1) * m = omega arith in
    omega (arith, a, b, c)

-- a word and a top, each as a quotient and a rest
in_parts : (q d r m s : ℕ) → r < d → q * (s + 1) ≤ (r + 1) * m → (q * d + r + 1) * m / (d * m + s + 1) ≡ q
in_parts q d r m s below off =
    let left : (q * d + r + 1) * m ≡ q * (d * m + s + 1) + ((r + 1) * m - q * (s + 1)) = omega (arith, off) in
    let most : (r + 1) * m ≤ d * m = mul-le-mul_right m (omega arith) in
    let fits : (r + 1) * m - q * (s + 1) < d * m + s + 1 = omega (arith, most) in
    ap (λ (n : ℕ). n / (d * m + s + 1)) left ∙ div-mul-add q (d * m + s + 1) ((r + 1) * m - q * (s + 1)) fits

-- where the number goes into the word, the word is not above the reciprocal
reaches : (top d a : ℕ) → 0 < d → a * a ≤ top → 0 < a / d → a / d * d ≤ top / d
reaches top d a some small goes =
    let most : a / d * d ≤ a = omega (arith, div-add-mod' a d) in
    let once : 1 * d ≤ a / d * d = mul-le-mul_right d goes in
    let product : a * d ≤ a * a = mul-le-mul_left a (omega (arith, most, once)) in
    let above : a ≤ top / d = le-div a top d some (omega (arith, product, small)) in
    omega (arith, most, above)

pub quotient_by_reciprocal : (top number word : ℕ) → 0 < number → word * word ≤ top → (word + 1) * (top / number) / (top + 1) ≡ word / number
quotient_by_reciprocal top d a some small =
    ap₂ (λ (x y : ℕ). (x + 1) * (top / d) / (y + 1)) (sym (div-add-mod' a d)) (sym (div-add-mod top d))
    ∙ in_parts (a / d) d (a % d) (top / d) (top % d) (mod-lt a some) (taken_off (a / d) d (a % d) (top / d) (top % d) (mod-lt top some) (reaches top d a some small))

pub short_word : (word : ℕ) → word < 2 ^ 32 → word * word ≤ 2 ^ 64 - 1
short_word word short =
    let most : word ≤ 2 ^ 32 - 1 = omega (arith, short) in
    let product : word * word ≤ (2 ^ 32 - 1) * (2 ^ 32 - 1) = mul-le-mul most most in
    omega (arith, product)
