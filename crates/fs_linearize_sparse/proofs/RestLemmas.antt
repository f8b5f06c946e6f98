-- Two files, compared from their first byte on.
use Rattle.std.proofs.Common.{◌≡◌, ℕ, ◌-◌, List, ◌++◌, length, length-drop, take, drop, sym, ap, ◌∙◌}
use Rattle.std.proofs.lemmas.List.{take-append-drop}

-- lists that begin with the same and go on with the same
pub parts_same : (count : ℕ) (x y p q v w : List ℕ) → p ≡ take count x → q ≡ take count y → p ≡ q → v ≡ drop count x → w ≡ drop count y → v ≡ w → x ≡ y
parts_same count x y p q v w front front' same rest rest' later =
    sym (take-append-drop count x)
    ∙ ap (λ (z : List ℕ). z ++ drop count x) (sym front ∙ same ∙ front')
    ∙ ap (λ (z : List ℕ). take count y ++ z) (sym rest ∙ later ∙ rest')
    ∙ take-append-drop count y

pub rests_same : (count : ℕ) (x y v w : List ℕ) → v ≡ drop count x → w ≡ drop count y → x ≡ y → v ≡ w
rests_same count x y v w rest rest' same = rest ∙ ap (drop count) same ∙ sym rest'

pub rest_len : (count n : ℕ) (l x v : List ℕ) → x ≡ l → v ≡ drop count x → length l ≡ n → length v ≡ n - count
rest_len count n l x v same rest long = ap length rest ∙ length-drop count x ∙ ap (λ k. k - count) (ap length same ∙ long)
