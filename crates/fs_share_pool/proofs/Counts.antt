-- Counts of answers.
use Rattle.std.proofs.Common.{◌≡◌, add-one, ℕ, zero, suc, ◌+◌, List, [], ◌∷◌, ◌++◌, length, refl, ap, sym, ◌∙◌, arith, ◌==◌, nat_lt, if◌then◌else◌}
use Rattle.std.proofs.lemmas.Grind.{common_steps}
use Rattle.std.specs.Prelude.{IsPermutation}
use Rattle.fs_share_pool.specs.declared.done.Done.{Done}
use Rattle.fs_share_pool.specs.Jobs.{one, total}
use Rattle.fs_share_pool.specs.Dones.{numbers, one_if_ok, ok_count, below}
use Rattle.fs_share_pool.proofs.Totals.{total_permuted}

pub numbers_snoc : (ds : List Done) (d : Done) → numbers (ds ++ d ∷ []) ≡ numbers ds ++ d.no ∷ []
numbers_snoc [] d = refl
numbers_snoc (x ∷ xs) d = ap (λ (l : List ℕ). x.no ∷ l) (numbers_snoc xs d)

pub ok_count_snoc : (ds : List Done) (d : Done) → ok_count (ds ++ d ∷ []) ≡ ok_count ds + one_if_ok d.answer
ok_count_snoc [] d = omega arith
ok_count_snoc (x ∷ xs) d = omega (arith, ok_count_snoc xs d)

pub ok_count_append : (ds es : List Done) → ok_count (ds ++ es) ≡ ok_count ds + ok_count es
ok_count_append [] es = omega arith
ok_count_append (x ∷ xs) es = omega (arith, ok_count_append xs es)

pub number_total_append : (h : ℕ → ℕ) (ds es : List Done) → total h (numbers (ds ++ es)) ≡ total h (numbers ds) + total h (numbers es)
number_total_append h [] es = omega arith
number_total_append h (x ∷ xs) es = omega (arith, number_total_append h xs es)

-- there are as many answers as numbers
pub dones_counted : (ds : List Done) → total one (numbers ds) ≡ length ds
dones_counted [] = refl
dones_counted (d ∷ ds) = omega (arith, dones_counted ds)

pub below_more : (h : ℕ → ℕ) (n : ℕ) → below h (n + 1) ≡ below h n + h n
below_more h n = rw add-one refl

pub below_one : (n : ℕ) → below one n ≡ n
below_one zero = refl
below_one (suc n) = omega (arith, below_one n)

total_numbers : (h : ℕ → ℕ) (ds : List Done) → total h (numbers ds) ≡ total (λ (d : Done). h d.no) ds
total_numbers h [] = refl
total_numbers h (d ∷ ds) = ap (λ n. h d.no + n) (total_numbers h ds)

pub dones_permuted : (h : ℕ → ℕ) (xs ys : List Done) → IsPermutation xs ys → total h (numbers ys) ≡ total h (numbers xs)
dones_permuted h xs ys same = total_numbers h ys ∙ total_permuted (λ (d : Done). h d.no) xs ys same ∙ sym (total_numbers h xs)

ok_total_of : (ds : List Done) → ok_count ds ≡ total (λ (d : Done). one_if_ok d.answer) ds
ok_total_of [] = refl
ok_total_of (d ∷ ds) = ap (λ n. one_if_ok d.answer + n) (ok_total_of ds)

pub ok_permuted : (xs ys : List Done) → IsPermutation xs ys → ok_count ys ≡ ok_count xs
ok_permuted xs ys same = ok_total_of ys ∙ total_permuted (λ (d : Done). one_if_ok d.answer) xs ys same ∙ sym (ok_total_of xs)

-- of the numbers below a bound, one is this one if it is below the bound
pub below_is : (n bound : ℕ) → below (λ m. if m == n then 1 else 0) bound ≡ (if nat_lt n bound then 1 else 0)
below_is n zero = grind (arith, common_steps)
below_is n (suc bound) = grind (arith, common_steps, below_is n bound)
