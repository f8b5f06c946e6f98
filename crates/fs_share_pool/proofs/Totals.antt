-- Totals of lists.
use Rattle.std.proofs.Common.{◌≡◌, ℕ, ◌+◌, List, [], ◌∷◌, ◌++◌, length, refl, ap, sym, ◌∙◌, arith}
use Rattle.std.specs.Prelude.{IsPermutation}
use Rattle.std.proofs.lemmas.List.Recursion.{is_sum_by}
use Rattle.std.proofs.lemmas.List.Sorted.{sum_by-IsPermutation}
use Rattle.fs_share_pool.specs.declared.job.Job.{Job}
use Rattle.fs_share_pool.specs.Jobs.{numbers, one, each, total}
use Rattle.fs_share_pool.proofs.Keeps.{total_append, numbers_snoc}

-- another order makes no difference
pub total_permuted : {X : Type 0} (f : X → ℕ) (xs ys : List X) → IsPermutation xs ys → total f ys ≡ total f xs
total_permuted f xs ys same =
    is_sum_by (total f) f refl (λ _ _. refl) ys ∙ sum_by-IsPermutation f xs ys same ∙ sym (is_sum_by (total f) f refl (λ _ _. refl) xs)

pub total_numbers : (h : ℕ → ℕ) (jobs : List Job) → total h (numbers jobs) ≡ total (λ (j : Job). h j.no) jobs
total_numbers h [] = refl
total_numbers h (j ∷ js) = ap (λ n. h j.no + n) (total_numbers h js)

pub total_snoc : (h : Job → ℕ) (jobs : List Job) (job : Job) → total h (jobs ++ job ∷ []) ≡ total h jobs + h job
total_snoc h jobs job = omega (arith, total_append h jobs (job ∷ []))

pub jobs_append : (h : ℕ → ℕ) (xs ys : List Job) → total h (numbers (xs ++ ys)) ≡ total h (numbers xs) + total h (numbers ys)
jobs_append h [] ys = omega arith
jobs_append h (x ∷ xs) ys = omega (arith, jobs_append h xs ys)

pub jobs_snoc : (h : ℕ → ℕ) (jobs : List Job) (job : Job) → total h (numbers (jobs ++ job ∷ [])) ≡ total h (numbers jobs) + h job.no
jobs_snoc h jobs job = omega (arith, ap (total h) (numbers_snoc jobs job), total_append h (numbers jobs) (job.no ∷ []))

-- there are as many jobs as numbers
pub jobs_counted : (jobs : List Job) → total one (numbers jobs) ≡ length jobs
jobs_counted [] = refl
jobs_counted (j ∷ js) = omega (arith, jobs_counted js)

pub each_counted : (jobs : List Job) → total each jobs ≡ length jobs
each_counted [] = refl
each_counted (j ∷ js) = omega (arith, each_counted js)

pub each_numbers : (jobs : List Job) → total one (numbers jobs) ≡ total each jobs
each_numbers [] = refl
each_numbers (j ∷ js) = omega (arith, each_numbers js)
