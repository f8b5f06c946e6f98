-- What a pool is to its callers.
use Rattle.std.specs.Prelude.{ℕ, ◌≡◌, ◌+◌, ◌==◌, nat_lt, if◌then◌else◌, List, [], ◌∷◌, ◌++◌}
use Rattle.fs_calls.specs.declared.call.Call.{Call}
use Rattle.fs_share_pool.specs.declared.job.Job.{Job}
use Rattle.fs_share_pool.specs.Jobs.{total}

-- how many jobs it was given, those that wait, how many may, and how many sessions it made
pub record Jobs : Type 0 where
  pub submitted : ℕ
  pub waiting : List Job
  pub capacity : ℕ
  pub sessions : ℕ

-- with one more job, whose number is that of the jobs before it
abbrev pub with_job : Call → Jobs → Jobs
with_job call jobs = record { submitted = jobs.submitted + 1; waiting = jobs.waiting ++ record { no = jobs.submitted; call = call } ∷ []; capacity = jobs.capacity; sessions = jobs.sessions }

-- how often a number is in a list
abbrev pub times : ℕ → List ℕ → ℕ
times n numbers = total (λ m. if m == n then 1 else 0) numbers

-- each number below the bound is in one of both lists, once, and no other number is in any
abbrev pub AreEachOnce : ℕ → List ℕ → List ℕ → Type 0
AreEachOnce bound xs ys = (n : ℕ) → times n xs + times n ys ≡ (if nat_lt n bound then 1 else 0)
