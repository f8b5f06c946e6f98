-- The rule of the queue of jobs: what was put is what was popped and what the queue holds, however the jobs are weighed.
use Rattle.std.specs.Prelude.{◌≡◌, ℕ, ◌+◌, List, [], ◌∷◌, ◌++◌, map}
use mathlib.Core.Option.{some}
use lib.ListN.{get_elem?}
use Rattle.fs_share_pool.specs.declared.job.Job.{Job}
use Rattle.fs_share_pool.specs.declared.queue.Hand.{Hand}

-- a hand that has so many parts of the queue, and has put and popped these jobs
abbrev pub hand : ℕ → List Job → List Job → Hand
hand parts put popped = record { parts = parts; put = put; popped = popped }

-- f of each, added up
abbrev pub total : {X : Type 0} → (X → ℕ) → List X → ℕ
total f [] = 0
total f (x ∷ xs) = f x + total f xs

-- each number counts for one
abbrev pub one : ℕ → ℕ
one n = 1

-- each job counts for one
abbrev pub each : Job → ℕ
each j = 1

-- a hand with all parts, before the first job
abbrev pub start : Hand
start = hand 18446744073709551616 [] []

-- the numbers of jobs
abbrev pub numbers : List Job → List ℕ
numbers jobs = map (λ j. j.no) jobs

-- a pass with no part has put and popped nothing
abbrev pub IdleIsEmpty : List Hand → Type 0
IdleIsEmpty views = (seat : ℕ) (v : Hand) → get_elem? views seat ≡ some v → v.parts ≡ 0 → (v.put ≡ []) × (v.popped ≡ [])

-- what all hands put is what they popped and what the queue holds; together they have all parts
abbrev pub Balanced : List Job → List Hand → Type 0
Balanced items views =
    (total (λ (v : Hand). v.parts) views ≡ 18446744073709551616)
    × ((h : Job → ℕ) → total (λ (v : Hand). total h v.put) views ≡ total (λ (v : Hand). total h v.popped) views + total h items)
    × IdleIsEmpty views

-- the job was popped, and what was put is what had been popped, the job, and some rest
abbrev pub PoppedOf : Hand → Job → Hand → Type 0
PoppedOf v x w = (w ≡ hand v.parts v.put (v.popped ++ x ∷ [])) × ((rest : List Job) × ((h : Job → ℕ) → total h v.put ≡ total h v.popped + h x + total h rest))
