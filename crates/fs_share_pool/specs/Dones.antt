-- What workers hand back.
use Rattle.std.specs.Prelude.{◌≡◌, ℕ, zero, suc, ◌+◌, List, [], ◌∷◌, map, Result, Ok, Err, Vec}
use Rattle.fs_machine.specs.declared.answers.Refusal.{Refusal}
use Rattle.fs_share.specs.declared.session.Answer.{Answer}
use Rattle.fs_share_pool.specs.declared.done.Done.{Done}
use Rattle.fs_share_pool.specs.declared.queue.Hand.{Hand}
use Rattle.fs_share_pool.specs.Jobs.{total, numbers as job_numbers}

-- the numbers of the jobs that are done
abbrev pub numbers : List Done → List ℕ
numbers dones = map (λ d. d.no) dones

-- a worker's hand has popped the jobs that are done, and put none
abbrev pub HasDone : Hand → List Done → Type 0
HasDone v dones = (v.parts ≡ 1) × (v.put ≡ []) × (job_numbers v.popped ≡ numbers dones)

-- an answer that is Ok counts for one
abbrev pub one_if_ok : Result Answer Refusal → ℕ
one_if_ok (Ok a) = 1
one_if_ok (Err e) = 0

-- how many jobs were answered with Ok
abbrev pub ok_count : List Done → ℕ
ok_count [] = 0
ok_count (d ∷ ds) = one_if_ok d.answer + ok_count ds

-- h of each number below n, added up
abbrev pub below : (ℕ → ℕ) → ℕ → ℕ
below h zero = 0
below h (suc n) = below h n + h n

-- h of each number in the lists, added up
abbrev pub number_total : {A : Type 0} → (ℕ → ℕ) → List (Vec Done A) → ℕ
number_total h lists = total (λ v. total h (numbers v.items)) lists

-- how many jobs in the lists were answered with Ok
abbrev pub ok_total : {A : Type 0} → List (Vec Done A) → ℕ
ok_total lists = total (λ v. ok_count v.items) lists
