-- Counts of calls and flags, one more at a time.
use Rattle.std.proofs.Common.{◌≡◌, ℕ, zero, suc, ◌+◌, ◌<◌, ◌≤◌, ◌^◌, Bool, true, false, cond, List, [], ◌∷◌, length, take, drop, get_or, refl, sym, ap, ◌∙◌, arith}
use Rattle.fs_calls.specs.declared.call.Call.{Call}
use Rattle.fs_script.specs.Limits.{call_limit, calls_in}
use Rattle.fs_script.proofs.NumbersLeft.{most_calls}
use Rattle.fs_script.specs.declared.limits.TheConstants.{CALL_LIMIT}
use Rattle.fs_script.specs.declared.script.Script.{Script}
use Rattle.fs_sched.specs.Runs as runs
use Rattle.fs_sched_shrink.specs.Kept.{kept_lists, kept_script}
use Rattle.fs_sched_shrink.specs.Moves.{kept_count}
use Rattle.fs_sched_shrink.proofs.Picking.{drop_one, lists_fewer}

-- the calls of one list more
calls_suc : (lists : List (List Call)) (at : ℕ) → calls_in (take (suc at) lists) ≡ calls_in (take at lists) + length (get_or lists at [])
calls_suc [] zero = refl
calls_suc [] (suc at) = refl
calls_suc (calls ∷ lists) zero = omega arith
calls_suc (calls ∷ lists) (suc at) = let h : calls_in (take (suc at) lists) ≡ calls_in (take at lists) + length (get_or lists at []) = calls_suc lists at in omega (arith, h)

pub calls_take : (lists : List (List Call)) (at : ℕ) → calls_in (take (at + 1) lists) ≡ calls_in (take at lists) + length (get_or lists at [])
calls_take lists at = ap (λ (n : ℕ). calls_in (take n lists)) (let same : at + 1 ≡ suc at = omega arith in same) ∙ calls_suc lists at

pub calls_take_few : (lists : List (List Call)) (at : ℕ) → calls_in (take at lists) ≤ calls_in lists
calls_take_few [] zero = omega arith
calls_take_few [] (suc at) = omega arith
calls_take_few (calls ∷ lists) zero = omega arith
calls_take_few (calls ∷ lists) (suc at) = let h : calls_in (take at lists) ≤ calls_in lists = calls_take_few lists at in omega (arith, h)

-- the calls of lists, counted as a run counts them
pub calls_same : (lists : List (List Call)) → runs.calls_in lists ≡ calls_in lists
calls_same [] = refl
calls_same (calls ∷ lists) = ap (λ (n : ℕ). length calls + n) (calls_same lists)

-- one flag more
pub count_more : (n : ℕ) (kept : List Bool) → kept_count (suc n) kept ≡ kept_count n kept + cond (get_or (drop n kept) 0 false) 1 0
count_more zero kept = omega arith
count_more (suc n) kept =
    let flag : drop n (drop 1 kept) ≡ drop (suc n) kept = drop_one n kept in
    let h : kept_count (suc n) (drop 1 kept) ≡ kept_count n (drop 1 kept) + cond (get_or (drop (suc n) kept) 0 false) 1 0 = count_more n (drop 1 kept) ∙ ap (λ (r : List Bool). kept_count n (drop 1 kept) + cond (get_or r 0 false) 1 0) flag in
    omega (arith, h)

one_at_most : (b : Bool) → cond b 1 0 ≤ 1
one_at_most true = omega arith
one_at_most false = omega arith

pub counted : (kept flags : List Bool) (at count one : ℕ) (flag : Bool) → count ≡ kept_count at kept → count ≤ at → flags ≡ drop at kept → flag ≡ get_or flags 0 false → one ≡ cond flag 1 0 → (count + one ≡ kept_count (at + 1) kept) × (count + one ≤ at + 1)
counted kept flags at count one flag is few behind first e =
    let here : one ≡ cond (get_or (drop at kept) 0 false) 1 0 = e ∙ ap (λ (b : Bool). cond b 1 0) (first ∙ ap (λ (f : List Bool). get_or f 0 false) behind) in
    let more : kept_count (at + 1) kept ≡ kept_count at kept + cond (get_or (drop at kept) 0 false) 1 0 = ap (λ (n : ℕ). kept_count n kept) (let same : at + 1 ≡ suc at = omega arith in same) ∙ count_more at kept in
    let one_few : cond (get_or (drop at kept) 0 false) 1 0 ≤ 1 = one_at_most (get_or (drop at kept) 0 false) in
    (omega (arith, is, here, more), omega (arith, few, here, one_few))

pub add_fits : (lists : List (List Call)) (at count n : ℕ) → count ≡ calls_in (take at lists) → n ≡ length (get_or lists at []) → calls_in lists ≤ CALL_LIMIT → count + n < 2 ^ 64
add_fits lists at count n is len few =
    let more : calls_in (take (at + 1) lists) ≡ calls_in (take at lists) + length (get_or lists at []) = calls_take lists at in
    let all : calls_in (take (at + 1) lists) ≤ calls_in lists = calls_take_few lists (at + 1) in
    omega (arith, is, len, few, more, all)

-- the calls that the limits of a script allow are no more than any allow
pub at_most_all : (s : Script) → calls_in s.lists ≤ call_limit s.limits → calls_in s.lists ≤ CALL_LIMIT
at_most_all s few = let most = most_calls s.limits in omega (arith, few, most)

pub few_kept : (kept : List Bool) (s : Script) → calls_in s.lists ≤ call_limit s.limits → calls_in (kept_script kept s).lists ≤ call_limit (kept_script kept s).limits
few_kept kept s few = let fewer : calls_in (kept_lists s.lists kept) ≤ calls_in s.lists = lists_fewer s.lists kept in omega (arith, fewer, few)

pub calls_more : (lists : List (List Call)) (calls : List Call) (at count : ℕ) → count ≡ calls_in (take at lists) → calls ≡ get_or lists at [] → count + length calls ≡ calls_in (take (at + 1) lists)
calls_more lists calls at count is here = ap (λ (n : ℕ). n + length calls) is ∙ ap (λ (l : List Call). calls_in (take at lists) + length l) here ∙ sym (calls_take lists at)
