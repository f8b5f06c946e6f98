-- The number of calls, list by list.
use Rattle.std.proofs.Common.{◌≡◌, ℕ, zero, suc, ◌+◌, ◌<◌, min, List, [], ◌∷◌, length, map, take, get_or, sym, ap, ◌∙◌, arith}
use Rattle.fs_calls.specs.declared.call.Call.{Call}
use Rattle.fs_sched.specs.Runs.{calls_in}

pub calls_more : {V : Type 0} (f : V → List Call) (xs : List V) (i : ℕ) (d : V) → i < length xs → calls_in (map f (take (suc i) xs)) ≡ calls_in (map f (take i xs)) + length (f (get_or xs i d))
calls_more f [] i d less = absurd (let z : i < 0 = less in omega (arith, z))
calls_more f (x ∷ xs) zero d less = omega arith
calls_more f (x ∷ xs) (suc i) d less = let h : calls_in (map f (take (suc i) xs)) ≡ calls_in (map f (take i xs)) + length (f (get_or xs i d)) = calls_more f xs i d (let z : suc i < suc (length xs) = less in omega (arith, z)) in omega (arith, h)

-- a sum that stops at a limit, with one more part
pub capped_more : (limit before more count : ℕ) → count ≡ min limit before → min (count + more) limit ≡ min limit (before + more)
capped_more limit before more count h = grind arith

-- one list more, by its item and its length
pub calls_next : {V : Type 0} (f : V → List Call) (xs : List V) (i : ℕ) (item : V) (more : ℕ) → i < length xs → item ≡ get_or xs i item → more ≡ length (f item)
    → calls_in (map f (take (i + 1) xs)) ≡ calls_in (map f (take i xs)) + more
calls_next f xs i item more less is len =
    let one : i + 1 ≡ suc i = omega arith in
    ap (λ (k : ℕ). calls_in (map f (take k xs))) one ∙ calls_more f xs i item less
    ∙ ap (λ (n : ℕ). calls_in (map f (take i xs)) + n) (ap (λ v. length (f v)) (sym is) ∙ sym len)
