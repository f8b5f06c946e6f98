-- Each move keeps the rule.
use Rattle.std.proofs.Common.{◌≡◌, ◌≢◌, ℕ, zero, suc, ◌+◌, ◌-◌, ◌<◌, ◌≤◌, List, [], ◌∷◌, ◌++◌, set, sym, refl, ap, ◌∙◌, subst, ⊎_elim, arith}
use mathlib.Core.Option.{some, some-ne-none, some-injective}
use lib.ListN.{get_elem?}
use Rattle.crossbeam_queue.specs.Fifo.{Pushes, Pops, Forks, Merges, Learns}
use Rattle.crossbeam_queue.proofs.Lists.{at_set, at_snoc}
use Rattle.fs_share_pool.specs.declared.job.Job.{Job}
use Rattle.fs_share_pool.specs.declared.queue.Hand.{Hand}
use Rattle.fs_share_pool.specs.Jobs.{hand, start, numbers, total, IdleIsEmpty, Balanced, PoppedOf}

pub total_append : {X : Type 0} (f : X → ℕ) (xs ys : List X) → total f (xs ++ ys) ≡ total f xs + total f ys
total_append f [] ys = omega arith
total_append f (x ∷ xs) ys = omega (arith, total_append f xs ys)

-- the total after a change of one pass
total_set : (f : Hand → ℕ) (views : List Hand) (seat : ℕ) (v w : Hand) → get_elem? views seat ≡ some v → total f (set views seat w) + f v ≡ total f views + f w
total_set f [] seat v w at = absurd (some-ne-none v (sym at))
total_set f (x ∷ xs) zero v w at = let e : f x ≡ f v = ap f (some-injective x v at) in omega (arith, e)
total_set f (x ∷ xs) (suc seat) v w at = omega (arith, total_set f xs seat v w at)

idle_set : (views : List Hand) (seat : ℕ) (w : Hand) → (w.parts ≡ 0 → (w.put ≡ []) × (w.popped ≡ [])) → IdleIsEmpty views → IdleIsEmpty (set views seat w)
idle_set views seat w mine h j u at = ⊎_elim (λ (t : (j ≡ seat) × (w ≡ u)). subst (λ (y : Hand). y.parts ≡ 0 → (y.put ≡ []) × (y.popped ≡ [])) t.1 mine)
    (λ (t : (j ≢ seat) × (get_elem? views j ≡ some u)). h j u t.1) (at_set views seat j w u at)

pub numbers_snoc : (items : List Job) (x : Job) → numbers (items ++ x ∷ []) ≡ numbers items ++ x.no ∷ []
numbers_snoc [] x = refl
numbers_snoc (y ∷ ys) x = ap (λ (l : List ℕ). y.no ∷ l) (numbers_snoc ys x)

pub begins : Balanced [] (start ∷ [])
begins = (refl, (λ h. refl), first_is)
  where
    first_is : IdleIsEmpty (start ∷ [])
    first_is zero u at none = absurd (omega (arith, ap (λ (v : Hand). v.parts) (some-injective start u at)))
    first_is (suc j) u at none = absurd (some-ne-none u (sym at))

pub puts : (n seat : ℕ) (v : Hand) (x : Job) → 0 < v.parts → Pushes Balanced n seat v x (λ w. w ≡ hand v.parts (v.put ++ x ∷ []) v.popped)
puts n seat v x some_part items views room b at =
    let w : Hand = hand v.parts (v.put ++ x ∷ []) v.popped in (
      w,
      (
        (let s = total_set (λ (u : Hand). u.parts) views seat v w at in let p = b.0 in omega arith),
        (λ h.
            let s = total_set (λ (u : Hand). total h u.put) views seat v w at in
            let t = total_set (λ (u : Hand). total h u.popped) views seat v w at in
            let p = b.1 h in
            omega (arith, total_append h v.put (x ∷ []), total_append h items (x ∷ []))),
        idle_set views seat w (λ none. absurd (omega arith)) b.2,
      ),
      refl,
    )

pub pops : (seat : ℕ) (v : Hand) → 0 < v.parts → Pops Balanced seat v (λ x w. w ≡ hand v.parts v.put (v.popped ++ x ∷ []))
pops seat v some_part x items views b at =
    let w : Hand = hand v.parts v.put (v.popped ++ x ∷ []) in (
      w,
      (
        (let s = total_set (λ (u : Hand). u.parts) views seat v w at in let p = b.0 in omega arith),
        (λ h.
            let s = total_set (λ (u : Hand). total h u.put) views seat v w at in
            let t = total_set (λ (u : Hand). total h u.popped) views seat v w at in
            let p = b.1 h in
            omega (arith, total_append h v.popped (x ∷ []))),
        idle_set views seat w (λ none. absurd (omega arith)) b.2,
      ),
      refl,
    )

pub forks : (seat : ℕ) (v : Hand) → 1 < v.parts → Forks Balanced seat v (hand (v.parts - 1) v.put v.popped) (hand 1 [] [])
forks seat v more items views b at =
    let l : Hand = hand (v.parts - 1) v.put v.popped in let r : Hand = hand 1 [] [] in let vs : List Hand = set views seat l in (
      (let s = total_set (λ (u : Hand). u.parts) views seat v l at in let p = b.0 in omega (arith, total_append (λ (u : Hand). u.parts) vs (r ∷ []))),
      (λ h.
          let s = total_set (λ (u : Hand). total h u.put) views seat v l at in
          let t = total_set (λ (u : Hand). total h u.popped) views seat v l at in
          let p = b.1 h in
          omega (arith, total_append (λ (u : Hand). total h u.put) vs (r ∷ []), total_append (λ (u : Hand). total h u.popped) vs (r ∷ []))),
      λ j u e. ⊎_elim (idle_set views seat l (λ none. absurd (omega arith)) b.2 j u) (λ (is : r ≡ u). subst (λ (y : Hand). y.parts ≡ 0 → (y.put ≡ []) × (y.popped ≡ [])) is (λ none. absurd (omega arith))) (at_snoc vs r u j e),
    )

pub merges : (seat : ℕ) (v : Hand) (other : ℕ) (u : Hand) → 0 < v.parts → Merges Balanced seat v other u (hand (v.parts + u.parts) (v.put ++ u.put) (v.popped ++ u.popped)) (hand 0 [] [])
merges seat v other u some_part items views b at two there =
    let w : Hand = hand (v.parts + u.parts) (v.put ++ u.put) (v.popped ++ u.popped) in let z : Hand = hand 0 [] [] in let vs : List Hand = set views seat w in (
      (let s = total_set (λ (y : Hand). y.parts) views seat v w at in let t = total_set (λ (y : Hand). y.parts) vs other u z there in let p = b.0 in omega arith),
      (λ h.
          let s = total_set (λ (y : Hand). total h y.put) views seat v w at in
          let s' = total_set (λ (y : Hand). total h y.put) vs other u z there in
          let t = total_set (λ (y : Hand). total h y.popped) views seat v w at in
          let t' = total_set (λ (y : Hand). total h y.popped) vs other u z there in
          let p = b.1 h in
          omega (arith, total_append h v.put u.put, total_append h v.popped u.popped)),
      idle_set vs other z (λ none. (refl, refl)) (idle_set views seat w (λ none. absurd (omega arith)) b.2),
    )

part_of : (views : List Hand) (seat : ℕ) (v : Hand) → get_elem? views seat ≡ some v → v.parts ≤ total (λ (u : Hand). u.parts) views
part_of [] seat v at = absurd (some-ne-none v (sym at))
part_of (x ∷ xs) zero v at = omega (arith, ap (λ (u : Hand). u.parts) (some-injective x v at))
part_of (x ∷ xs) (suc seat) v at = omega (arith, part_of xs seat v at)

nothing : (f : Hand → ℕ) (views : List Hand) → ((u : Hand) → (u.put ≡ []) × (u.popped ≡ []) → f u ≡ 0) → total (λ (u : Hand). u.parts) views ≡ 0 → IdleIsEmpty views → total f views ≡ 0
nothing f [] zeros none idle = refl
nothing f (y ∷ ys) zeros none idle =
    let a : y.parts ≡ 0 = omega (arith, none) in
    omega (arith, zeros y (idle 0 y refl a), nothing f ys zeros (omega (arith, none)) (λ j. idle (suc j)))

-- where one pass has each part, the others have put and popped nothing
alone : (f : Hand → ℕ) (views : List Hand) (seat : ℕ) (v : Hand) → ((u : Hand) → (u.put ≡ []) × (u.popped ≡ []) → f u ≡ 0) → get_elem? views seat ≡ some v → total (λ (u : Hand). u.parts) views ≡ v.parts → IdleIsEmpty views → total f views ≡ f v
alone f [] seat v zeros at all idle = absurd (some-ne-none v (sym at))
alone f (x ∷ xs) zero v zeros at all idle =
    let is : x ≡ v = some-injective x v at in
    let none : total (λ (u : Hand). u.parts) xs ≡ 0 = omega (arith, ap (λ (u : Hand). u.parts) is) in
    omega (arith, ap f is, nothing f xs zeros none (λ j. idle (suc j)))
alone f (x ∷ xs) (suc seat) v zeros at all idle =
    let rest : v.parts ≤ total (λ (u : Hand). u.parts) xs = part_of xs seat v at in
    let none : x.parts ≡ 0 = omega (arith, rest, all) in
    omega (arith, zeros x (idle 0 x refl none), alone f xs seat v zeros at (omega (arith, all, none)) (λ j. idle (suc j)))

pub learns : (seat : ℕ) (v : Hand) → v.parts ≡ 18446744073709551616 → Learns Balanced seat v (λ items. (h : Job → ℕ) → total h v.put ≡ total h v.popped + total h items)
learns seat v all items views b at h =
    let p = alone (λ (u : Hand). total h u.put) views seat v (λ u e. ap (total h) e.0) at (b.0 ∙ sym all) b.2 in
    let q = alone (λ (u : Hand). total h u.popped) views seat v (λ u e. ap (total h) e.1) at (b.0 ∙ sym all) b.2 in
    omega (arith, p, q, b.1 h)

pub pops_of_all : (seat : ℕ) (v : Hand) → v.parts ≡ 18446744073709551616 → Pops Balanced seat v (PoppedOf v)
pops_of_all seat v all x items views b at =
    let r = pops seat v (omega (arith, all)) x items views b at in
    (r.0, r.1, (r.2, (items, λ h. omega (arith, learns seat v all (x ∷ items) views b at h))))
