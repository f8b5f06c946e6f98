-- The next element of a list that a loop goes through.
use Rattle.std.proofs.Common.{◌≡◌, ℕ, zero, suc, ◌+◌, ◌-◌, ◌<◌, ◌≤◌, ltb, Bool, true, false, not, if◌then◌else◌, List, [], ◌∷◌, length, drop, get_or, Some, None, refl, sym, ap, subst, ◌∙◌, arith}
use Rattle.std.proofs.lemmas.Bool.{ltb-true, ltb-false, cond-true, cond-false, eq-eqb, ne_eqb}
use Rattle.std.proofs.lemmas.List.{drop_all, drop_more}
use Rattle.fs_sched_find.specs.Lives.{nth_from}

-- where a seat is looked for the so-manieth time: it is found, or stands once less before the rest, or another seat stands here, or none
pub nth_here : (at seat left : ℕ) (seats : List ℕ) → at < length seats → get_or seats at 0 ≡ seat → left ≡ 1 → nth_from at seat left (drop at seats) ≡ Some at
unfolding nth_from
nth_here at seat left seats less here last = ap (nth_from at seat left) (drop_more seats at 0 less) ∙ cond-true _ _ _ (eq-eqb _ _ here) ∙ cond-true _ _ _ (eq-eqb _ _ last)

pub nth_next : (at seat left : ℕ) (seats : List ℕ) → at < length seats → get_or seats at 0 ≡ seat → (left ≡ 1 → ⊥) → nth_from at seat left (drop at seats) ≡ nth_from (at + 1) seat (left - 1) (drop (at + 1) seats)
unfolding nth_from
nth_next at seat left seats less here more = ap (nth_from at seat left) (drop_more seats at 0 less) ∙ cond-true _ _ _ (eq-eqb _ _ here) ∙ cond-false _ _ _ (ne_eqb _ _ more)

pub nth_other : (at seat left : ℕ) (seats : List ℕ) → at < length seats → (get_or seats at 0 ≡ seat → ⊥) → nth_from at seat left (drop at seats) ≡ nth_from (at + 1) seat left (drop (at + 1) seats)
unfolding nth_from
nth_other at seat left seats less other = ap (nth_from at seat left) (drop_more seats at 0 less) ∙ cond-false _ _ _ (ne_eqb _ _ other)

pub nth_none : (at seat left : ℕ) (seats : List ℕ) → length seats ≤ at → nth_from at seat left (drop at seats) ≡ None
unfolding nth_from
nth_none at seat left seats long = ap (nth_from at seat left) (drop_all at seats long)

-- what an index below the length reads, whatever stands for what is not there
pub get_same : {X : Type 0} (xs : List X) (i : ℕ) (d e : X) → i < length xs → get_or xs i d ≡ get_or xs i e
get_same [] i d e less = absurd (omega (arith, less))
get_same (x ∷ xs) zero d e less = refl
get_same (x ∷ xs) (suc i) d e less = get_same xs i d e (omega (arith, less))

-- what holds of each element before one, and of that
pub all_more : {X : Type 0} (P : X → Type 0) (xs : List X) (i : ℕ) (x : X) → i < length xs → get_or xs i x ≡ x → ((k : ℕ) (d : X) → k < i → P (get_or xs k d)) → P x → (k : ℕ) (d : X) → k < i + 1 → P (get_or xs k d)
all_more P xs i x less is each this k d below = go (ltb k i) refl
  where
    go : (b : Bool) → ltb k i ≡ b → P (get_or xs k d)
    go true t = each k d (ltb-true _ _ t)
    go false f =
        let here : i ≡ k = omega (arith, ltb-false _ _ f, below) in
        subst (λ n. P (get_or xs n d)) here (subst P (sym (get_same xs i d x less ∙ is)) this)

-- a test that is compared with another
pub compared : (P : Bool → Type 0) (a n : Bool) → P a → P (if n then not (if n then not a else a) else (if n then not a else a))
compared P true true p = p
compared P true false p = p
compared P false true p = p
compared P false false p = p
