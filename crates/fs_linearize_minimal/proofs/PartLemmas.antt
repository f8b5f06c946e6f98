-- Parts of a history.
use Rattle.std.proofs.Common.{◌≡◌, ℕ, zero, suc, ◌<◌, ◌≤◌, true, false, cond, List, [], ◌∷◌, length, take, get_or, Option, Some, refl, subst, ⊎_elim, inl, inr, arith}
use Rattle.std.specs.Prelude.{IfSome}
use Rattle.fs_linearize_histories.specs.declared.heard.Heard.{Heard}
use Rattle.fs_linearize_histories.specs.declared.heard.Heard.TheVariants.{Begin, Return}
use Rattle.fs_linearize_histories.specs.Configurations.{is_in}
use Rattle.fs_linearize_minimal.specs.Parts.{IsPartOf, number_of, without, calls_in}

nothing : (h : List Heard) → IsPartOf [] h
nothing [] = refl
nothing (x ∷ h) = inl (nothing h)

pub itself : (h : List Heard) → IsPartOf h h
itself [] = refl
itself (x ∷ h) = inr (h, refl, itself h)

pub part_of_part : (a b c : List Heard) → IsPartOf a b → IsPartOf b c → IsPartOf a c
part_of_part a b [] k l = subst (IsPartOf a) l k
part_of_part a b (x ∷ c) k l = ⊎_elim
    (λ m. inl (part_of_part a b c k m))
    (λ m. ⊎_elim (λ p. inl (part_of_part a m.0 c p m.2)) (λ p. inr (p.0, p.1, part_of_part p.0 m.0 c p.2 m.2)) (subst (IsPartOf a) m.1 k))
    l

pub part_take : (n : ℕ) (h : List Heard) → IsPartOf (take n h) h
part_take zero h = nothing h
part_take (suc n) [] = refl
part_take (suc n) (x ∷ h) = inr (take n h, refl, part_take n h)

pub part_without : (calls : List ℕ) (h : List Heard) → IsPartOf (without calls h) h
part_without calls [] = refl
part_without calls (x ∷ h) =
    elim (is_in (number_of x) calls) as (λ b. IsPartOf (cond b (without calls h) (x ∷ without calls h)) (x ∷ h)) [
      | true ↦ inl (part_without calls h)
      | false ↦ inr (without calls h, refl, part_without calls h)
    ]

pub short_part : (a h : List Heard) → IsPartOf a h → length a ≤ length h
short_part a [] k = rw k (omega arith)
short_part a (x ∷ h) k = ⊎_elim
    (λ m. let less : length a ≤ length h = short_part a h m in omega (arith, less))
    (λ m. let less : length m.0 ≤ length h = short_part m.0 h m.2 in rw m.1 (omega (arith, less)))
    k

pub some_of : {T : Type 0} (o : Option T) (t : T) (P : T → Type 0) → o ≡ Some t → IfSome o P → P t
some_of o t P is x = subst (λ p. IfSome p P) is x

-- ---- a call that has entries goes

one_more : (calls : List ℕ) (x : Heard) (h : List Heard) → length (without calls h) < length h → length (without calls (x ∷ h)) < suc (length h)
one_more calls x h less =
    elim (is_in (number_of x) calls) as (λ b. length (cond b (without calls h) (x ∷ without calls h)) < suc (length h)) [
      | true ↦ omega (arith, less)
      | false ↦ omega (arith, less)
    ]

first_goes : (c seat : ℕ) (call : _) (h : List Heard) → length (without (c ∷ []) (Begin c seat call ∷ h)) < suc (length h)
first_goes c seat call h =
    let less : length (without (c ∷ []) h) ≤ length h = short_part (without (c ∷ []) h) h (part_without (c ∷ []) h) in
    let same : is_in c (c ∷ []) ≡ true = grind arith in
    rw same (omega (arith, less))

pub goes : (h : List Heard) (k : ℕ) → k < length (calls_in h) → length (without (get_or (calls_in h) k 0 ∷ []) h) < length h
goes [] k less = absurd (omega (arith, less))
goes (Begin c seat call ∷ h) zero less = first_goes c seat call h
goes (Begin c seat call ∷ h) (suc k) less = one_more (get_or (calls_in h) k 0 ∷ []) (Begin c seat call) h (goes h k (omega (arith, less)))
goes (Return c p ∷ h) k less = one_more (get_or (calls_in h) k 0 ∷ []) (Return c p) h (goes h k less)
