-- Calls of lists begin one after the other, each on the seat of its list.
use Rattle.std.proofs.Common.{◌≡◌, ℕ, zero, suc, ◌+◌, ◌<◌, ◌==◌, cond, Bool, true, false, List, [], ◌∷◌, ◌++◌, append-nil, length, map, ltb, take, replicate, get_or, slice_get, slice_set, Some, refl, sym, ap, ◌∙◌, subst, arith}
use Rattle.std.proofs.lemmas.Bool.{eqb-true, eq-eqb, ltb-true, ltb-false}
use Rattle.std.proofs.lemmas.Grind.{flat_map-append}
use Rattle.std.proofs.lemmas.List.{take_all, take_more, get_or-map, get_or_past, get_or-set_same, get_or-set_other}
use Rattle.std.proofs.lemmas.Option.{slice_get_within, get_or_from_slice_get}
use Rattle.fs_calls.specs.declared.call.Call.{Call}
use Rattle.fs_timeline.specs.declared.entry.Entry.{Entry}
use Rattle.fs_timeline.specs.declared.entry.Entry.TheVariants.{Begin}
use Rattle.fs_share.specs.Played.{call_begun, calls_begun}
use Rattle.fs_share.specs.code.Begun.{AreBegun}

-- one call more of a list
take_next : (l : List Call) (n : ℕ) (call : Call) → slice_get l n ≡ Some call → take n l ++ call ∷ [] ≡ take (n + 1) l
take_next l n call is = ap (λ (x : Call). take n l ++ x ∷ []) (sym (get_or_from_slice_get l n call call is)) ∙ sym (take_more l n call (slice_get_within l n call is))

-- one entry more
pub calls_push : (s : ℕ) (es : List Entry) (e : Entry) → calls_begun s (es ++ e ∷ []) ≡ calls_begun s es ++ call_begun s e
calls_push s es e = flat_map-append (call_begun s) es (e ∷ []) ∙ ap (λ (l : List Call). calls_begun s es ++ l) (append-nil (call_begun s e))

-- an entry that begins no call
pub none_begun : (lists : List (List Call)) (begun : List ℕ) (es : List Entry) (e : Entry) → ((s : ℕ) → call_begun s e ≡ []) → AreBegun lists begun es → AreBegun lists begun (es ++ e ∷ [])
none_begun lists begun es e none before s = calls_push s es e ∙ ap (λ (l : List Call). calls_begun s es ++ l) (none s) ∙ append-nil (calls_begun s es) ∙ before s

-- the next call of a seat's list begins there
pub one_begun : (lists : List (List Call)) (begun : List ℕ) (es : List Entry) (c seat : ℕ) (call : Call) → seat < length begun → slice_get (get_or lists seat []) (get_or begun seat 0) ≡ Some call
    → AreBegun lists begun es → AreBegun lists (slice_set begun seat (get_or begun seat 0 + 1)) (es ++ Begin c seat call ∷ [])
one_begun lists begun es c seat call less next before s = calls_push s es (Begin c seat call) ∙ by (s == seat) refl
  where
    new : List ℕ
    new = slice_set begun seat (get_or begun seat 0 + 1)

    by : (b : Bool) → (s == seat) ≡ b → calls_begun s es ++ cond b (call ∷ []) [] ≡ take (get_or new s 0) (get_or lists s [])
    by true e =
        let same : s ≡ seat = eqb-true s seat e in
        let count : get_or new s 0 ≡ get_or begun s 0 + 1 = ap (λ (k : ℕ). get_or new k 0) same ∙ get_or-set_same begun seat (get_or begun seat 0 + 1) 0 less ∙ ap (λ (k : ℕ). get_or begun k 0 + 1) (sym same) in
        let is : slice_get (get_or lists s []) (get_or begun s 0) ≡ Some call = subst (λ (k : ℕ). slice_get (get_or lists k []) (get_or begun k 0) ≡ Some call) (sym same) next in
        ap (λ (l : List Call). l ++ call ∷ []) (before s) ∙ take_next (get_or lists s []) (get_or begun s 0) call is ∙ ap (λ (n : ℕ). take n (get_or lists s [])) (sym count)
    by false e =
        let other : s ≡ seat → ⊥ = λ same. let z : true ≡ false = sym (eq-eqb s seat same) ∙ e in cc in
        append-nil (calls_begun s es) ∙ before s ∙ ap (λ (n : ℕ). take n (get_or lists s [])) (sym (get_or-set_other begun seat s (get_or begun seat 0 + 1) 0 other))

-- the list of a seat
pub list_at : {V : Type 0} (f : V → List Call) (lists : List V) (seat : ℕ) (item : V) → seat < length lists → item ≡ get_or lists seat item → get_or (map f lists) seat [] ≡ f item
list_at f lists seat item less is = get_or-map f lists seat item [] less ∙ ap f (sym is)

-- before the first entry
zeros : (n k : ℕ) → ◌≡◌ {A = ℕ} (get_or (replicate n 0) k 0) 0
zeros zero k = refl
zeros (suc n) zero = refl
zeros (suc n) (suc k) = zeros n k

pub none_yet : (lists : List (List Call)) (n : ℕ) → AreBegun lists (replicate n 0) []
none_yet lists n seat = sym (ap (λ (k : ℕ). take k (get_or lists seat [])) (zeros n seat))

-- once all of each list have begun
pub all_begun : (lists : List (List Call)) (begun : List ℕ) (es : List Entry) → ((k : ℕ) → k < length lists → get_or begun k 0 ≡ length (get_or lists k [])) → AreBegun lists begun es → (seat : ℕ) → calls_begun seat es ≡ get_or lists seat []
all_begun lists begun es all before seat = before seat ∙ by (ltb seat (length lists)) refl
  where
    by : (b : Bool) → ltb seat (length lists) ≡ b → take (get_or begun seat 0) (get_or lists seat []) ≡ get_or lists seat []
    by true e =
        let same : get_or begun seat 0 ≡ length (get_or lists seat []) = all seat (ltb-true seat (length lists) e) in
        take_all (get_or begun seat 0) (get_or lists seat []) (omega (arith, same))
    by false e =
        let none : get_or lists seat [] ≡ [] = get_or_past lists seat [] (ltb-false seat (length lists) e) in
        subst (λ (l : List Call). take (get_or begun seat 0) l ≡ l) (sym none) (take_all (get_or begun seat 0) [] (omega arith))
