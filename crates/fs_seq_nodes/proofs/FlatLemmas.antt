-- Lists joined end to end, and edits of one of them.
use Rattle.std.proofs.Common.{◌≡◌, ℕ, zero, suc, ◌+◌, ◌-◌, ◌<◌, ◌≤◌, List, [], ◌∷◌, ◌++◌, length, take, drop, get_or, append_assoc, append-nil, length-append, refl, sym, ap, ◌∙◌, arith}
use Rattle.std.specs.Prelude.{insert, remove, slice_set}
use Rattle.std.specs.List.{flat_map, All}
use Rattle.std.proofs.lemmas.List.{set-append_left, take-append-le, drop-append-le}
use Rattle.std.proofs.lemmas.List.Elements.{All-head, All-tail, All-cons, All-append, All-take, All-drop}
use Rattle.std.proofs.lemmas.List.Concat.{flat_map-append, get_or-flat_map}
use Rattle.std.proofs.lemmas.List.Edits.{insert-append_left, insert-append_right, remove-append_left, remove-append_right}

-- lists joined
abbrev pub joined : {A : Type 0} → List (List A) → List A
joined lists = flat_map (λ l. l) lists

-- a list at its place among the others
pub joined_at : {A : Type 0} (ls : List (List A)) (i : ℕ) → i < length ls → joined ls ≡ joined (take i ls) ++ (get_or ls i [] ++ joined (drop (suc i) ls))
joined_at [] i h = absurd (omega arith)
joined_at (l ∷ ls) zero h = refl
joined_at (l ∷ ls) (suc i) h = ap (λ z. l ++ z) (joined_at ls i (omega arith)) ∙ sym (append_assoc l _ _)

-- another list at its place
pub joined_set : {A : Type 0} (ls : List (List A)) (i : ℕ) (p : List A) → i < length ls → joined (slice_set ls i p) ≡ joined (take i ls) ++ (p ++ joined (drop (suc i) ls))
joined_set [] i p h = absurd (omega arith)
joined_set (l ∷ ls) zero p h = refl
joined_set (l ∷ ls) (suc i) p h = ap (λ z. l ++ z) (joined_set ls i p (omega arith)) ∙ sym (append_assoc l _ _)

-- the lists before one that is set
pub take_set : {A : Type 0} (ls : List (List A)) (i k : ℕ) (p : List A) → i ≤ k → take i (slice_set ls k p) ≡ take i ls
take_set [] i k p h = refl
take_set (l ∷ ls) zero zero p h = refl
take_set (l ∷ ls) zero (suc k) p h = refl
take_set (l ∷ ls) (suc i) zero p h = absurd (omega arith)
take_set (l ∷ ls) (suc i) (suc k) p h = ap (λ z. l ∷ z) (take_set ls i k p (omega arith))

-- the lists after one that is set
pub drop_set : {A : Type 0} (ls : List (List A)) (i : ℕ) (p : List A) → drop (suc i) (slice_set ls i p) ≡ drop (suc i) ls
drop_set [] i p = refl
drop_set (l ∷ ls) zero p = refl
drop_set (l ∷ ls) (suc i) p = drop_set ls i p

-- the list that was set
pub got_set : {A : Type 0} (ls : List (List A)) (i : ℕ) (p : List A) → i < length ls → get_or (slice_set ls i p) i [] ≡ p
got_set [] i p h = absurd (omega arith)
got_set (l ∷ ls) zero p h = refl
got_set (l ∷ ls) (suc i) p h = got_set ls i p (omega arith)

-- another one
pub got_elsewhere : {A : Type 0} (ls : List (List A)) (i k : ℕ) (p : List A) → (k ≡ i → ⊥) → get_or (slice_set ls i p) k [] ≡ get_or ls k []
got_elsewhere [] i k p ne = refl
got_elsewhere (l ∷ ls) zero zero p ne = absurd (ne refl)
got_elsewhere (l ∷ ls) zero (suc k) p ne = refl
got_elsewhere (l ∷ ls) (suc i) zero p ne = refl
got_elsewhere (l ∷ ls) (suc i) (suc k) p ne = got_elsewhere ls i k p (λ e. ne (ap suc e))

-- as many lists as before
pub length_set : {A : Type 0} (ls : List (List A)) (i : ℕ) (p : List A) → length (slice_set ls i p) ≡ length ls
length_set [] i p = refl
length_set (l ∷ ls) zero p = refl
length_set (l ∷ ls) (suc i) p = ap suc (length_set ls i p)

-- the lists up to one
pub take_next : {A : Type 0} (ls : List (List A)) (i : ℕ) → i < length ls → joined (take (suc i) ls) ≡ joined (take i ls) ++ get_or ls i []
take_next [] i h = absurd (omega arith)
take_next (l ∷ ls) zero h = append-nil l
take_next (l ∷ ls) (suc i) h = ap (λ z. l ++ z) (take_next ls i (omega arith)) ∙ sym (append_assoc l _ _)

-- how many entries come before the next list
pub before_next : {A : Type 0} (ls : List (List A)) (i : ℕ) → i < length ls → length (joined (take (suc i) ls)) ≡ length (joined (take i ls)) + length (get_or ls i [])
before_next ls i h = ap length (take_next ls i h) ∙ length-append (joined (take i ls)) (get_or ls i [])

-- all lists have at least as many entries as those up to one
pub before_within : {A : Type 0} (ls : List (List A)) (i : ℕ) → i < length ls → length (joined (take i ls)) + length (get_or ls i []) ≤ length (joined ls)
before_within ls i h =
    let whole = ap length (joined_at ls i h) ∙ length-append (joined (take i ls)) (get_or ls i [] ++ joined (drop (suc i) ls)) in
    let rest = length-append (get_or ls i []) (joined (drop (suc i) ls)) in
    omega (arith, whole, rest)

-- an element comes to a place after some
pub insert_past : {A : Type 0} (xs ys : List A) (at : ℕ) (y : A) → insert (xs ++ ys) (length xs + at) y ≡ xs ++ insert ys at y
insert_past xs ys at y =
    let same : (length xs + at) - length xs ≡ at = omega arith in
    insert-append_right xs ys (length xs) (length xs + at) y refl (omega arith) ∙ ap (λ k. xs ++ insert ys k y) same

-- an element goes from a place after some
pub remove_past : {A : Type 0} (xs ys : List A) (at : ℕ) → remove (xs ++ ys) (length xs + at) ≡ xs ++ remove ys at
remove_past xs ys at =
    let same : (length xs + at) - length xs ≡ at = omega arith in
    remove-append_right xs ys (length xs) (length xs + at) refl (omega arith) ∙ ap (λ k. xs ++ remove ys k) same

-- an element comes to a place of a list
pub joined_insert : {A : Type 0} (ls : List (List A)) (i at : ℕ) (x : A) → i < length ls → at ≤ length (get_or ls i [])
    → joined (slice_set ls i (insert (get_or ls i []) at x)) ≡ insert (joined ls) (length (joined (take i ls)) + at) x
joined_insert ls i at x h within =
    joined_set ls i _ h
    ∙ sym (ap (λ z. insert z (length (joined (take i ls)) + at) x) (joined_at ls i h)
    ∙ insert_past (joined (take i ls)) _ at x
    ∙ ap (λ z. joined (take i ls) ++ z) (insert-append_left (get_or ls i []) (joined (drop (suc i) ls)) at x within))

-- an element goes from a place of a list
pub joined_remove : {A : Type 0} (ls : List (List A)) (i at : ℕ) → i < length ls → at < length (get_or ls i [])
    → joined (slice_set ls i (remove (get_or ls i []) at)) ≡ remove (joined ls) (length (joined (take i ls)) + at)
joined_remove ls i at h within =
    joined_set ls i _ h
    ∙ sym (ap (λ z. remove z (length (joined (take i ls)) + at)) (joined_at ls i h)
    ∙ remove_past (joined (take i ls)) _ at
    ∙ ap (λ z. joined (take i ls) ++ z) (remove-append_left (get_or ls i []) (joined (drop (suc i) ls)) at within))

-- a list less
pub joined_without : {A : Type 0} (ls : List (List A)) (i : ℕ) → joined (remove ls i) ≡ joined (take i ls) ++ joined (drop (suc i) ls)
joined_without ls i = flat_map-append (λ l. l) (take i ls) (drop (suc i) ls)

-- an empty list less
pub joined_without_empty : {A : Type 0} (ls : List (List A)) (i : ℕ) → i < length ls → get_or ls i [] ≡ [] → joined (remove ls i) ≡ joined ls
joined_without_empty ls i h empty = joined_without ls i ∙ sym (joined_at ls i h ∙ ap (λ z. joined (take i ls) ++ (z ++ joined (drop (suc i) ls))) empty)

-- what comes after some
pub drop_past : {A : Type 0} (xs ys : List A) (n : ℕ) → drop (length xs + n) (xs ++ ys) ≡ drop n ys
drop_past [] ys n = let same : 0 + n ≡ n = omega arith in ap (λ k. drop k ys) same
drop_past (x ∷ xs) ys n = let same : suc (length xs) + n ≡ suc (length xs + n) = omega arith in ap (λ k. drop k (x ∷ xs ++ ys)) same ∙ drop_past xs ys n

-- what comes up to a place after some
pub take_past : {A : Type 0} (xs ys : List A) (n : ℕ) → take (length xs + n) (xs ++ ys) ≡ xs ++ take n ys
take_past [] ys n = let same : 0 + n ≡ n = omega arith in ap (λ k. take k ys) same
take_past (x ∷ xs) ys n = let same : suc (length xs) + n ≡ suc (length xs + n) = omega arith in ap (λ k. take k (x ∷ xs ++ ys)) same ∙ ap (λ z. x ∷ z) (take_past xs ys n)

-- the front alone
pub take_front : {A : Type 0} (xs ys : List A) → take (length xs) (xs ++ ys) ≡ xs
take_front [] ys = refl
take_front (x ∷ xs) ys = ap (λ z. x ∷ z) (take_front xs ys)

-- the entries from a place of a list on
pub joined_from : {A : Type 0} (ls : List (List A)) (i at : ℕ) (part : List A) → i < length ls → at ≤ length (get_or ls i []) → part ≡ drop at (get_or ls i [])
    → part ≡ take (length part) (drop (length (joined (take i ls)) + at) (joined ls))
joined_from ls i at part h within is =
    let behind = joined (drop (suc i) ls) in
    let after : drop (length (joined (take i ls)) + at) (joined ls) ≡ part ++ behind =
    ap (drop (length (joined (take i ls)) + at)) (joined_at ls i h) ∙ drop_past (joined (take i ls)) (get_or ls i [] ++ behind) at ∙ drop-append-le at (get_or ls i []) behind within ∙ ap (λ z. z ++ behind) (sym is) in
    sym (ap (take (length part)) after ∙ take_front part behind)

-- the entries of a list up to a place
pub joined_until : {A : Type 0} (ls : List (List A)) (i at place : ℕ) (part : List A) → i < length ls → at ≤ length (get_or ls i []) → part ≡ take at (get_or ls i []) → length part ≡ at → place ≡ length (joined (take i ls)) + at
    → take place (joined ls) ≡ take (place - length part) (joined ls) ++ part
joined_until ls i at place part h within is long there =
    let front = joined (take i ls) in
    let behind = get_or ls i [] ++ joined (drop (suc i) ls) in
    let less : place - length part ≡ length front = omega arith in
    ap (λ n. take n (joined ls)) there ∙ ap (take (length front + at)) (joined_at ls i h) ∙ take_past front behind at
    ∙ ap (λ z. front ++ z) (take-append-le at (get_or ls i []) (joined (drop (suc i) ls)) within ∙ sym is)
    ∙ ap (λ z. z ++ part) (sym (ap (λ n. take n (joined ls)) less ∙ ap (take (length front)) (joined_at ls i h) ∙ take_front front behind))

-- an element written anew after some
pub set_past : {A : Type 0} (xs ys : List A) (at : ℕ) (y : A) → slice_set (xs ++ ys) (length xs + at) y ≡ xs ++ slice_set ys at y
set_past [] ys at y = let same : 0 + at ≡ at = omega arith in ap (λ k. slice_set ys k y) same
set_past (x ∷ xs) ys at y = let same : suc (length xs) + at ≡ suc (length xs + at) = omega arith in ap (λ k. slice_set (x ∷ xs ++ ys) k y) same ∙ ap (λ z. x ∷ z) (set_past xs ys at y)

-- an element of a list written anew
pub joined_written : {A : Type 0} (ls : List (List A)) (i at : ℕ) (x : A) → i < length ls → at < length (get_or ls i [])
    → joined (slice_set ls i (slice_set (get_or ls i []) at x)) ≡ slice_set (joined ls) (length (joined (take i ls)) + at) x
joined_written ls i at x h within =
    joined_set ls i _ h
    ∙ sym (ap (λ z. slice_set z (length (joined (take i ls)) + at) x) (joined_at ls i h)
    ∙ set_past (joined (take i ls)) _ at x
    ∙ ap (λ z. joined (take i ls) ++ z) (set-append_left (get_or ls i []) (joined (drop (suc i) ls)) at x within))

-- one list of two that are side by side
pub joined_join : {A : Type 0} (ls : List (List A)) (i : ℕ) → suc i < length ls → joined (slice_set (remove ls (suc i)) i (get_or ls i [] ++ get_or ls (suc i) [])) ≡ joined ls
joined_join [] i h = absurd (omega arith)
joined_join (l ∷ []) i h = absurd (omega arith)
joined_join (l ∷ m ∷ ls) zero h = append_assoc l m (joined ls)
joined_join (l ∷ m ∷ ls) (suc i) h = ap (λ z. l ++ z) (joined_join (m ∷ ls) i (omega arith))

-- to take a list out that was set is to take it out
pub remove_set : {A : Type 0} (ls : List (List A)) (i : ℕ) (p : List A) → remove (slice_set ls i p) i ≡ remove ls i
remove_set [] zero p = refl
remove_set [] (suc i) p = refl
remove_set (l ∷ ls) zero p = refl
remove_set (l ∷ ls) (suc i) p = ap (λ z. l ∷ z) (remove_set ls i p)

-- the list before one that is taken out
pub got_below : {A : Type 0} (ls : List (List A)) (i : ℕ) → get_or (remove ls (suc i)) i [] ≡ get_or ls i []
got_below [] zero = refl
got_below [] (suc i) = refl
got_below (l ∷ ls) zero = refl
got_below (l ∷ ls) (suc i) = got_below ls i

-- all lists but one are some
pub all_without : {A : Type 0} (P : List A → Type 0) (ls : List (List A)) (i : ℕ) → All P ls → All P (remove ls i)
all_without P ls i all = All-append P (take i ls) (drop (suc i) ls) (All-take P i ls all) (All-drop P (suc i) ls all)

-- and with it all are
pub all_with : {A : Type 0} (P : List A → Type 0) (ls : List (List A)) (i : ℕ) → i < length ls → All P (remove ls i) → P (get_or ls i []) → All P ls
all_with P [] i h all here = absurd (omega arith)
all_with P (l ∷ ls) zero h all here = All-cons P l ls here all
all_with P (l ∷ ls) (suc i) h all here = All-cons P l ls (All-head P l (remove ls i) all) (all_with P ls i (omega arith) (All-tail P l (remove ls i) all) here)

-- a list more
pub all_insert : {A : Type 0} (P : List A → Type 0) (ls : List (List A)) (i : ℕ) (p : List A) → All P ls → P p → All P (insert ls i p)
all_insert P ls i p all here = All-append P (take i ls) (p ∷ drop i ls) (All-take P i ls all) (All-cons P p (drop i ls) here (All-drop P i ls all))

-- the lists before one that came
pub take_insert : {A : Type 0} (ls : List (List A)) (i k : ℕ) (p : List A) → i ≤ k → k ≤ length ls → take i (insert ls k p) ≡ take i ls
take_insert ls zero k p h g = take_none (insert ls k p) ∙ sym (take_none ls)
  where
    take_none : {A : Type 0} (xs : List (List A)) → take 0 xs ≡ []
    take_none [] = refl
    take_none (x ∷ xs) = refl
take_insert [] (suc i) k p h g = absurd (omega arith)
take_insert (l ∷ ls) (suc i) zero p h g = absurd (omega arith)
take_insert (l ∷ ls) (suc i) (suc k) p h g = ap (λ z. l ∷ z) (take_insert ls i k p (omega arith) (omega arith))

-- two lists of one
pub joined_split : {A : Type 0} (ls : List (List A)) (i : ℕ) (p q : List A) → i < length ls → p ++ q ≡ get_or ls i [] → joined (insert (slice_set ls i p) (suc i) q) ≡ joined ls
joined_split [] i p q h e = absurd (omega arith)
joined_split (l ∷ ls) zero p q h e = sym (append_assoc p q (joined ls)) ∙ ap (λ z. z ++ joined ls) e
joined_split (l ∷ ls) (suc i) p q h e = ap (λ z. l ++ z) (joined_split ls i p q (omega arith) e)

-- an element of a list, among all
pub joined_got : {A : Type 0} (ls : List (List A)) (i at : ℕ) (d : A) → i < length ls → at < length (get_or ls i []) → get_or (joined ls) (length (joined (take i ls)) + at) d ≡ get_or (get_or ls i []) at d
joined_got ls i at d h within = get_or-flat_map (λ l. l) ls i at [] d h within
