-- Parts with a byte after each, and parts that are joined by it.
use Rattle.std.proofs.Common.{◌≡◌, ℕ, ◌+◌, ◌-◌, ◌<◌, ◌≤◌, List, [], ◌∷◌, ◌++◌, length, take, drop, get_or, sym, ap, ◌∙◌, append_assoc, append-nil, length-append, arith}
use Rattle.std.specs.List.{join_with_byte}
use Rattle.std.proofs.Math.Seq.{take-append_seam}
use Rattle.std.proofs.lemmas.Grind.{flat_map-append}
use Rattle.std.proofs.lemmas.List.{at_drop_more, at_drop_all}
use Rattle.fs_sched_reach.specs.code.Joined.{closed}

-- the last byte comes after the joined parts
pub closed_join : (c : ℕ) (p : List ℕ) (ps : List (List ℕ)) → closed c (p ∷ ps) ≡ join_with_byte c (p ∷ ps) ++ c ∷ []
closed_join c p [] = append-nil (p ++ c ∷ [])
closed_join c p (q ∷ qs) =
    let joined : List ℕ = join_with_byte c (q ∷ qs) in
    ap (λ (l : List ℕ). (p ++ c ∷ []) ++ l) (closed_join c q qs) ∙ append_assoc p (c ∷ []) (joined ++ c ∷ []) ∙ sym (append_assoc p (c ∷ joined) (c ∷ []))

pub closed_append : (c : ℕ) (xs ys : List (List ℕ)) → closed c (xs ++ ys) ≡ closed c xs ++ closed c ys
closed_append c xs ys = flat_map-append (λ (part : List ℕ). part ++ c ∷ []) xs ys

-- without it there are the joined parts
pub popped : (front : List ℕ) (c : ℕ) (parts : List (List ℕ)) (text : List ℕ) → text ≡ front ++ closed c parts → length front < length text → take (length text - 1) text ≡ front ++ join_with_byte c parts
popped front c [] text is less = absurd (let e : length text ≡ length front = ap length (is ∙ append-nil front) in omega (arith, e, less))
popped front c (p ∷ ps) text is less =
    let joined : List ℕ = join_with_byte c (p ∷ ps) in
    let e : text ≡ (front ++ joined) ++ c ∷ [] = is ∙ ap (λ (l : List ℕ). front ++ l) (closed_join c p ps) ∙ sym (append_assoc front joined (c ∷ [])) in
    let all : length text ≡ length (front ++ joined) + 1 = ap length e ∙ length-append (front ++ joined) (c ∷ []) in
    let n : length text - 1 ≡ length (front ++ joined) = omega (arith, all) in
    ap (λ (k : ℕ). take k text) n ∙ ap (λ (l : List ℕ). take (length (front ++ joined)) l) e ∙ take-append_seam (front ++ joined) (c ∷ [])

-- if there is no byte from a place on, there are no parts
pub unpopped : (front : List ℕ) (c : ℕ) (parts : List (List ℕ)) (text : List ℕ) → text ≡ front ++ closed c parts → length text ≤ length front → text ≡ front ++ join_with_byte c parts
unpopped front c [] text is most = is
unpopped front c (p ∷ ps) text is most =
    let joined : List ℕ = join_with_byte c (p ∷ ps) in
    let e : text ≡ (front ++ joined) ++ c ∷ [] = is ∙ ap (λ (l : List ℕ). front ++ l) (closed_join c p ps) ∙ sym (append_assoc front joined (c ∷ [])) in
    let all : length text ≡ length (front ++ joined) + 1 = ap length e ∙ length-append (front ++ joined) (c ∷ []) in
    let both : length (front ++ joined) ≡ length front + length joined = length-append front joined in
    absurd (omega (arith, all, both, most))

-- parts that are added one after the other: all of them are those so far and those to what is left
pub part_more : {A : Type 0} (parts : List A → List (List ℕ)) (part : A → List ℕ) (c : ℕ) (xs : List A) (i : ℕ) (d : A) (all now new : List ℕ) → ((x : A) (ys : List A) → parts (x ∷ ys) ≡ part x ∷ parts ys)
    → i < length xs → all ≡ now ++ closed c (parts (drop i xs)) → new ≡ now ++ (part (get_or xs i d) ++ c ∷ []) → all ≡ new ++ closed c (parts (drop (i + 1) xs))
part_more parts part c xs i d all now new one less so_far adds =
    let x = get_or xs i d in
    let rest = drop (i + 1) xs in
    so_far
    ∙ ap (λ (l : List (List ℕ)). now ++ closed c l) (at_drop_more parts xs i d less ∙ one x rest)
    ∙ sym (append_assoc now (part x ++ c ∷ []) (closed c (parts rest)))
    ∙ ap (λ (l : List ℕ). l ++ closed c (parts rest)) (sym adds)

pub parts_end : {A : Type 0} (parts : List A → List (List ℕ)) (c : ℕ) (xs : List A) (i : ℕ) (all now : List ℕ) → parts [] ≡ [] → length xs ≤ i → all ≡ now ++ closed c (parts (drop i xs)) → now ≡ all
parts_end parts c xs i all now none past so_far =
    sym (so_far ∙ ap (λ (l : List (List ℕ)). now ++ closed c l) (at_drop_all parts xs i past ∙ none) ∙ append-nil now)
