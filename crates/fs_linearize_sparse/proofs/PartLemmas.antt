-- Parts of the bytes of extents.
use Rattle.std.proofs.Common.{◌≡◌, ℕ, zero, suc, ◌+◌, ◌-◌, ◌<◌, ◌≤◌, min, List, [], ◌∷◌, ◌++◌, length, length-append, length-drop, take, drop, get_or, replicate, refl, sym, ap, ◌∙◌, arith, append_assoc, append-nil}
use Rattle.std.proofs.Math.Seq.{get_or-append_right}
use Rattle.std.proofs.lemmas.List.{length-replicate, take-replicate, drop-replicate, take_min, drop_more, drop_all, get_or_append_left, get_or-replicate}
use Rattle.std.specs.List.{flat_map}
use Rattle.fs_linearize_sparse.specs.declared.extent.Extent.{Extent}
use Rattle.fs_linearize_sparse.specs.code.Extents.{bytes_of}

-- ---- of two lists

take_append : (n : ℕ) (xs ys : List ℕ) → take n (xs ++ ys) ≡ take n xs ++ take (n - length xs) ys
take_append zero xs ys = let none : 0 - length xs ≡ 0 = omega arith in sym (ap (λ k. take k ys) none)
take_append (suc n) [] ys = let all : suc n - 0 ≡ suc n = omega arith in sym (ap (λ k. take k ys) all)
take_append (suc n) (x ∷ xs) ys =
    let less : suc n - suc (length xs) ≡ n - length xs = omega arith in
    ap (λ zs. x ∷ zs) (take_append n xs ys) ∙ sym (ap (λ k. x ∷ (take n xs ++ take k ys)) less)

drop_append : (n : ℕ) (xs ys : List ℕ) → drop n (xs ++ ys) ≡ drop n xs ++ drop (n - length xs) ys
drop_append zero xs ys = let none : 0 - length xs ≡ 0 = omega arith in sym (ap (λ k. xs ++ drop k ys) none)
drop_append (suc n) [] ys = let all : suc n - 0 ≡ suc n = omega arith in sym (ap (λ k. drop k ys) all)
drop_append (suc n) (x ∷ xs) ys =
    let less : suc n - suc (length xs) ≡ n - length xs = omega arith in
    drop_append n xs ys ∙ sym (ap (λ k. drop n xs ++ drop k ys) less)

pub part_append : (s c : ℕ) (xs ys : List ℕ) → take c (drop s (xs ++ ys)) ≡ take c (drop s xs) ++ take (c - (length xs - s)) (drop (s - length xs) ys)
part_append s c xs ys =
    ap (take c) (drop_append s xs ys)
    ∙ take_append c (drop s xs) (drop (s - length xs) ys)
    ∙ ap (λ k. take c (drop s xs) ++ take (c - k) (drop (s - length xs) ys)) (length-drop s xs)

-- ---- of zeros

pub zeros_part : (hole s c : ℕ) → replicate {A = ℕ} (min (hole - s) c) 0 ≡ take c (drop s (replicate hole 0))
zeros_part hole s c =
    let n = hole - s in
    let few : min c n ≤ n = omega arith in
    let turn : min n c ≡ min c n = omega arith in
    ap (λ k. replicate {A = ℕ} k 0) turn
    ∙ sym (take-replicate (min c n) n 0 few)
    ∙ ap (λ k. take (min c k) (replicate {A = ℕ} n 0)) (sym (length-replicate n 0))
    ∙ take_min c (replicate {A = ℕ} n 0)
    ∙ sym (ap (take c) (drop-replicate s hole 0))

-- ---- of an extent

extent_len : (e : Extent) → length (bytes_of e) ≡ e.hole + length e.data.items
extent_len e = length-append (replicate {A = ℕ} e.hole 0) e.data.items ∙ ap (λ n. n + length e.data.items) (length-replicate e.hole 0)

pub extent_part : (s c s' c' : ℕ) (e : Extent) → s' ≡ s - e.hole → c' ≡ c - (e.hole - s) → take c (drop s (bytes_of e)) ≡ take c (drop s (replicate {A = ℕ} e.hole 0)) ++ take c' (drop s' e.data.items)
extent_part s c s' c' e skip count =
    part_append s c (replicate {A = ℕ} e.hole 0) e.data.items
    ∙ ap (λ n. take c (drop s (replicate {A = ℕ} e.hole 0)) ++ take (c - (n - s)) (drop (s - n) e.data.items)) (length-replicate e.hole 0)
    ∙ ap (λ n. take c (drop s (replicate {A = ℕ} e.hole 0)) ++ take n (drop (s - e.hole) e.data.items)) (sym count)
    ∙ ap (λ n. take c (drop s (replicate {A = ℕ} e.hole 0)) ++ take c' (drop n e.data.items)) (sym skip)

pub extent_left : (s c s' c' s'' c'' : ℕ) (e : Extent) (rest : List ℕ) → s' ≡ s - e.hole → c' ≡ c - (e.hole - s) → s'' ≡ s' - length e.data.items → c'' ≡ c' - (length e.data.items - s')
    → take c (drop s (bytes_of e ++ rest)) ≡ take c (drop s (bytes_of e)) ++ take c'' (drop s'' rest)
extent_left s c s' c' s'' c'' e rest skip count skip' count' =
    let long = extent_len e in
    let less : c - (length (bytes_of e) - s) ≡ c'' = omega (arith, long, skip, count, skip', count') in
    let past : s - length (bytes_of e) ≡ s'' = omega (arith, long, skip, count, skip', count') in
    part_append s c (bytes_of e) rest
    ∙ ap (λ n. take c (drop s (bytes_of e)) ++ take n (drop (s - length (bytes_of e)) rest)) less
    ∙ ap (λ n. take c (drop s (bytes_of e)) ++ take c'' (drop n rest)) past

-- ---- of extents

pub bytes_next : (es : List Extent) (i : ℕ) (e : Extent) → i < length es → e ≡ get_or es i e → flat_map bytes_of (drop i es) ≡ bytes_of e ++ flat_map bytes_of (drop (i + 1) es)
bytes_next es i e small is = ap (flat_map bytes_of) (drop_more es i e small) ∙ ap (λ x. bytes_of x ++ flat_map bytes_of (drop (i + 1) es)) (sym is)

pub part_next : (to to' all : List ℕ) (es : List Extent) (i s c s' c' : ℕ) (e : Extent) → i < length es → e ≡ get_or es i e
    → to ++ take c (drop s (flat_map bytes_of (drop i es))) ≡ all
    → to' ≡ to ++ take c (drop s (bytes_of e))
    → ((rest : List ℕ) → take c (drop s (bytes_of e ++ rest)) ≡ take c (drop s (bytes_of e)) ++ take c' (drop s' rest))
    → to' ++ take c' (drop s' (flat_map bytes_of (drop (i + 1) es))) ≡ all
part_next to to' all es i s c s' c' e small is before added left =
    let rest = flat_map bytes_of (drop (i + 1) es) in
    ap (λ z. z ++ take c' (drop s' rest)) added
    ∙ append_assoc to (take c (drop s (bytes_of e))) (take c' (drop s' rest))
    ∙ ap (λ z. to ++ z) (sym (left rest))
    ∙ ap (λ z. to ++ take c (drop s z)) (sym (bytes_next es i e small is))
    ∙ before

nothing_taken : (c s : ℕ) → ◌≡◌ {A = List ℕ} (take c (drop s [])) []
nothing_taken zero s = refl
nothing_taken (suc c) zero = refl
nothing_taken (suc c) (suc s) = refl

pub part_end : (to all : List ℕ) (es : List Extent) (i s c : ℕ) → length es ≤ i → to ++ take c (drop s (flat_map bytes_of (drop i es))) ≡ all → to ≡ all
part_end to all es i s c past before =
    sym (append-nil to)
    ∙ ap (λ z. to ++ z) (sym (nothing_taken c s))
    ∙ ap (λ z. to ++ take c (drop s (flat_map bytes_of z))) (sym (drop_all i es past))
    ∙ before

-- ---- one byte

in_hole : (e : Extent) (rest : List ℕ) (i : ℕ) → i < e.hole → get_or (bytes_of e ++ rest) i 0 ≡ 0
in_hole e rest i small =
    let hole = replicate {A = ℕ} e.hole 0 in
    let within : i < length hole = let long : length hole ≡ e.hole = length-replicate e.hole 0 in omega (arith, long, small) in
    let inside : i < length (bytes_of e) = let long = extent_len e in omega (arith, long, small) in
    get_or_append_left (bytes_of e) rest 0 i inside
    ∙ get_or_append_left hole e.data.items 0 i within
    ∙ get_or-replicate e.hole i 0 0 small

after_hole : (e : Extent) (rest : List ℕ) (i : ℕ) → e.hole ≤ i → get_or (bytes_of e ++ rest) i 0 ≡ get_or (e.data.items ++ rest) (i - e.hole) 0
after_hole e rest i past =
    let hole = replicate {A = ℕ} e.hole 0 in
    let long : length hole ≡ e.hole = length-replicate e.hole 0 in
    let behind : length hole ≤ i = omega (arith, long, past) in
    ap (λ (z : List ℕ). get_or z i 0) (append_assoc hole e.data.items rest)
    ∙ get_or-append_right hole (e.data.items ++ rest) i 0 behind
    ∙ ap (λ n. get_or (e.data.items ++ rest) (i - n) 0) long

pub byte_hole : (es : List Extent) (i left : ℕ) (e : Extent) → i < length es → e ≡ get_or es i e → left < e.hole → get_or (flat_map bytes_of (drop i es)) left 0 ≡ 0
byte_hole es i left e small is inside = ap (λ (z : List ℕ). get_or z left 0) (bytes_next es i e small is) ∙ in_hole e (flat_map bytes_of (drop (i + 1) es)) left inside

pub byte_data : (es : List Extent) (i left : ℕ) (e : Extent) → i < length es → e ≡ get_or es i e → e.hole ≤ left → left - e.hole < length e.data.items
    → get_or (flat_map bytes_of (drop i es)) left 0 ≡ get_or e.data.items (left - e.hole) 0
byte_data es i left e small is past inside =
    let rest = flat_map bytes_of (drop (i + 1) es) in
    ap (λ (z : List ℕ). get_or z left 0) (bytes_next es i e small is)
    ∙ after_hole e rest left past
    ∙ get_or_append_left e.data.items rest 0 (left - e.hole) inside

pub byte_next : (es : List Extent) (i left : ℕ) (e : Extent) → i < length es → e ≡ get_or es i e → e.hole ≤ left → length e.data.items ≤ left - e.hole
    → get_or (flat_map bytes_of (drop i es)) left 0 ≡ get_or (flat_map bytes_of (drop (i + 1) es)) (left - e.hole - length e.data.items) 0
byte_next es i left e small is past beyond =
    let rest = flat_map bytes_of (drop (i + 1) es) in
    ap (λ (z : List ℕ). get_or z left 0) (bytes_next es i e small is)
    ∙ after_hole e rest left past
    ∙ get_or-append_right e.data.items rest (left - e.hole) 0 beyond
