-- Lists that grow at their ends.
use Rattle.std.proofs.Common.{ℕ, zero, suc, ◌≡◌, ◌+◌, ◌≤◌, ◌<◌, Bool, if◌then◌else◌, List, [], ◌∷◌, ◌++◌, length, map, get_or, take, refl, sym, ap, ◌∙◌, arith, append_assoc, append-nil, take-suc}
use Rattle.std.specs.List.{flat_map, list_any}
use Rattle.std.proofs.lemmas.Grind.{flat_map-append}
use Rattle.fs_sched_outcomes.specs.Ends.{reply_line}
use Rattle.fs_sched_outcomes.specs.Lines.{column_at, columns_from, differs, is_other, reply_in}
use Rattle.fs_sched_outcomes.specs.declared.rows.Row.{Row}

-- ---- lines of replies

taken_more : {V A : Type 0} (f : V → A) (xs : List V) (i : ℕ) (x : V) → i < length xs → x ≡ get_or xs i x → take (i + 1) (map f xs) ≡ take i (map f xs) ++ f x ∷ []
taken_more f [] i x less is = absurd (omega (arith, less))
taken_more f (y ∷ ys) zero x less is = ap (λ v. f v ∷ []) (sym is)
taken_more f (y ∷ ys) (suc i) x less is =
    let on : suc i + 1 ≡ suc (i + 1) = omega arith in
    ap (λ n. take n (f y ∷ map f ys)) on ∙ ap (λ l. f y ∷ l) (taken_more f ys i x (let z : suc i < suc (length ys) = less in omega (arith, z)) is)

taken_length : {V A : Type 0} (f : V → A) (xs : List V) (i : ℕ) → i < length xs → length (take i (map f xs)) ≡ i
taken_length f [] i less = absurd (omega (arith, less))
taken_length f (y ∷ ys) zero less = refl
taken_length f (y ∷ ys) (suc i) less = ap suc (taken_length f ys i (let z : suc i < suc (length ys) = less in omega (arith, z)))

pub replies_more : {V : Type 0} (f : V → List ℕ) (xs : List V) (replies : List (List ℕ)) (i : ℕ) (x : V) (text more : List ℕ) → i < length xs → map f xs ≡ replies → x ≡ get_or xs i x → text ≡ flat_map reply_line (take i replies)
    → more ≡ (text ++ f x) ++ 10 ∷ [] → more ≡ flat_map reply_line (take (i + 1) replies)
replies_more f xs replies i x text more less view is was adds =
    let all : take (i + 1) replies ≡ take i replies ++ f x ∷ [] = ap (take (i + 1)) (sym view) ∙ taken_more f xs i x less is ∙ ap (λ l. take i l ++ f x ∷ []) view in
    adds ∙ append_assoc text (f x) (10 ∷ []) ∙ ap (λ l. l ++ reply_line (f x)) was
    ∙ sym (ap (flat_map reply_line) all ∙ flat_map-append reply_line (take i replies) (f x ∷ []) ∙ ap (λ l. flat_map reply_line (take i replies) ++ l) (append-nil (reply_line (f x))))

-- ---- parts of lines

pub adds_more : {X : Type 0} (g : X → List ℕ) (xs : List X) (i : ℕ) (x : X) (old now new : List ℕ) → i < length xs → x ≡ get_or xs i x → now ≡ old ++ flat_map g (take i xs) → new ≡ now ++ g x → new ≡ old ++ flat_map g (take (i + 1) xs)
adds_more g xs i x old now new less is was adds =
    let on : i + 1 ≡ suc i = omega arith in
    let all : take (i + 1) xs ≡ take i xs ++ x ∷ [] = ap (λ n. take n xs) on ∙ take-suc xs i x less ∙ ap (λ y. take i xs ++ y ∷ []) (sym is) in
    adds ∙ ap (λ l. l ++ g x) was ∙ append_assoc old (flat_map g (take i xs)) (g x)
    ∙ ap (λ l. old ++ l) (sym (ap (flat_map g) all ∙ flat_map-append g (take i xs) (x ∷ []) ∙ ap (λ l. flat_map g (take i xs) ++ l) (append-nil (g x))))

columns_push : (shown : ℕ → Bool) (n i : ℕ) (labels : List (List ℕ)) (label : List ℕ) → i ≡ n + length labels → columns_from shown n (labels ++ label ∷ []) ≡ columns_from shown n labels ++ column_at shown i label
columns_push shown n i [] label is =
    let at : n ≡ i = (let z : i ≡ n + 0 = is in omega (arith, z)) in
    append-nil (column_at shown n label) ∙ ap (λ k. column_at shown k label) at
columns_push shown n i (x ∷ xs) label is =
    let z : i ≡ n + suc (length xs) = is in
    ap (λ l. column_at shown n x ++ l) (columns_push shown (n + 1) i xs label (omega (arith, z))) ∙ sym (append_assoc (column_at shown n x) (columns_from shown (n + 1) xs) (column_at shown i label))

pub columns_more : {V : Type 0} (shown : ℕ → Bool) (f : V → List ℕ) (xs : List V) (i : ℕ) (x : V) (at : ℕ) (b : Bool) (label : List ℕ) (old new : List (ℕ × List ℕ)) → i < length xs → x ≡ get_or xs i x → at ≡ i → b ≡ shown at → label ≡ f x
    → old ≡ columns_from shown 0 (take i (map f xs)) → new ≡ old ++ (if b then (at, label) ∷ [] else []) → new ≡ columns_from shown 0 (take (i + 1) (map f xs))
columns_more shown f xs i x at b label old new less is there test named was adds =
    let len : length (take i (map f xs)) ≡ i = taken_length f xs i less in
    let place : at ≡ 0 + length (take i (map f xs)) = omega (arith, there, len) in
    adds ∙ ap (λ l. l ++ (if b then (at, label) ∷ [] else [])) was ∙ ap (λ c. columns_from shown 0 (take i (map f xs)) ++ (if c then (at, label) ∷ [] else [])) test
    ∙ ap (λ l. columns_from shown 0 (take i (map f xs)) ++ column_at shown at l) named
    ∙ sym (ap (columns_from shown 0) (taken_more f xs i x less is) ∙ columns_push shown 0 at (take i (map f xs)) (f x) place)

pub differs_of : (rows : List Row) (i : ℕ) (first : Row) → 1 ≤ length rows → first ≡ get_or rows 0 first → list_any (is_other i (reply_in i first)) rows ≡ differs rows i
differs_of [] i first some is = absurd (let z : 1 ≤ 0 = some in omega (arith, z))
differs_of (row ∷ rows) i first some is = ap (λ (r : Row). list_any (is_other i (reply_in i r)) (row ∷ rows)) is
