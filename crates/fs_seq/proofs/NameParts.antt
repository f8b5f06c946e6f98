-- Names of entries, part by part.
use Rattle.std.proofs.Common.{◌≡◌, ℕ, zero, suc, ◌+◌, ◌-◌, ◌<◌, ◌≤◌, List, [], ◌∷◌, ◌++◌, length, map, take, drop, length-drop, true, refl, sym, ap, ◌∙◌, arith}
use Rattle.std.proofs.lemmas.List.{take-map, length-map}
use Rattle.fs_names.specs.Names.{Name}
use Rattle.fs_calls.specs.Sights.{has_any}
use Rattle.fs_seq_nodes.specs.declared.nodes.Link.{Link}
use Rattle.fs_seq_nodes.specs.code.Nodes.{pair, pairs}

-- a part and the next one
take_both : {A : Type 0} (xs : List A) (a b : ℕ) → take a xs ++ take b (drop a xs) ≡ take (a + b) xs
take_both [] zero b = let e : 0 + b ≡ b = omega arith in ap (λ k. take k []) (sym e)
take_both [] (suc a) zero = let e : suc a + 0 ≡ suc a = omega arith in ap (λ k. take k []) (sym e)
take_both [] (suc a) (suc b) = let e : suc a + suc b ≡ suc (a + suc b) = omega arith in ap (λ k. take k []) (sym e)
take_both (x ∷ xs) zero b = let e : 0 + b ≡ b = omega arith in ap (λ k. take k (x ∷ xs)) (sym e)
take_both (x ∷ xs) (suc a) b = let e : suc a + b ≡ suc (a + b) = omega arith in ap (λ z. x ∷ z) (take_both xs a b) ∙ ap (λ k. take k (x ∷ xs)) (sym e)

-- what comes after both
drop_both : {A : Type 0} (xs : List A) (a b : ℕ) → drop (a + b) xs ≡ drop b (drop a xs)
drop_both [] zero b = let e : 0 + b ≡ b = omega arith in ap (λ k. drop k []) e
drop_both [] (suc a) zero = let e : suc a + 0 ≡ suc a = omega arith in ap (λ k. drop k []) e
drop_both [] (suc a) (suc b) = let e : suc a + suc b ≡ suc (a + suc b) = omega arith in ap (λ k. drop k []) e
drop_both (x ∷ xs) zero b = let e : 0 + b ≡ b = omega arith in ap (λ k. drop k (x ∷ xs)) e
drop_both (x ∷ xs) (suc a) b = let e : suc a + b ≡ suc (a + b) = omega arith in ap (λ k. drop k (x ∷ xs)) e ∙ drop_both xs a b

-- a part of a part
take_less : {A : Type 0} (xs : List A) (a b : ℕ) → a ≤ b → take a (take b xs) ≡ take a xs
take_less [] zero zero h = refl
take_less [] zero (suc b) h = refl
take_less [] (suc a) zero h = refl
take_less [] (suc a) (suc b) h = refl
take_less (x ∷ xs) zero zero h = refl
take_less (x ∷ xs) zero (suc b) h = refl
take_less (x ∷ xs) (suc a) zero h = absurd (omega arith)
take_less (x ∷ xs) (suc a) (suc b) h = ap (λ z. x ∷ z) (take_less xs a b (omega arith))

-- the names from a place on
pub drop_names : (links : List (Name × ℕ)) (n : ℕ) → map (λ l. l.0) (drop n links) ≡ drop n (map (λ l. l.0) links)
drop_names [] zero = refl
drop_names [] (suc n) = refl
drop_names (l ∷ links) zero = refl
drop_names (l ∷ links) (suc n) = drop_names links n

-- a part of the names more
pub names_more : (all : List (Name × ℕ)) (part : List Link) (from at m : ℕ) → from ≤ at → pairs part ≡ take (length part) (drop at all) → m ≤ length part
    → take (at - from) (drop from (map (λ l. l.0) all)) ++ map (λ l. l.0) (pairs (take m part)) ≡ take (at + m - from) (drop from (map (λ l. l.0) all))
names_more all part from at m after is few =
    let names = map (λ l. l.0) all in
    let there : from + (at - from) ≡ at = omega arith in
    let more : (at - from) + m ≡ at + m - from = omega arith in
    let next : map (λ l. l.0) (pairs (take m part)) ≡ take m (drop (at - from) (drop from names)) =
    ap (map (λ l. l.0)) (sym (take-map pair m part) ∙ ap (take m) is ∙ take_less (drop at all) m (length part) few)
    ∙ sym (take-map (λ l. l.0) m (drop at all)) ∙ ap (take m) (drop_names all at ∙ ap (λ k. drop k names) (sym there) ∙ drop_both names from (at - from)) in
    ap (λ z. take (at - from) (drop from names) ++ z) next ∙ take_both (drop from names) (at - from) m ∙ ap (λ k. take k (drop from names)) more

-- if any are taken, there are some
some_taken : (names : List Name) (n : ℕ) → 0 < n → 0 < length names → has_any (take n names) ≡ true
some_taken [] n h g = absurd (omega arith)
some_taken (x ∷ names) zero h g = absurd (omega arith)
some_taken (x ∷ names) (suc n) h g = refl

pub some_names : (all : List (Name × ℕ)) (from end : ℕ) → from ≤ end → end ≤ length all → 0 < end - from → has_any (take (end - from) (drop from (map (λ l. l.0) all))) ≡ true
some_names all from end before within some =
    let long = length-map all (λ l. l.0) in
    let rest = length-drop from (map (λ l. l.0) all) in
    some_taken (drop from (map (λ l. l.0) all)) (end - from) some (omega (arith, long, rest))

-- all names from the first on
all_taken : (names : List Name) (n : ℕ) → n ≡ length names → take n names ≡ names
all_taken [] zero e = refl
all_taken [] (suc n) e = absurd (omega arith)
all_taken (x ∷ names) zero e = absurd (omega arith)
all_taken (x ∷ names) (suc n) e = ap (λ z. x ∷ z) (all_taken names n (omega arith))

none_dropped : (names : List Name) → drop 0 names ≡ names
none_dropped [] = refl
none_dropped (x ∷ names) = refl

pub whole_names : (all : List (Name × ℕ)) (n : ℕ) → n ≡ length all → take (n - 0) (drop 0 (map (λ l. l.0) all)) ≡ map (λ l. l.0) all
whole_names all n e =
    let names = map (λ l. l.0) all in
    let less : n - 0 ≡ n = omega arith in
    ap (λ k. take k (drop 0 names)) less ∙ ap (take n) (none_dropped names) ∙ all_taken names n (e ∙ sym (length-map all (λ l. l.0)))
