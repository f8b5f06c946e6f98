-- The entries of a directory are put ahead, part by part.
use Rattle.std.proofs.Common.{◌≡◌, ℕ, zero, suc, ◌-◌, ◌≤◌, List, [], ◌∷◌, ◌++◌, length, take, drop, reverse, append_assoc, append-nil, length-append, refl, sym, ap, ◌∙◌, arith}
use Rattle.std.proofs.lemmas.List.{take-append-drop, length-take-le, map-append, reverse-append}
use Rattle.fs_names.specs.Names.{Name}
use Rattle.fs_names.specs.Keys.{Key}
use Rattle.fs_seq.specs.code.Walks.{entries_below}

-- nothing is taken
take_none : {A : Type 0} (all : List A) → take 0 all ≡ []
take_none [] = refl
take_none (x ∷ all) = refl

-- nothing is dropped
drop_none : {A : Type 0} (all : List A) → drop 0 all ≡ all
drop_none [] = refl
drop_none (x ∷ all) = refl

-- what comes from a part on
cut_end : {A : Type 0} (all part : List A) (left m : ℕ) → left ≤ length all → m ≤ left → take left all ≡ take m all ++ part → drop m all ≡ part ++ drop left all
cut_end all part left zero h g e = drop_none all ∙ sym (take-append-drop left all) ∙ ap (λ z. z ++ drop left all) (e ∙ ap (λ z. z ++ part) (take_none all))
cut_end [] part left (suc m) h g e = absurd (omega arith)
cut_end (x ∷ all) part zero (suc m) h g e = absurd (omega arith)
cut_end (x ∷ all) part (suc left) (suc m) h g e = let rest : take left all ≡ take m all ++ part = cc in cut_end all part left m (omega arith) (omega arith) rest

-- a part has no more entries than those up to its end
pub part_short : {A : Type 0} (all part : List A) (left : ℕ) → left ≤ length all → take left all ≡ take (left - length part) all ++ part → length part ≤ left
part_short all part left h e =
    let whole = length-take-le left all h in
    let both = ap length e ∙ length-append (take (left - length part) all) part in
    omega (arith, whole, both)

-- a part of the entries more ahead
pub ahead_more : (key : Key) (all part : List (Name × ℕ)) (left n : ℕ) (before old new : List (Key × ℕ)) → left ≤ length all → n ≡ length part → take left all ≡ take (left - length part) all ++ part
    → old ≡ before ++ reverse (entries_below key (drop left all)) → new ≡ old ++ reverse (entries_below key part) → new ≡ before ++ reverse (entries_below key (drop (left - n) all))
ahead_more key all part left n before old new h count e was went =
    let rest : drop (left - n) all ≡ part ++ drop left all = ap (λ k. drop (left - k) all) count ∙ cut_end all part left (left - length part) h (omega arith) e in
    let turned : reverse (entries_below key (drop (left - n) all)) ≡ reverse (entries_below key (drop left all)) ++ reverse (entries_below key part) =
    ap (λ z. reverse (entries_below key z)) rest ∙ ap reverse (map-append (λ (l : Name × ℕ). (key ++ l.0 ∷ [], l.1)) part (drop left all)) ∙ reverse-append (entries_below key part) (entries_below key (drop left all)) in
    went ∙ ap (λ z. z ++ reverse (entries_below key part)) was ∙ append_assoc before _ _ ∙ ap (λ z. before ++ z) (sym turned)

-- nothing is ahead from the end on
pub none_ahead : (key : Key) (all : List (Name × ℕ)) (n : ℕ) (before : List (Key × ℕ)) → n ≡ length all → before ++ reverse (entries_below key (drop n all)) ≡ before
none_ahead key all n before e = ap (λ z. before ++ reverse (entries_below key z)) (past all n e) ∙ append-nil before
  where
    past : (all : List (Name × ℕ)) (n : ℕ) → n ≡ length all → drop n all ≡ []
    past [] zero e = refl
    past [] (suc n) e = refl
    past (x ∷ all) zero e = absurd (omega arith)
    past (x ∷ all) (suc n) e = past all n (omega arith)

-- all are, from the first on
pub all_ahead : (key : Key) (all : List (Name × ℕ)) (n : ℕ) (before now : List (Key × ℕ)) → n ≡ 0 → now ≡ before ++ reverse (entries_below key (drop n all)) → now ≡ before ++ reverse (entries_below key all)
all_ahead key all n before now e is = is ∙ ap (λ z. before ++ reverse (entries_below key z)) (ap (λ k. drop k all) e ∙ drop_none all)
